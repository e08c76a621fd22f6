-- A beginning by what held it.
use Rattle.std.proofs.Common.{◌≡◌, ℕ, List, Option, Result, Ok, Err, refl, ◌∙◌, ap, sym, subst}
use Rattle.std.specs.Prelude.{OnOk}
use Rattle.irq_control.specs.declared.held.Held.{Held}
use Rattle.mcal_base.specs.declared.directive.Order.{Order}
use Rattle.run_model.specs.Moment.{Transition}
use Rattle.step_runner.specs.Driver.{Driver}
use Rattle.step_runner.specs.Kept.{cause_of}
use Rattle.step_runner.specs.Stands.{done}
use Rattle.bench_report.specs.Report.{frames_after}
use Rattle.bench_report.specs.declared.frames.Purpose.{Purpose}
use Rattle.live_board.specs.Lives.{GoesOn, IsBeside, LiveRun}
use Rattle.live_session.specs.Beginnings.{IsBegun, deeds_by, said_of, lines_of}
use Rattle.live_session.specs.Pages.{Page, say_all}

done_by : {A Call : Type 0} (r : Result A Held) (deed : Transition Call) → done r deed ≡ deeds_by (cause_of r) deed
done_by (Ok a) deed = refl
done_by (Err cause) deed = refl

begun : {A M State Call Frame : Type 0} (d : Driver State Call Frame) (order : Order) (r : Result A Held) (held : Option Held) (deed : Transition Call) (before after : LiveRun M Frame) (frames later : List Purpose) (page told : Page) →
    cause_of r ≡ held → GoesOn d before after (done r deed) → IsBeside before after → later ≡ frames_after order frames (said_of (cause_of r)) → told ≡ say_all page (lines_of (cause_of r)) → IsBegun d order held deed before after frames later page told
begun d order r held deed before after frames later page told is goes beside f p = record {
  goes = subst (λ ds. GoesOn d before after ds) (done_by r deed ∙ ap (λ (o : Option Held). deeds_by o deed) is) goes;
  beside = beside;
  frames_are = f ∙ ap (λ (o : Option Held). frames_after order frames (said_of o)) is;
  page_is = p ∙ ap (λ (o : Option Held). say_all page (lines_of o)) is;
}

-- where what tells of it found memory
pub begun_where : {R E A M State Call Frame : Type 0} (x : Result R E) (d : Driver State Call Frame) (order : Order) (r : Result A Held) (held : Option Held) (deed : Transition Call) (before between after : LiveRun M Frame) (frames later : List Purpose) (page told : Page) →
    cause_of r ≡ held → GoesOn d before between (done r deed) → IsBeside before between → after ≡ between → OnOk x (told ≡ say_all page (lines_of (cause_of r))) → OnOk x (later ≡ frames_after order frames (said_of (cause_of r))) → OnOk x (IsBegun d order held deed before after frames later page told)
begun_where (Ok a) d order r held deed before between after frames later page told is goes beside same p f =
    begun d order r held deed before after frames later page told is (subst (λ now. GoesOn d before now (done r deed)) (sym same) goes) (subst (λ now. IsBeside before now) (sym same) beside) f p
begun_where (Err e) d order r held deed before between after frames later page told is goes beside same p f = tt
