-- What is done for a line, as it is told.
use Rattle.std.proofs.Common.{◌≡◌, ℕ, Bool, false, List, [], ◌∷◌, ◌++◌, length, Some, Result, Ok, Err, refl, sym, ◌∙◌, ap, subst, arith, append-nil}
use Rattle.std.specs.Prelude.{OnOk, codes}
use Rattle.chip_model.specs.Chip.{Chip}
use Rattle.mcal_base.specs.declared.directive.Order.{Order}
use Rattle.mcal_base.specs.declared.directive.Request.{Request}
use Rattle.run_model.proofs.Following.{after_all-append}
use Rattle.run_model.specs.Entry.{Entry, Said}
use Rattle.run_model.specs.Follows.{Gives}
use Rattle.run_model.specs.Moment.{Moment, Transition, after_all, start_moment}
use Rattle.run_model.specs.Script.{deed_of}
use Rattle.step_runner.specs.Driver.{Driver}
use Rattle.step_runner.specs.Stands.{Stands}
use Rattle.bench_report.specs.Report.{frames_after, said_lines}
use Rattle.bench_report.specs.declared.frames.Purpose.{Purpose}
use Rattle.live_board.specs.Lives.{LiveRun}
use Rattle.live_session.specs.Answers.{Answers, As_far, EndsAt, IsObeyed, IsSpent, WasSpent, moment_at}
use Rattle.live_session.specs.Pages.{Page, refused, say_all}

-- where what tells of it found memory
pub on_ok : {R E A B C : Type 0} (x : Result R E) → (A → B → C) → OnOk x A → OnOk x B → OnOk x C
on_ok (Ok r) f a b = f a b
on_ok (Err e) f a b = tt

pub on_ok_alone : {R E A B : Type 0} (x : Result R E) → (A → B) → OnOk x A → OnOk x B
on_ok_alone (Ok r) f a = f a
on_ok_alone (Err e) f a = tt

module _ {M State Call Frame : Type 0} (d : Driver State Call Frame) (call_of : Request → Call) (order : Order) where
  -- nothing was done
  pub answers_nothing : (traced : Bool) (a : LiveRun M Frame) (f : List Purpose) (p : Page) (R : Moment State Call → List Entry → Type 0) → ((first : Chip) (h : List (Transition Call)) → EndsAt d first a h → R (moment_at d first h) []) → Answers d call_of traced order a a f f p p R
  answers_nothing traced a f p R right = record {
    items = [];
    goes = λ first h e. subst (λ hs. EndsAt d first a hs) (sym (append-nil h)) e;
    right = right;
    frames_are = refl;
    page_is = refl;
  }

  -- nothing was done, since something is used up
  pub spent_here : (traced : Bool) (a b : LiveRun M Frame) (f : List Purpose) (p p1 : Page) → b ≡ a → IsSpent order a → p1 ≡ refused p (codes "Spent") → WasSpent d call_of traced order a b f f p p1
  spent_here traced a b f p p1 same spent page = record {
    between = p;
    answers = subst (λ x. Answers d call_of traced order a x f f p p (λ m items. Unit {0})) (sym same) (answers_nothing traced a f p (λ m items. Unit {0}) (λ first h e. tt));
    spent = subst (λ x. IsSpent order x) (sym same) spent;
    page_is = page;
  }

  -- as it is told
  pub spent_told : {R E : Type 0} (x : Result R E) (line : ℕ) (a b : LiveRun M Frame) (f : List Purpose) (p p1 : Page) → b ≡ a → IsSpent order a → OnOk x (p1 ≡ refused p (codes "Spent")) → OnOk x (IsObeyed d call_of false order a b f f p p1 (λ m items. Gives d.setting call_of m line order items))
  spent_told x line a b f p p1 same spent page = on_ok_alone x (λ told. As_far (spent_here false a b f p p1 same spent told)) page

  -- one item that counts no step
  pub one_item : (traced : Bool) (line : ℕ) (said : Said) (a b : LiveRun M Frame) (f f1 : List Purpose) (p p1 : Page) (R : Moment State Call → List Entry → Type 0) →
      ((first : Chip) (h : List (Transition Call)) → Stands d first a.chip a.kept.frames h → Stands d first b.chip b.kept.frames (h ++ deed_of call_of (Some order) said)) →
      ((m : Moment State Call) → (after_all d.setting m (deed_of call_of (Some order) said)).steps ≡ m.steps) → b.kept.steps ≡ a.kept.steps →
      ((first : Chip) (h : List (Transition Call)) → EndsAt d first a h → R (moment_at d first h) ((record { line = line; depth = length a.kept.frames; said = said }) ∷ [])) →
      f1 ≡ frames_after order f said → p1 ≡ say_all p (said_lines traced (length a.kept.frames) f [] false said) → Answers d call_of traced order a b f f1 p p1 R
  one_item traced line said a b f f1 p p1 R goes none same right frames page =
      let deeds = deed_of call_of (Some order) said in
      record {
        items = (record { line = line; depth = length a.kept.frames; said = said }) ∷ [];
        goes = λ first h e. subst (λ ds. EndsAt d first b (h ++ ds)) (sym (append-nil deeds)) (record {
          stands = goes first h e.stands;
          few = omega (arith, ap (λ m. m.steps) (after_all-append d.setting (start_moment d.setting first) h deeds), none (moment_at d first h), e.few, same);
        });
        right = right;
        frames_are = frames;
        page_is = page ∙ ap (λ ls. say_all p ls) (sym (append-nil (said_lines traced (length a.kept.frames) f [] false said)));
      }
