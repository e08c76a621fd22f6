-- A step that waits, whose line was read behind that of its wait.
use Rattle.std.proofs.Common.{◌≡◌, ℕ, ◌++◌, false, List, [], ◌∷◌, length, Some, None, refl, sym, ap, subst}
use Rattle.bench_report.specs.Lines.{Line, Makes, Waits}
use Rattle.bench_report.specs.Numbers.{IsNumber}
use Rattle.mcal_base.specs.declared.directive.Order.TheVariants.{Tick}
use Rattle.mcal_base.specs.facts.Truths.{off_on}
use Rattle.run_model.specs.Moment.{Setting, Happens, after}
use Rattle.run_model.specs.declared.item.Stepped.{Stepped}
use Rattle.report_text.specs.reading.Blocks.{AuditState, printed}
use Rattle.report_text.specs.reading.Steps.{Comes, StepComes, AtOnce}
use Rattle.report_text.specs.Unread.{Unread, after_told, own_text, told_next}
use Rattle.report_text.proofs.Owning.{reads}
use Rattle.trace_reader.specs.declared.told.Step.{Step}
use Rattle.trace_reader.specs.declared.told.Told.TheVariants as tells
use Rattle.report_steps.specs.Going.{IsAwaited, MakesAwaited, WaitsRight, is_reset, step_in, step_lines, waited_to}
use Rattle.report_steps.specs.StepRules.{MakesStep, lines_behind, told_of}
use Rattle.report_steps.specs.declared.series.Came.{Came}
use Rattle.report_steps.specs.declared.series.Came.TheVariants as came
use Rattle.report_steps.proofs.NextLaws.{legal_top, only_told, text_made}
use Rattle.report_steps.proofs.StepsAll.{fits_told, same_line}
use Rattle.report_steps.proofs.WaitLaws.{came_awaited, comes_awaited}

module _ {State Call : Type 0} (g : Setting State Call) (p : AuditState State Call) (ticks : ℕ) (S : AuditState State Call → Type 0) (r : Unread) (number : IsNumber r.number) (few : IsNumber (length (waited_to g p ticks).moment.opens)) where
  abbrev here : AuditState State Call
  here = waited_to g p ticks

  -- the next line is that of no step
  pub no_step : (rest : List ℕ) → ((s : Step) → told_next r ≡ Some (tells.Step s) → ⊥) → MakesAwaited g p ticks S r.number (own_text r) rest None
  no_step rest other x more awaited none e =
      other (told_of (length here.moment.opens) x)
      (reads r (Makes (length here.moment.opens) x.made x.value x.received x.event) (printed r.number (lines_behind p.frames x ++ more)) number (few, awaited.fits.0, awaited.fits.1, awaited.fits.2, awaited.fits.3) tt e)

  module _ (s : Step) (tells_step : told_next r ≡ Some (tells.Step s)) where
    same_move : (x : Stepped) (more : List Line) → IsAwaited g p ticks x → own_text r ≡ printed r.number (step_lines here x ++ more) → x.made ≡ s.made
    same_move x more awaited e = ap (λ y. y.made) (same_line g here r s number few tells_step x (printed r.number (lines_behind p.frames x ++ more)) awaited.fits e)

    -- it may not wait so
    pub not_right : (rest : List ℕ) → (WaitsRight g p.moment s.made ticks → ⊥) → MakesAwaited g p ticks S r.number (own_text r) rest None
    not_right rest wrong x more awaited none e = wrong (subst (λ m. WaitsRight g p.moment m ticks) (same_move x more awaited e) awaited.right)

    -- the ticks don't come
    pub not_ticked : (rest : List ℕ) → (Comes g p.moment (Happens (Tick ticks)) → ⊥) → MakesAwaited g p ticks S r.number (own_text r) rest None
    not_ticked rest wrong x more awaited none e = wrong (came_awaited g p.moment ticks x (after g p.moment (Happens (Tick ticks))) (Waits ticks ∷ []) refl awaited.comes).tick

    -- it comes behind them
    step_at : (x : Stepped) → IsAwaited g p ticks x → StepComes g here.moment x here.moment []
    step_at x awaited = AtOnce awaited.fits (came_awaited g p.moment ticks x (after g p.moment (Happens (Tick ticks))) (Waits ticks ∷ []) refl awaited.comes).step

    pub behind_ticks : (came : Came) (left : Unread) → is_reset came ≡ false → WaitsRight g p.moment s.made ticks → IsNumber ticks → Comes g p.moment (Happens (Tick ticks))
        → MakesStep g here s S r.number (own_text (after_told r (Some (tells.Step s)))) (own_text left) (step_in came) → MakesAwaited g p ticks S r.number (own_text r) (own_text left) (step_in came)
    behind_ticks came.Reset left never right numb tick h = off_on (sym never)
    behind_ticks came.Wrong left never right numb tick h = λ x more awaited none e.
        let step = (came_awaited g p.moment ticks x (after g p.moment (Happens (Tick ticks))) (Waits ticks ∷ []) refl awaited.comes).step in
        let top = legal_top g here.moment here.moment.opens x step.legal in
        let told = fits_told g here r s number few tells_step top.0 top.1 top.2 x here.moment [] more (step_at x awaited) none e in
        h x more told.told none told.text_is
    behind_ticks (came.Step made) left never right numb tick it =
        let same : s.made ≡ it.step.made = ap (λ y. y.made) (sym it.comes.told) in
        let right_too = subst (λ m. WaitsRight g p.moment m ticks) same right in
        record {
          step = it.step;
          awaited = record { fits = it.comes.fits; right = right_too; comes = comes_awaited g p.moment ticks it.step right_too numb tick it.comes.fits it.comes.comes };
          is = it.is;
          text_is = text_made g here S r number few s tells_step (own_text left) made it;
          stands = it.stands;
          only = λ x more awaited none e. (only_told g here S r number few s tells_step (own_text left) made it x here.moment [] more (record { comes = step_at x awaited; behind = none; text_is = e })).0;
        }
