-- The next line of a block of steps: what it tells is what comes.
use Rattle.std.proofs.Common.{◌≡◌, ℕ, List, [], ◌∷◌, ◌++◌, length, Option, Some, refl, sym, ◌∙◌, ap, subst}
use Rattle.std.proofs.lemmas.List.{append_cancel_left}
use Rattle.bench_report.specs.Lines.{Line, Makes, Waits, Restarts, numbered}
use Rattle.bench_report.specs.Numbers.{IsNumber, StepFits}
use Rattle.mcal_base.specs.declared.directive.Reason.TheVariants.{Watchdog}
use Rattle.run_model.specs.Frame.{Open}
use Rattle.run_model.specs.Legal.{IsLegalStep, LegalStep}
use Rattle.run_model.specs.Moment.{Moment, Setting}
use Rattle.run_model.specs.declared.item.Stepped.{Stepped}
use Rattle.report_text.specs.reading.Blocks.{AuditState, printed}
use Rattle.report_text.specs.reading.Steps.{StepComes, AtOnce, Awaited, lines_at}
use Rattle.report_text.specs.Unread.{Unread, after_told, own_text, told_next}
use Rattle.report_text.proofs.Owning.{read_step, reads}
use Rattle.trace_reader.specs.declared.told.Step.{Step}
use Rattle.trace_reader.specs.declared.told.Told.{Told}
use Rattle.trace_reader.specs.declared.told.Told.TheVariants as tells
use Rattle.report_steps.specs.Going.{FitsReset}
use Rattle.report_steps.specs.StepParts.{step_told}
use Rattle.report_steps.specs.StepRules.{ComesTold, NoEnd, lines_behind, told_of}
use Rattle.report_steps.proofs.StepJudged.{all_told}

-- what is told is one thing
told_step : (a b : Step) (x : Option Told) → x ≡ Some (tells.Step a) → x ≡ Some (tells.Step b) → b ≡ a
told_step a b x e f = cc

module _ {State Call : Type 0} (g : Setting State Call) (p : AuditState State Call) (r : Unread) (s : Step) (number : IsNumber r.number) (few : IsNumber (length p.moment.opens)) (tells_step : told_next r ≡ Some (tells.Step s)) where
  -- where the block begins with the line of a step that comes at once, it is the line that was read
  pub same_line : (x : Stepped) (rest : List ℕ) → StepFits x → own_text r ≡ numbered r.number (Makes (length p.moment.opens) x.made x.value x.received x.event) ++ rest → told_of (length p.moment.opens) x ≡ s
  same_line x rest fits e =
      told_step s (told_of (length p.moment.opens) x) (told_next r) tells_step
      (reads r (Makes (length p.moment.opens) x.made x.value x.received x.event) rest number (few, fits.0, fits.1, fits.2, fits.3) tt e)

  -- and behind it is what is left
  pub left_behind : (o : Open Call) (x : Stepped) → told_of (length p.moment.opens) x ≡ s → IsLegalStep g p.moment o x
      → own_text r ≡ numbered r.number (Makes (length p.moment.opens) x.made x.value x.received x.event) ++ own_text (after_told r (Some (tells.Step s)))
  left_behind o x is legal =
      let whole : step_told s x.event x.ended ≡ x = all_told g p.moment o s (length p.moment.opens) x is legal in
      read_step r s x.event number tells_step (ap (λ y. y.mark) is)
      ∙ (ap (λ d. numbered r.number (Makes d s.made s.value s.received x.event) ++ own_text (after_told r (Some (tells.Step s)))) (sym (ap (λ y. y.depth) is))
      ∙ ap (λ y. numbered r.number (Makes (length p.moment.opens) y.made y.value y.received x.event) ++ own_text (after_told r (Some (tells.Step s)))) whole)

  -- a step that fits the block comes at once, and the line that was read tells it
  pub record AtOnceTold (x : Stepped) (at : Moment State Call) (waits more : List Line) : Type 0 where
    pub told : ComesTold g p s x
    pub at_is : at ≡ p.moment
    pub waits_are : waits ≡ []
    pub text_is : own_text (after_told r (Some (tells.Step s))) ≡ printed r.number (lines_behind p.frames x ++ more)

  pub fits_told : (o : Open Call) (os : List (Open Call)) → p.moment.opens ≡ o ∷ os → (x : Stepped) (at : Moment State Call) (waits more : List Line) → StepComes g p.moment x at waits → NoEnd more
      → own_text r ≡ printed r.number ((waits ++ lines_at at p.frames x) ++ more) → AtOnceTold x at waits more
  fits_told o os opens x at waits more (AtOnce fits comes) none e =
      let line = Makes (length p.moment.opens) x.made x.value x.received x.event in
      let front : own_text r ≡ numbered r.number line ++ printed r.number (lines_behind p.frames x ++ more) = e in
      let is = same_line x (printed r.number (lines_behind p.frames x ++ more)) fits front in
      let legal : IsLegalStep g p.moment o x = subst (λ ys. LegalStep g p.moment ys x) opens comes.legal in
      record {
        told = record { told = is; fits = fits; comes = comes };
        at_is = refl;
        waits_are = refl;
        text_is = append_cancel_left (numbered r.number line) _ _ (sym (left_behind o x is legal) ∙ front);
      }
  fits_told o os opens x at waits more (Awaited unit ticks comes is goes awaits fits step) none e =
      let told : told_next r ≡ Some (tells.Waited ticks) = reads r (Waits ticks) (printed r.number (lines_at at p.frames x ++ more)) number comes.fits tt e in
      absurd (cc)

  -- the watchdog's reset doesn't fit it
  pub no_reset : (ticks : ℕ) → FitsReset g p r.number (own_text r) ticks → ⊥
  no_reset ticks h =
      let told : told_next r ≡ Some (tells.Reset Watchdog (length p.moment.opens)) = reads r (Restarts Watchdog (length p.moment.opens)) [] number few tt h.text_is in
      absurd (cc)
