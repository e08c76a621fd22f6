-- What comes next in a block of steps, by what its next line tells.
use Rattle.std.proofs.Common.{◌≡◌, ℕ, true, false, List, [], ◌∷◌, ◌++◌, length, Option, Some, refl, sym, ◌∙◌, ap, subst, append_assoc}
use Rattle.std.proofs.lemmas.List.{append_cancel_left}
use Rattle.bench_report.specs.Lines.{Line, Makes, Waits, Restarts, numbered}
use Rattle.bench_report.specs.Numbers.{IsNumber}
use Rattle.mcal_base.specs.declared.directive.Order.TheVariants.{Tick}
use Rattle.mcal_base.specs.declared.directive.Reason.TheVariants.{Watchdog}
use Rattle.mcal_base.specs.facts.Truths.{off_on}
use Rattle.run_model.specs.Follows.{MayWait}
use Rattle.run_model.specs.Frame.{Open}
use Rattle.run_model.specs.Legal.{LegalStep}
use Rattle.run_model.specs.Moment.{Moment, Setting, Happens, after}
use Rattle.run_model.specs.declared.item.Stepped.{Stepped}
use Rattle.report_text.specs.reading.Blocks.{AuditState, printed}
use Rattle.report_text.specs.reading.Steps.{StepComes, AtOnce, Awaited, lines_at}
use Rattle.report_text.specs.Unread.{Unread, after_told, own_text, told_next}
use Rattle.report_text.proofs.Owning.{read_reset, read_wait, reads}
use Rattle.trace_reader.specs.declared.told.Step.{Step}
use Rattle.trace_reader.specs.declared.told.Told.{Told}
use Rattle.trace_reader.specs.declared.told.Told.TheVariants as tells
use Rattle.report_steps.specs.Going.{ComesNext, FitsReset, FitsStep, IsAwaited, MakesAwaited, NoneComes, ResetCame, RunsOut, RunsOutRight, is_reset, step_in, step_lines, waited_to}
use Rattle.report_steps.specs.StepRules.{ComesTold, IsMade, MakesStep, NoEnd, lines_behind, told_of}
use Rattle.report_steps.specs.declared.made.Made.{Made}
use Rattle.report_steps.specs.declared.series.Came.{Came}
use Rattle.report_steps.specs.declared.series.Came.TheVariants as came
use Rattle.report_steps.proofs.StepsAll.{AtOnceTold, fits_told, left_behind, no_reset}
use Rattle.report_steps.proofs.WaitLaws.{came_awaited}

-- ---- the newest frame of a step that comes

pub legal_top : {State Call : Type 0} (g : Setting State Call) (m : Moment State Call) (opens : List (Open Call)) (x : Stepped) → LegalStep g m opens x → (o : Open Call) × (os : List (Open Call)) × (opens ≡ o ∷ os)
legal_top g m [] x h = absurd h
legal_top g m (o ∷ os) x h = (o, os, refl)

may_top : {State Call : Type 0} (g : Setting State Call) (opens : List (Open Call)) (u : ℕ) → MayWait g opens u → (o : Open Call) × (os : List (Open Call)) × (opens ≡ o ∷ os)
may_top g [] u h = absurd h
may_top g (o ∷ os) u h = (o, os, refl)

pub top_step : {State Call : Type 0} (g : Setting State Call) (m : Moment State Call) (x : Stepped) (at : Moment State Call) (waits : List Line) → StepComes g m x at waits → (o : Open Call) × (os : List (Open Call)) × (m.opens ≡ o ∷ os)
top_step g m x at waits (AtOnce fits comes) = legal_top g m m.opens x comes.legal
top_step g m x at waits (Awaited unit ticks comes is goes awaits fits step) = may_top g m.opens unit comes.may

-- ---- texts

behind_one : (n : ℕ) (line : Line) (lines : List Line) (text mid rest : List ℕ) → text ≡ numbered n line ++ mid → mid ≡ printed n lines ++ rest → text ≡ printed n (line ∷ lines) ++ rest
behind_one n line lines text mid rest e f = e ∙ (ap (λ z. numbered n line ++ z) f ∙ sym (append_assoc (numbered n line) (printed n lines) rest))

no_more : (n : ℕ) (line : Line) (text rest : List ℕ) → text ≡ numbered n line ++ rest → text ≡ printed n (line ∷ []) ++ rest
no_more n line text rest e = e ∙ sym (append_assoc (numbered n line) [] rest)

-- a line tells one thing
not_wait : (x : Option Told) (s : Step) (ticks : ℕ) → x ≡ Some (tells.Step s) → x ≡ Some (tells.Waited ticks) → ⊥
not_wait x s ticks e f = cc

same_wait : (x : Option Told) (a b : ℕ) → x ≡ Some (tells.Waited a) → x ≡ Some (tells.Waited b) → a ≡ b
same_wait x a b e f = cc

not_reset : (x : Option Told) (a b : ℕ) → x ≡ Some (tells.Waited a) → x ≡ Some (tells.Reset Watchdog b) → ⊥
not_reset x a b e f = cc

step_not_reset : (x : Option Told) (s : Step) (b : ℕ) → x ≡ Some (tells.Step s) → x ≡ Some (tells.Reset Watchdog b) → ⊥
step_not_reset x s b e f = cc

same_reset : (x : Option Told) (a b : ℕ) → x ≡ Some (tells.Reset Watchdog a) → x ≡ Some (tells.Reset Watchdog b) → a ≡ b
same_reset x a b e f = cc

module _ {State Call : Type 0} (g : Setting State Call) (p : AuditState State Call) (S : AuditState State Call → Type 0) (r : Unread) (number : IsNumber r.number) (few : IsNumber (length p.moment.opens)) where
  -- what the first line of a step tells
  pub data Tells : Type 0 where
    TellsStep : (s : Step) → told_next r ≡ Some (tells.Step s) → Tells
    TellsWait : (ticks : ℕ) → told_next r ≡ Some (tells.Waited ticks) → Tells

  tells_first : (x : Stepped) (at : Moment State Call) (waits more : List Line) → StepComes g p.moment x at waits → own_text r ≡ printed r.number ((waits ++ lines_at at p.frames x) ++ more) → Tells
  tells_first x at waits more (AtOnce fits comes) e =
      TellsStep (told_of (length p.moment.opens) x)
      (reads r (Makes (length p.moment.opens) x.made x.value x.received x.event) (printed r.number (lines_behind p.frames x ++ more)) number (few, fits.0, fits.1, fits.2, fits.3) tt e)
  tells_first x at waits more (Awaited unit ticks comes is goes awaits fits step) e = TellsWait ticks (reads r (Waits ticks) (printed r.number (lines_at at p.frames x ++ more)) number comes.fits tt e)

  tells_reset : (ticks : ℕ) → FitsReset g p r.number (own_text r) ticks → told_next r ≡ Some (tells.Reset Watchdog (length p.moment.opens))
  tells_reset ticks h = reads r (Restarts Watchdog (length p.moment.opens)) [] number few tt h.text_is

  -- ---- nothing that comes

  pub none_next : ((s : Step) → told_next r ≡ Some (tells.Step s) → ⊥) → ((ticks : ℕ) → told_next r ≡ Some (tells.Waited ticks) → ⊥) → ((dropped : ℕ) → told_next r ≡ Some (tells.Reset Watchdog dropped) → ⊥) → NoneComes g p r
  none_next step wait reset = record {
    never = λ x at waits more f. elim (tells_first x at waits more f.comes f.text_is) [
      | TellsStep s e ↦ step s e
      | TellsWait ticks e ↦ wait ticks e
    ];
    goes = λ ticks h. reset (length p.moment.opens) (tells_reset ticks h);
  }

  -- ---- a step at once

  module _ (s : Step) (tells_step : told_next r ≡ Some (tells.Step s)) where
    told_here : (x : Stepped) (at : Moment State Call) (waits more : List Line) → FitsStep g p r.number (own_text r) x at waits more → AtOnceTold g p r s number few tells_step x at waits more
    told_here x at waits more f =
        let top = top_step g p.moment x at waits f.comes in
        fits_told g p r s number few tells_step top.0 top.1 top.2 x at waits more f.comes f.behind f.text_is

    module _ (rest : List ℕ) (made : Made) (it : IsMade g p s S r.number (own_text (after_told r (Some (tells.Step s)))) rest made) where
      pub only_told : (x : Stepped) (at : Moment State Call) (waits more : List Line) → FitsStep g p r.number (own_text r) x at waits more → (x ≡ it.step) × (at ≡ p.moment) × (waits ≡ [])
      only_told x at waits more f =
          let told = told_here x at waits more f in
          (it.only x more told.told f.behind told.text_is, told.at_is, told.waits_are)

      pub text_made : own_text r ≡ printed r.number (lines_at p.moment p.frames it.step) ++ rest
      text_made =
          let top = legal_top g p.moment p.moment.opens it.step it.comes.comes.legal in
          behind_one r.number (Makes (length p.moment.opens) it.step.made it.step.value it.step.received it.step.event) (lines_behind p.frames it.step) (own_text r) (own_text (after_told r (Some (tells.Step s)))) rest
          (left_behind g p r s number few tells_step top.0 it.step it.comes.told (subst (λ ys. LegalStep g p.moment ys it.step) top.2 it.comes.comes.legal)) it.text_is

    step_none : ((x : Stepped) (more : List Line) → ComesTold g p s x → NoEnd more → own_text (after_told r (Some (tells.Step s))) ≡ printed r.number (lines_behind p.frames x ++ more) → ⊥)
        → (x : Stepped) (at : Moment State Call) (waits more : List Line) → FitsStep g p r.number (own_text r) x at waits more → ⊥
    step_none none x at waits more f = let told = told_here x at waits more f in none x more told.told f.behind told.text_is

    pub comes_at_once : (came : Came) (after : Unread) → is_reset came ≡ false → MakesStep g p s S r.number (own_text (after_told r (Some (tells.Step s)))) (own_text after) (step_in came) → ComesNext g p S r after came
    comes_at_once came.Wrong after never none = record { never = step_none none; goes = λ ticks h. no_reset g p r s number few tells_step ticks h }
    comes_at_once came.Reset after never h = off_on (sym never)
    comes_at_once (came.Step made) after never it = record {
      step = it.step;
      at = p.moment;
      waits = [];
      comes = AtOnce it.comes.fits it.comes.comes;
      is = it.is;
      text_is = text_made (own_text after) made it;
      stands = it.stands;
      only = only_told (own_text after) made it;
      goes = λ ticks h. no_reset g p r s number few tells_step ticks h;
    }

  -- ---- a step behind its wait

  module _ (ticks : ℕ) (tells_wait : told_next r ≡ Some (tells.Waited ticks)) where
    left : List ℕ
    left = own_text (after_told r (Some (tells.Waited ticks)))

    waits_are : (x : Stepped) (at : Moment State Call) (waits more : List Line) → StepComes g p.moment x at waits → own_text r ≡ printed r.number ((waits ++ lines_at at p.frames x) ++ more) → waits ≡ Waits ticks ∷ []
    waits_are x at waits more (AtOnce fits comes) e =
        absurd (not_wait (told_next r) (told_of (length p.moment.opens) x) ticks
        (reads r (Makes (length p.moment.opens) x.made x.value x.received x.event) (printed r.number (lines_behind p.frames x ++ more)) number (few, fits.0, fits.1, fits.2, fits.3) tt e) tells_wait)
    waits_are x at waits more (Awaited unit other comes is goes awaits fits step) e =
        ap (λ n. Waits n ∷ []) (same_wait (told_next r) other ticks (reads r (Waits other) (printed r.number (lines_at at p.frames x ++ more)) number comes.fits tt e) tells_wait)

    -- a step that fits the block waits so long
    record IsBehind (x : Stepped) (at : Moment State Call) (waits more : List Line) : Type 0 where
      pub awaited : IsAwaited g p ticks x
      pub at_is : at ≡ after g p.moment (Happens (Tick ticks))
      pub waits_is : waits ≡ Waits ticks ∷ []
      pub text_is : own_text (after_told r (Some (tells.Waited ticks))) ≡ printed r.number (step_lines (waited_to g p ticks) x ++ more)

    is_behind : (x : Stepped) (at : Moment State Call) (waits more : List Line) → FitsStep g p r.number (own_text r) x at waits more → IsBehind x at waits more
    is_behind x at waits more f =
        let are = waits_are x at waits more f.comes f.text_is in
        let came = came_awaited g p.moment ticks x at waits are f.comes in
        let text : own_text r ≡ printed r.number ((Waits ticks ∷ lines_at (after g p.moment (Happens (Tick ticks))) p.frames x) ++ more) =
        f.text_is ∙ (ap (λ ws. printed r.number ((ws ++ lines_at at p.frames x) ++ more)) are ∙ ap (λ m. printed r.number ((Waits ticks ∷ lines_at m p.frames x) ++ more)) came.at_is) in
        record {
          awaited = record {
            fits = came.fits;
            right = came.right;
            comes = subst (λ ws. StepComes g p.moment x (after g p.moment (Happens (Tick ticks))) ws) are (subst (λ m. StepComes g p.moment x m waits) came.at_is f.comes);
          };
          at_is = came.at_is;
          waits_is = are;
          text_is = append_cancel_left (numbered r.number (Waits ticks)) _ _ (sym (read_wait r ticks number tells_wait) ∙ text);
        }

    goes_not : (n : ℕ) → FitsReset g p r.number (own_text r) n → ⊥
    goes_not n h = not_reset (told_next r) ticks (length p.moment.opens) tells_wait (tells_reset n h)

    pub comes_awaiting : (came : Came) (after : Unread) → is_reset came ≡ false → MakesAwaited g p ticks S r.number (own_text (after_told r (Some (tells.Waited ticks)))) (own_text after) (step_in came) → ComesNext g p S r after came
    comes_awaiting came.Wrong after never none = record {
      never = λ x at waits more f. let is = is_behind x at waits more f in none x more is.awaited f.behind is.text_is;
      goes = goes_not;
    }
    comes_awaiting came.Reset after never h = off_on (sym never)
    comes_awaiting (came.Step made) left never it = record {
      step = it.step;
      at = after g p.moment (Happens (Tick ticks));
      waits = Waits ticks ∷ [];
      comes = it.awaited.comes;
      is = it.is;
      text_is = behind_one r.number (Waits ticks) (step_lines (waited_to g p ticks) it.step) (own_text r) (own_text (after_told r (Some (tells.Waited ticks)))) (own_text left) (read_wait r ticks number tells_wait) it.text_is;
      stands = it.stands;
      only = λ x at waits more f. let is = is_behind x at waits more f in (it.only x more is.awaited f.behind is.text_is, is.at_is, is.waits_is);
      goes = goes_not;
    }

  -- ---- the watchdog's reset

  module _ (dropped : ℕ) (tells_this : told_next r ≡ Some (tells.Reset Watchdog dropped)) where
    never_steps : (x : Stepped) (at : Moment State Call) (waits more : List Line) → FitsStep g p r.number (own_text r) x at waits more → ⊥
    never_steps x at waits more f = elim (tells_first x at waits more f.comes f.text_is) [
      | TellsStep s e ↦ step_not_reset (told_next r) s dropped e tells_this
      | TellsWait ticks e ↦ not_reset (told_next r) ticks dropped e tells_this
    ]

    pub was_reset : RunsOutRight g p dropped S true → ResetCame g p S r (after_told r (Some (tells.Reset Watchdog dropped)))
    was_reset h = record {
      ticks = h.0;
      out = subst (λ n. RunsOut g p n h.0) h.1.dropped_is h.1;
      text_is = subst (λ n. own_text r ≡ printed r.number (Restarts Watchdog n ∷ []) ++ own_text (after_told r (Some (tells.Reset Watchdog dropped)))) h.1.dropped_is
          (no_more r.number (Restarts Watchdog dropped) (own_text r) (own_text (after_told r (Some (tells.Reset Watchdog dropped)))) (read_reset r Watchdog dropped number tells_this));
      stands = h.2;
      never = never_steps;
    }

    pub wasnt_reset : RunsOutRight g p dropped S false → NoneComes g p r
    wasnt_reset h = record {
      never = never_steps;
      goes = λ ticks f. h ticks (subst (λ n. RunsOut g p n ticks) (same_reset (told_next r) (length p.moment.opens) dropped (tells_reset ticks f) tells_this) f.out);
    }
