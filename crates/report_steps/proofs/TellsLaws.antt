-- What a line tells, by its kind.
use Rattle.std.proofs.Common.{◌≡◌, ℕ, Option, Some, None, sym, ◌∙◌, ap}
use Rattle.mcal_base.specs.declared.directive.Reason.TheVariants.{Watchdog}
use Rattle.trace_reader.specs.declared.told.Step.{Step}
use Rattle.trace_reader.specs.declared.told.Told.{Told}
use Rattle.trace_reader.specs.declared.told.Told.TheVariants as tells
use Rattle.report_steps.specs.Going.{told_reset, told_step, told_wait}
use Rattle.report_steps.proofs.ComeLaws.{same_some, some_none}

step_is : (t : Told) (s : Step) → told_step t ≡ Some s → t ≡ tells.Step s
step_is (tells.Step r) s e = ap (λ x. tells.Step x) (same_some r s e)
step_is _ s e = absurd (some_none s (sym e))

wait_is : (t : Told) (ticks : ℕ) → told_wait t ≡ Some ticks → t ≡ tells.Waited ticks
wait_is (tells.Waited n) ticks e = ap (λ x. tells.Waited x) (same_some n ticks e)
wait_is _ ticks e = absurd (some_none ticks (sym e))

reset_is : (t : Told) (dropped : ℕ) → told_reset t ≡ Some dropped → t ≡ tells.Reset Watchdog dropped
reset_is (tells.Reset Watchdog n) dropped e = ap (λ x. tells.Reset Watchdog x) (same_some n dropped e)
reset_is _ dropped e = absurd (some_none dropped (sym e))

-- the line that is read
module _ (x : Option Told) (t : Told) (is : x ≡ Some t) where
  told_is : (u : Told) → x ≡ Some u → u ≡ t
  told_is u e = same_some u t (sym e ∙ is)

  pub no_step : told_step t ≡ None → (s : Step) → x ≡ Some (tells.Step s) → ⊥
  no_step none s e = some_none s (ap told_step (told_is (tells.Step s) e) ∙ none)

  pub no_wait : told_wait t ≡ None → (ticks : ℕ) → x ≡ Some (tells.Waited ticks) → ⊥
  no_wait none ticks e = some_none ticks (ap told_wait (told_is (tells.Waited ticks) e) ∙ none)

  pub no_reset : told_reset t ≡ None → (dropped : ℕ) → x ≡ Some (tells.Reset Watchdog dropped) → ⊥
  no_reset none dropped e = some_none dropped (ap told_reset (told_is (tells.Reset Watchdog dropped) e) ∙ none)

  -- of which kind it is
  pub tells_step : (s : Step) → told_step t ≡ Some s → x ≡ Some (tells.Step s)
  tells_step s e = is ∙ ap (λ u. Some u) (step_is t s e)

  pub tells_wait : (ticks : ℕ) → told_wait t ≡ Some ticks → x ≡ Some (tells.Waited ticks)
  tells_wait ticks e = is ∙ ap (λ u. Some u) (wait_is t ticks e)

  pub tells_reset : (dropped : ℕ) → told_reset t ≡ Some dropped → x ≡ Some (tells.Reset Watchdog dropped)
  tells_reset dropped e = is ∙ ap (λ u. Some u) (reset_is t dropped e)

pub nothing : (x : Option Told) → x ≡ None → (t : Told) → x ≡ Some t → ⊥
nothing x none t e = some_none t (sym e ∙ none)
