-- The watchdog's time ends in a wait.
use Rattle.std.proofs.Common.{◌≡◌, ℕ, ◌<◌, ◌≤◌, Bool, true, false, List, [], ◌∷◌, length, min, Option, Some, None, sym, ◌∙◌, subst, arith}
use Rattle.mcal_base.specs.declared.directive.Order.TheVariants.{Tick}
use Rattle.mcal_base.specs.declared.directive.Reason.TheVariants.{Watchdog}
use Rattle.mcal_base.specs.declared.moves.Move.TheVariants.{Read}
use Rattle.mcal_base.specs.declared.register.Reg.TheVariants.{SerialWait}
use Rattle.run_model.specs.Follows.{MayWait}
use Rattle.run_model.specs.Frame.{Open, Origin}
use Rattle.run_model.specs.Moment.{Setting, Happens, Resets}
use Rattle.audit_frames.specs.Decides.{Decides}
use Rattle.report_text.specs.reading.Blocks.{AuditState}
use Rattle.report_text.specs.reading.Steps.{Comes}
use Rattle.report_auditor.specs.Deeds.{Judges, restarted}
use Rattle.report_steps.specs.Going.{EndsWaiting, IsShort, RunsOut, RunsOutRight, waited_to}
use Rattle.report_steps.proofs.ComeLaws.{fails, same_some, some_none}

-- a unit that is waited for is one of two
unit_there : {State Call : Type 0} (g : Setting State Call) (opens : List (Open Call)) (u : ℕ) → ((x : Origin Call) (v : ℕ) → g.may x (Read (SerialWait v)) ≡ true → v < 2) → MayWait g opens u → u < 2
unit_there g [] u law h = absurd h
unit_there g (o ∷ os) u law h = law o.origin u h

pub short_left : (x : Option ℕ) (left : ℕ) → x ≡ Some left → IsShort x → left ≤ 8
short_left None left e h = absurd (some_none left (sym e))
short_left (Some n) left e h = subst (λ k. k ≤ 8) (same_some n left e) h

pub as_left : (left : ℕ) → left ≤ 8 → min left 8 ≡ left
as_left left h = omega (arith, h)

number_of : (left : ℕ) → left ≤ 8 → left < 4294967296
number_of left h = omega (arith, h)

module _ {State Call : Type 0} (g : Setting State Call) (p : AuditState State Call) (dropped : ℕ) (S : AuditState State Call → Type 0) where
  -- no time runs
  pub no_time : g.machine.expires p.moment.world p.moment.state ≡ None → RunsOutRight g p dropped S false
  no_time none ticks out = some_none ticks (sym out.left ∙ none)

  -- other frames are dropped
  pub other_frames : (dropped ≡ length p.moment.opens → ⊥) → RunsOutRight g p dropped S false
  other_frames other ticks out = other out.dropped_is

  -- no wait ends so
  pub no_wait : ((x : Origin Call) (v : ℕ) → g.may x (Read (SerialWait v)) ≡ true → v < 2) → (b : Bool) → Decides b ((u : ℕ) × (u < 2) × EndsWaiting g p.moment u) → b ≡ false → RunsOutRight g p dropped S false
  no_wait law b d off ticks out = fails b d off (out.unit, unit_there g p.moment.opens out.unit law out.waits.waits.1, out.waits)

  module _ (left : ℕ) (is : g.machine.expires p.moment.world p.moment.state ≡ Some left) where
    same_ticks : (ticks : ℕ) → RunsOut g p dropped ticks → ticks ≡ left
    same_ticks ticks out = same_some ticks left (sym out.left ∙ is)

    -- the ticks don't come
    pub no_ticks : (Comes g p.moment (Happens (Tick left)) → ⊥) → RunsOutRight g p dropped S false
    no_ticks wrong ticks out = wrong (subst (λ n. Comes g p.moment (Happens (Tick n))) (same_ticks ticks out) out.comes)

    -- the reset behind them is judged
    pub runs_out : (right : Bool) → ((u : ℕ) × (u < 2) × EndsWaiting g p.moment u) → dropped ≡ length p.moment.opens → left ≤ 8 → Comes g p.moment (Happens (Tick left))
        → Judges right (Comes g (waited_to g p left).moment (Resets Watchdog)) (S (restarted g (waited_to g p left) Watchdog)) → RunsOutRight g p dropped S right
    runs_out true wait same short ticks judged = (left, record { unit = wait.0; waits = wait.2; left = is; dropped_is = same; fits = number_of left short; comes = ticks; resets = judged.0 }, judged.1)
    runs_out false wait same short ticks judged = λ n out. judged (subst (λ k. Comes g (waited_to g p k).moment (Resets Watchdog)) (same_ticks n out) out.resets)
