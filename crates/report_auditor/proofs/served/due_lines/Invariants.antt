-- Of the lines that aren't left those are found that are due.
use Rattle.std.proofs.Common.{◌≡◌, ℕ, not, ◌&&◌, true}
use Rattle.mcal_base.specs.Bits.{has_bit}
use Rattle.run_model.specs.World.{World}
use Rattle.audit_base.specs.Outside.{IsWorld}
use Rattle.report_auditor.proofs.served.due_lines.Given as goal

abbrev pub invariant-loop-left : goal.invariant-loop-left
invariant-loop-left g l =
    (w : World) (s : g.row.P-State.Denot) → g.P.Part.fits l.part l.outside → IsWorld l.outside w → g.P.Part.stands l.part s →
    ((k : ℕ) → (g.P.Part.member (g.P.Part.table l.part)).machine.due w s k ≡ true → has_bit l.asked k ≡ true) →
    (k : ℕ) → has_bit l.found k ≡ ((g.P.Part.member (g.P.Part.table l.part)).machine.due w s k && not (has_bit l.left k))

abbrev pub decreases-loop-left : goal.decreases-loop-left
decreases-loop-left g l = l.left
