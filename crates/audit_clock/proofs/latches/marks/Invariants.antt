-- The pins so far.
use Rattle.std.proofs.Common.{◌≡◌}
use Rattle.module_machines.specs.port.Bounds.{latch_duties}
use Rattle.audit_subject.specs.Marks as spec
use Rattle.audit_clock.proofs.latches.marks.Given as goal

abbrev pub invariant-loop-number : goal.invariant-loop-number
invariant-loop-number l = l.mask ≡ spec.marks l.made (latch_duties l.table l.number)
