-- The channels so far.
use Rattle.std.proofs.Common.{◌≡◌}
use Rattle.module_machines.specs.pwm.Bounds.{duties}
use Rattle.audit_subject.specs.Marks as masks
use Rattle.audit_pulses.specs.Duties as spec
use Rattle.audit_pulses.proofs.duties.marks.Given as goal

abbrev pub invariant-loop-number : goal.invariant-loop-number
invariant-loop-number l = l.mask ≡ masks.marks l.made (duties l.table (spec.kind_of l.duty) l.number)
