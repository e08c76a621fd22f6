use Rattle.std.proofs.Common.{◌≡◌, ◌≤◌, take}
use Rattle.std.specs.Prelude.{sum_by}
use Rattle.module_machines.specs.port.Bounds as spec
use Rattle.audit_clock.proofs.pins_subject.count_of.Given as goal

abbrev pub invariant-loop-pin : goal.invariant-loop-pin
invariant-loop-pin l = (l.count ≡ sum_by spec.counted (take l.pin-index l.pins)) × (l.count ≤ l.pin-index)
