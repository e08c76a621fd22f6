use Rattle.std.proofs.Common.{◌≡◌, ◌≤◌, take}
use Rattle.std.specs.Prelude.{count_by, is_some}
use Rattle.audit_serial.proofs.may.counted.Given as goal

abbrev pub invariant-loop-object : goal.invariant-loop-object
invariant-loop-object g l = (l.count ≡ count_by is_some (take l.object-index l.objects)) × (l.count ≤ l.object-index)
