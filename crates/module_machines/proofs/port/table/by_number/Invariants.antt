use Rattle.std.proofs.Common.{◌≡◌, ◌-◌, ◌++◌, None, replicate}
use Rattle.std.specs.Prelude.{map}
use Rattle.std.specs.List.{range_with_len}
use Rattle.module_machines.specs.port.Table as spec
use Rattle.module_machines.proofs.port.table.by_number.Given as goal

abbrev pub invariant-loop-number : goal.invariant-loop-number
invariant-loop-number l = l.found ≡ map (λ p. spec.pin_in l.pins p) (range_with_len 0 l.number) ++ replicate (64 - l.number) None
