use Rattle.std.proofs.Common.{◌≡◌, ◌+◌, ◌*◌}
use Rattle.mcal_base.specs.Bits.{bits_of}
use Rattle.module_machines.specs.dio.Table as spec
use Rattle.module_machines.proofs.dio.table.ones.Given as goal

abbrev pub invariant-loop-place : goal.invariant-loop-place
invariant-loop-place l = l.bits ≡ bits_of (λ k. spec.lists l.pins (8 * l.port + k)) l.place
