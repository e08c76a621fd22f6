use Rattle.std.proofs.Common.{◌≡◌, ◌+◌, ◌*◌}
use Rattle.mcal_base.specs.Bits.{bits_of}
use Rattle.chip_model.specs.Chip.{pin_of}
use Rattle.chip_model.proofs.bus.Bus.port.Given as goal

abbrev pub invariant-loop-place : goal.invariant-loop-place
invariant-loop-place l = l.bits ≡ bits_of (λ k. pin_of l.self (8 * l.port + k)) l.place
