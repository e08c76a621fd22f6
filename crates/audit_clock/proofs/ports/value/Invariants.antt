use Rattle.std.proofs.Common.{◌≡◌, ◌+◌, ◌*◌}
use Rattle.mcal_base.specs.Bits.{bits_of}
use Rattle.audit_clock.specs.PortPins.{kept_level}
use Rattle.audit_clock.proofs.ports.value.Given as goal

abbrev pub invariant-loop-place : goal.invariant-loop-place
invariant-loop-place l = l.bits ≡ bits_of (λ k. kept_level l.pins l.around (8 * l.port + k)) l.place
