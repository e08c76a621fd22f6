use Rattle.std.proofs.Common.{◌≡◌, ◌+◌, ◌*◌, ◌/◌}
use Rattle.mcal_base.specs.Bits.{bits_of}
use Rattle.port_driver.specs.Writes as spec
use Rattle.port_driver.proofs.driver.PortDriver.ones.Given as goal

abbrev pub invariant-loop-place : goal.invariant-loop-place
invariant-loop-place l = l.bits ≡ bits_of (λ k. spec.asks (spec.sets l.write) (spec.wants l.self l.side (32 * (l.write / 2) + k))) l.place
