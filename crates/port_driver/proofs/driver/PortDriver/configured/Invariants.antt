use Rattle.std.proofs.Common.{◌≡◌}
use Rattle.port_driver.specs.Writes as spec
use Rattle.port_driver.proofs.driver.PortDriver.configured.Given as goal

abbrev pub invariant-loop-number : goal.invariant-loop-number
invariant-loop-number l = l.seen ≡ spec.counted (spec.is_configured l.self) l.number
