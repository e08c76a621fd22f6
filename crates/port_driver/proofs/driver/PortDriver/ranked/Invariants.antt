use Rattle.std.proofs.Common.{◌≡◌}
use Rattle.port_driver.specs.Writes as spec
use Rattle.port_driver.proofs.driver.PortDriver.ranked.Given as goal

abbrev pub invariant-loop-number : goal.invariant-loop-number
invariant-loop-number l = (l.seen ≡ spec.counted (spec.is_configured l.self) l.number) × (l.found ≡ spec.with_rank (spec.is_configured l.self) l.rank l.number)
