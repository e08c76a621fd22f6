use Rattle.std.proofs.Common.{◌≡◌, drop}
use Rattle.config_tables.specs.SpiRules as spec
use Rattle.config_tables.proofs.spi_rules.repeats.Given as goal

abbrev pub invariant-loop-index : goal.invariant-loop-index
invariant-loop-index l = spec.repeats l.ids ≡ spec.repeats (drop l.index l.ids)
