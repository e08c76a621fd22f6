use Rattle.std.proofs.Common.{◌≡◌, drop, take}
use Rattle.config_facts.specs.Valid.{ReferToChannels}
use Rattle.config_keys.specs.Checks.{first}
use Rattle.config_tables.specs.SpiRules as spec
use Rattle.config_tables.proofs.spi_rules.channel_references.Given as goal

abbrev pub invariant-loop-number : goal.invariant-loop-number
invariant-loop-number l = record {
  checked : first (spec.channel_references l.channels 0 l.jobs) ≡ first (spec.channel_references l.channels l.number (drop l.number l.jobs));
  refer : ReferToChannels l.channels (take l.number l.jobs);
}
