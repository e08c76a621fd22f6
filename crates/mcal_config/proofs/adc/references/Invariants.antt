use Rattle.std.proofs.Common.{◌≡◌, drop, take}
use Rattle.config_facts.specs.Valid.{ReferToUnits}
use Rattle.config_keys.specs.Checks.{first}
use Rattle.config_tables.specs.Adc as spec
use Rattle.mcal_config.proofs.adc.references.Given as goal

abbrev pub invariant-loop-number : goal.invariant-loop-number
invariant-loop-number l = record {
  checked : first (spec.unit_references l.units 0 l.groups) ≡ first (spec.unit_references l.units l.number (drop l.number l.groups));
  refer : ReferToUnits l.units (take l.number l.groups);
}
