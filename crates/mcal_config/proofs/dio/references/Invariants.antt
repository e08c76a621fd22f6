use Rattle.std.proofs.Common.{◌≡◌, drop, take}
use Rattle.config_facts.specs.Valid.{ReferToPorts}
use Rattle.config_keys.specs.Checks.{first}
use Rattle.config_tables.specs.Dio as spec
use Rattle.mcal_config.proofs.dio.references.Given as goal

abbrev pub invariant-loop-number : goal.invariant-loop-number
invariant-loop-number l = record {
  checked : first (spec.port_references l.pins 0 l.groups) ≡ first (spec.port_references l.pins l.number (drop l.number l.groups));
  refer : ReferToPorts l.pins (take l.number l.groups);
}
