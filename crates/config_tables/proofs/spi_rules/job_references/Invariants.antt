use Rattle.std.proofs.Common.{◌≡◌, drop, take}
use Rattle.config_facts.specs.Valid.{ReferToJobs}
use Rattle.config_keys.specs.Checks.{first}
use Rattle.config_tables.specs.SpiRules as spec
use Rattle.config_tables.proofs.spi_rules.job_references.Given as goal

abbrev pub invariant-loop-number : goal.invariant-loop-number
invariant-loop-number l = record {
  checked : first (spec.job_references l.jobs 0 l.sequences) ≡ first (spec.job_references l.jobs l.number (drop l.number l.sequences));
  refer : ReferToJobs l.jobs (take l.number l.sequences);
}
