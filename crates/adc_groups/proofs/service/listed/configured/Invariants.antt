-- Behind the numbers so far come those from this one on.
use Rattle.std.proofs.Common.{◌≡◌, ◌≤◌, ◌-◌, ◌++◌, length}
use Rattle.adc_groups.specs.laws.services.InitSteps.{configured_from}
use Rattle.adc_groups.proofs.service.listed.configured.Given as goal

abbrev pub invariant-loop-number : goal.invariant-loop-number
invariant-loop-number l = record {
  few : length l.numbers ≤ l.number;
  rest : l.numbers ++ configured_from l.table (16 - l.number) l.number ≡ configured_from l.table 16 0;
}
