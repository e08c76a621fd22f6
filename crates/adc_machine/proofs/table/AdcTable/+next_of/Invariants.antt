-- Each call begins at a later number.
use Rattle.std.specs.Prelude.{◌-◌}
use Rattle.adc_machine.proofs.table.AdcTable.+next_of.Given as goal

abbrev pub decreases-next_of : goal.decreases-next_of
decreases-next_of l = 16 - l.from
