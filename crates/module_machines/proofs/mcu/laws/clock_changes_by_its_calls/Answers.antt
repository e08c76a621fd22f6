use Rattle.module_machines.proofs.of_mcu.StateLaws.{clock-left}
use Rattle.module_machines.proofs.mcu.laws.clock_changes_by_its_calls.Goals as goal

pub returns-clause-rate : goal.returns-clause-rate
returns-clause-rate _ d w s h left = (clock-left d w s h left).0

pub returns-clause-pll : goal.returns-clause-pll
returns-clause-pll _ d w s h left = (clock-left d w s h left).1
