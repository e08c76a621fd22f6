use Rattle.adc_machine.proofs.Stopped.{stop_leaves, disable_leaves}
use Rattle.adc_machine.proofs.laws.stops_leave_nothing_under_way.Goals as goal

pub returns-clause-stop : goal.returns-clause-stop
returns-clause-stop c = stop_leaves

pub returns-clause-disable : goal.returns-clause-disable
returns-clause-disable c = disable_leaves
