use Rattle.module_machines.specs.pwm.laws.Changes.{times_of, of_times}
use Rattle.module_machines.proofs.pwm.laws.changes_by_times.Goals as goal

pub returns : goal.returns
returns c edge level after now = (times_of edge level after now, of_times edge level after now)
