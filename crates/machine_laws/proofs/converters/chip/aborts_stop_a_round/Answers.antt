use Rattle.std.proofs.Common.{true, false}
use Rattle.machine_laws.proofs.RoundLaws.{abort_gives, running_at, rests_at, whole_at, idle_since, done_since}
use Rattle.machine_laws.proofs.converters.chip.aborts_stop_a_round.Goals as goal

pub returns-clause-one : goal.returns-clause-one
returns-clause-one _ b u e = abort_gives b u true (running_at b u e)

pub returns-clause-idle : goal.returns-clause-idle
returns-clause-idle _ b u e = abort_gives b u false (rests_at b u e)

pub returns-clause-finished : goal.returns-clause-finished
returns-clause-finished _ b u e = abort_gives b u false (whole_at b u e)

pub returns-clause-stops : goal.returns-clause-stops
returns-clause-stops _ = idle_since

pub returns-clause-done : goal.returns-clause-done
returns-clause-done _ = done_since
