use Rattle.machine_laws.proofs.CountLaws.{runs_until}
use Rattle.machine_laws.proofs.timers.counts.runs_until_expiry.Goals as goal

pub returns-clause-one_shot : goal.returns-clause-one_shot
returns-clause-one_shot _ = runs_until
