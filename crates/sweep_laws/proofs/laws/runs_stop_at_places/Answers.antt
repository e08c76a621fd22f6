use Rattle.sweep_laws.proofs.Stopping.{begins, stops}
use Rattle.sweep_laws.proofs.laws.runs_stop_at_places.Goals as goal

pub returns-clause-steps : goal.returns-clause-steps
returns-clause-steps c = stops

pub returns-clause-beginnings : goal.returns-clause-beginnings
returns-clause-beginnings c = begins
