use Rattle.sweep_trials.proofs.trials.Trials.try_behind.Goals as goal

pub returns-clause-stopped : goal.returns-clause-stopped
returns-clause-stopped g c = rw c.count.ensures.is at c.try_part.ensures.stopped
