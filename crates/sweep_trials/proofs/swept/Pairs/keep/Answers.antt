use Rattle.sweep_trials.proofs.Stopping.{memory_only_at}
use Rattle.sweep_trials.proofs.swept.Pairs.keep.Goals as goal

pub returns-in_err-push-clause-memory : goal.returns-in_err-push-clause-memory
returns-in_err-push-clause-memory c = memory_only_at c.from_residual.result c.from_residual.ensures.1

pub returns-in_err-push-2-clause-memory : goal.returns-in_err-push-2-clause-memory
returns-in_err-push-2-clause-memory c = memory_only_at c.from_residual-in_err-push-2.result c.from_residual-in_err-push-2.ensures.1
