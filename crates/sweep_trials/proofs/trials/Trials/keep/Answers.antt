use Rattle.sweep_trials.proofs.Stopping.{memory_only_at}
use Rattle.sweep_trials.proofs.Trying.{keep_kept, keep_tells}
use Rattle.sweep_trials.proofs.trials.Trials.keep.Goals as goal

pub returns-clause-tells : goal.returns-clause-tells
returns-clause-tells c = keep_tells _ _ c.in_ok-outcome.outcome c.in_ok-number.number _ c.in_ok-number.ensures.number c.in_ok-number.ensures.all (rw (c.as_str.ensures.value, c.deref.ensures.value) at c.in_ok-outcome.ensures)

pub returns-clause-kept : goal.returns-clause-kept
returns-clause-kept c = keep_kept _ _ c.in_ok-outcome.outcome c.in_ok-number.ensures.all

pub returns-in_err-outcome-clause-memory : goal.returns-in_err-outcome-clause-memory
returns-in_err-outcome-clause-memory c = memory_only_at c.from_residual.result c.from_residual.ensures.1

pub returns-in_err-number-clause-memory : goal.returns-in_err-number-clause-memory
returns-in_err-number-clause-memory c = memory_only_at c.from_residual-in_err-number.result c.from_residual-in_err-number.ensures.1
