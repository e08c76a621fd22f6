use Rattle.bench_sweep.proofs.Differing.{number_kept, number_tells, stay_different}
use Rattle.bench_sweep.proofs.laws.outcomes_differ.Goals as goal

pub returns-clause-differ : goal.returns-clause-differ
returns-clause-differ c = stay_different

pub returns-clause-tells : goal.returns-clause-tells
returns-clause-tells c = number_tells

pub returns-clause-kept : goal.returns-clause-kept
returns-clause-kept c = number_kept
