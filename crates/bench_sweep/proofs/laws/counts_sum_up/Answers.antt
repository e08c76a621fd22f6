use Rattle.bench_sweep.proofs.Counted as counted
use Rattle.bench_sweep.proofs.laws.counts_sum_up.Goals as goal

pub returns-clause-once : goal.returns-clause-once
returns-clause-once c = λ settled outcome. counted.numbers_once settled outcome

pub returns-clause-sum : goal.returns-clause-sum
returns-clause-sum c = counted.counts_sum_up
