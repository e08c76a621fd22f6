use Rattle.bench_sweep.specs.Groups as spec
use Rattle.bench_sweep.proofs.Ranged.{front}
use Rattle.bench_sweep.proofs.groups.make_way.Goals as goal

pub returns-then-goes_on-clause-each : goal.returns-then-goes_on-clause-each
returns-then-goes_on-clause-each c = λ settled outcome all. front (spec.IsRangeOf settled outcome) _ _ _ c.truncate.ensures.items all
