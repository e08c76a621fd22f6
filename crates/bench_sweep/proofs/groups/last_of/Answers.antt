use Rattle.std.proofs.Common.{arith, length, refl}
use Rattle.bench_sweep.specs.Groups as spec
use Rattle.bench_sweep.proofs.Ranged.{last_is, last_stands}
use Rattle.bench_sweep.proofs.groups.last_of.Goals as goal

pub returns-clause-some : goal.returns-clause-some
returns-clause-some c = last_stands c.args.ranges.now (length c.args.ranges.now) _ refl (omega arith)

pub returns-clause-each : goal.returns-clause-each
returns-clause-each c = λ settled outcome all. last_is (spec.IsRangeOf settled outcome) c.args.ranges.now _ _ (omega arith) all
