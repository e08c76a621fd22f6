use Rattle.std.proofs.Common.{arith}
use Rattle.bench_sweep.proofs.Ranged.{ranges_done, ranges_on}
use Rattle.bench_sweep.proofs.groups.ranges.Goals as goal

pub loop-place-preserved : goal.loop-place-preserved
loop-place-preserved c = let l = c.loop-place in record {
  is = ranges_on c.args.settled.now l.place c.args.outcome l.ranges.items c.keep_where.new.ranges.items (omega arith) c.in_ok-keep_where.ensures.is l.invariant.is;
  each = c.in_ok-keep_where.ensures.each l.invariant.each;
}

pub returns-clause-is : goal.returns-clause-is
returns-clause-is c = let l = c.loop-place in ranges_done c.args.settled.now l.place c.args.outcome l.ranges.items (omega arith) l.invariant.is
