use Rattle.bench_sweep.proofs.Ranged.{kept_in, left_out}
use Rattle.bench_sweep.proofs.groups.keep_where.Goals as goal

pub returns-then-found-outcome-clause-is : goal.returns-then-found-outcome-clause-is
returns-then-found-outcome-clause-is c = λ s. left_out c.args.settled.now c.args.place c.args.outcome c.args.ranges.now.items c.settled_at-found.result s c.settled_at-found.ensures c.if-found-outcome.true

pub returns : goal.returns
returns c = record {
  is = λ s. kept_in c.args.settled.now c.args.place c.args.outcome c.args.ranges.now.items c.keep_place.new.ranges.items c.settled_at-found.result s c.settled_at-found.ensures c.if-found-outcome.false c.in_ok-keep_place.ensures.is;
  each = c.in_ok-keep_place.ensures.each c.args.settled.now c.args.outcome c.settled_at-found.result c.settled_at-found.ensures c.if-found-outcome.false;
}
