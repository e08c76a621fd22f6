use Rattle.std.proofs.Common.{arith}
use Rattle.bench_sweep.proofs.Placed.{placed_all}
use Rattle.bench_sweep.proofs.places.places_of.Goals as goal

pub returns : goal.returns
returns c = placed_all c.args.all.now.items c.keep_begun.new.all.items c.loop-made.all.items c.args.directive c.args.order.now c.args.steps c.loop-made.made (omega (arith, c.if-steps-eq0.false)) (omega (arith, c.loop-made-test.false, c.loop-made.auto.made-end)) c.in_ok-keep_begun.ensures c.loop-made.invariant
