use Rattle.std.proofs.Common.{arith, vec_len}
use Rattle.bench_sweep.proofs.Numbered.{added, lines_added}
use Rattle.bench_sweep.proofs.flattening.Flat.add.Goals as goal

pub loop-directive-preserved : goal.loop-directive-preserved
loop-directive-preserved c = record {
  script = added c.args.self.now.script.items c.loop-directive.self.script.items c.push.new.self.script.items (vec_len c.args.self.now.script) (vec_len c.loop-directive.self.script) c.loop-directive.directive-index c.args.directives.now c.directive-item.result c.loop-directive-test.true c.directive-item.is c.loop-directive.invariant.count c.loop-directive.invariant.script c.in_ok-push.ensures.script;
  lines = lines_added c.args.self.now.lines.items c.loop-directive.self.lines.items c.push.new.self.lines.items c.loop-directive.directive-index c.args.directives.now c.directive-item.result c.loop-directive-test.true c.directive-item.is c.loop-directive.invariant.lines c.in_ok-push.ensures.lines;
  same = c.in_ok-push.ensures.same;
  count = omega (arith, c.in_ok-push.ensures.count, c.loop-directive.invariant.count);
}
