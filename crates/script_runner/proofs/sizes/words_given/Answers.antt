use Rattle.std.proofs.Common.{arith}
use Rattle.script_runner.proofs.Scripts.{got, given_more}
use Rattle.script_runner.proofs.sizes.words_given.Goals as goal

pub loop-directive-preserved : goal.loop-directive-preserved
loop-directive-preserved c =
    let k = given_more c.args.script.now c.loop-directive.directive-index c.directive-item.result (got c.args.script.now c.loop-directive.directive-index c.directive-item.result (omega arith) c.directive-item.is) in
    (omega (arith, k, c.words_by-given.ensures.given, c.loop-directive.invariant.0), omega (arith, c.words_by-given.ensures.few, c.loop-directive.invariant.1))
