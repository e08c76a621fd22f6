use Rattle.std.proofs.Common.{arith}
use Rattle.script_runner.proofs.Scripts.{got, given_more, bound_more, offered_at}
use Rattle.script_runner.proofs.sizes.sizes_of.Goals as goal

pub loop-directive-preserved : goal.loop-directive-preserved
loop-directive-preserved g c =
    let there = got c.args.script.now c.loop-directive.directive-index c.directive-item.result (omega arith) c.directive-item.is in
    let more = bound_more (g.M.Module.spec c.args.driver.now) (g.M.Caller.call_of c.args.driver.now) c.args.script.now c.loop-directive.directive-index c.directive-item.result there in
    let given = given_more c.args.script.now c.loop-directive.directive-index c.directive-item.result there in (
      omega (arith, more, c.from-steps.ensures, c.steps_by.ensures.bound, c.loop-directive.invariant.0),
      omega (arith, c.from-steps.ensures, c.steps_by.ensures.few, c.loop-directive.invariant.1),
      omega (arith, given, c.words_by-words.ensures.given, c.loop-directive.invariant.2),
      omega (arith, c.words_by-words.ensures.few, c.loop-directive.invariant.3),
    )

pub steps_by-requires-clause-offered : goal.steps_by-requires-clause-offered
steps_by-requires-clause-offered g c = offered_at (g.M.Caller.has_service c.args.driver.now) c.args.script.now c.loop-directive.directive-index c.directive-item.result c.requires.offered (got c.args.script.now c.loop-directive.directive-index c.directive-item.result (omega arith) c.directive-item.is)
