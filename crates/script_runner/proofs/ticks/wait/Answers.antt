use Rattle.std.proofs.lemmas.Bool.{OnFalse_from}
use Rattle.script_runner.specs.Scripts.{chip_for}
use Rattle.script_runner.proofs.Waits.{looked-up, no-wait}
use Rattle.script_runner.proofs.ticks.wait.Goals as goal

pub returns-else-may_wait-clause-on : goal.returns-else-may_wait-clause-on
returns-else-may_wait-clause-on g c = OnFalse_from c.may_wait.result _ (λ e. no-wait (g.M.Module.spec c.args.course.now.driver) (chip_for c.args.course.now.devices c.args.course.now.config c.args.course.now.script.now) (g.M.Caller.call_of c.args.course.now.driver) c.args.course.now.script.now g.M.Frame.Routine.move_of g.M.Frame.Routine.left g.M.Frame.Routine.gave (g.met.M.Module.laws c.args.course.now.driver c.requires.fits) c.args.line c.args.parts.now.bus c.args.parts.now.stack.frames c.args.parts.now.journal c.args.made.now (looked-up g.M.Frame.Routine.move_of c.args.parts.now.stack.frames c.args.made.now c.requires.frame c.requires.looked) (c.if-may_wait.ensures c.args.parts.now.bus) c.requires.stands)
