use Rattle.run_model.specs.Script.{deeds_of}
use Rattle.script_runner.specs.Scripts.{chip_for}
use Rattle.script_runner.proofs.Waits.{ran-down}
use Rattle.script_runner.proofs.ticks.run_down.Goals as goal

pub returns : goal.returns
returns g c =
    ran-down (g.M.Module.spec c.args.course.now.driver) (chip_for c.args.course.now.devices c.args.course.now.config c.args.course.now.script.now) (g.M.Caller.call_of c.args.course.now.driver) c.args.course.now.script.now c.args.line c.args.left c.depth-depth.result c.run_out-dropped.result c.args.parts.now.bus c.args.parts.now.stack c.args.parts.now.journal c.happened.new.self c.run_out-dropped.new.bus c.run_out-dropped.new.stack c.reset.new.self
    c.depth-depth.ensures c.run_out-dropped.ensures.dropped c.happened.ensures c.reset.ensures c.run_out-dropped.ensures.chip c.run_out-dropped.ensures.stack
    (c.run_out-dropped.ensures.stands c.args.course.now.driver (chip_for c.args.course.now.devices c.args.course.now.config c.args.course.now.script.now) (deeds_of (g.M.Caller.call_of c.args.course.now.driver) c.args.course.now.script.now c.args.parts.now.journal.entries) c.requires.fits c.requires.stands)
