use Rattle.std.proofs.Common.{refl}
use Rattle.run_model.specs.Script.{deeds_of}
use Rattle.script_runner.specs.Scripts.{chip_for}
use Rattle.script_runner.proofs.Waits.{ticked-on}
use Rattle.script_runner.proofs.ticks.tick_on.Goals as goal

pub returns-clause-ticked : goal.returns-clause-ticked
returns-clause-ticked g c =
    ticked-on (g.M.Module.spec c.args.course.now.driver) (chip_for c.args.course.now.devices c.args.course.now.config c.args.course.now.script.now) (g.M.Caller.call_of c.args.course.now.driver) c.args.course.now.script.now c.args.line c.args.ticks c.depth-depth.result c.args.parts.now.bus c.args.parts.now.stack.frames c.args.parts.now.journal c.hardware.new.bus c.happened.new.self
    c.depth-depth.ensures c.hardware.ensures.chip c.happened.ensures
    (c.hardware.ensures.stands c.args.course.now.driver (chip_for c.args.course.now.devices c.args.course.now.config c.args.course.now.script.now) (deeds_of (g.M.Caller.call_of c.args.course.now.driver) c.args.course.now.script.now c.args.parts.now.journal.entries) c.requires.fits refl c.requires.early c.requires.stands)
