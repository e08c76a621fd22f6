use Rattle.std.proofs.Common.{sym, subst}
use Rattle.run_model.specs.Script.{deeds_of}
use Rattle.script_runner.specs.Scripts.{chip_for}
use Rattle.script_runner.specs.Standing.{Obeyed}
use Rattle.script_runner.proofs.Events.{resets}
use Rattle.script_runner.proofs.hardware.obey_reset.Goals as goal

pub returns : goal.returns
returns g c =
    subst (λ o. Obeyed (g.M.Module.spec c.args.course.now.driver) (chip_for c.args.course.now.devices c.args.course.now.config c.args.course.now.script.now) (g.M.Caller.call_of c.args.course.now.driver) c.args.course.now.script.now c.args.course.now.most c.args.directive.now.line o c.args.parts.now.bus c.args.parts.now.stack c.args.parts.now.journal c.reset-dropped.new.bus c.reset-dropped.new.stack c.reset.new.self) (sym c.requires.reset)
    (resets (g.M.Module.spec c.args.course.now.driver) (chip_for c.args.course.now.devices c.args.course.now.config c.args.course.now.script.now) (g.M.Caller.call_of c.args.course.now.driver) c.args.course.now.script.now c.args.course.now.most c.args.directive.now.line c.depth-depth.result c.reset-dropped.result c.args.reason c.args.parts.now.bus c.args.parts.now.stack c.args.parts.now.journal c.reset-dropped.new.bus c.reset-dropped.new.stack c.reset.new.self
    c.requires.room.steps c.requires.asked c.depth-depth.ensures c.reset-dropped.ensures.dropped c.reset-dropped.ensures.chip c.reset-dropped.ensures.stack c.reset.ensures
    (c.reset-dropped.ensures.stands c.args.course.now.driver (chip_for c.args.course.now.devices c.args.course.now.config c.args.course.now.script.now) (deeds_of (g.M.Caller.call_of c.args.course.now.driver) c.args.course.now.script.now c.args.parts.now.journal.entries) c.requires.fits c.requires.stands)
    c.requires.stands)
