use Rattle.std.proofs.Common.{arith}
use Rattle.run_model.specs.Script.{deeds_of}
use Rattle.script_runner.specs.Scripts.{chip_for}
use Rattle.script_runner.proofs.Events.{is_noted, is_early, words_are, moves}
use Rattle.script_runner.proofs.hardware.move_hardware.Goals as goal

pub happened-requires-clause-happening : goal.happened-requires-clause-happening
happened-requires-clause-happening g c = is_noted c.args.directive.now.order c.requires.hardware

pub happened-requires-clause-words : goal.happened-requires-clause-words
happened-requires-clause-words g c = omega (arith, words_are c.args.directive.now.order, c.words_by-words.ensures.given, c.words_by-words.ensures.few, c.requires.room.words)

pub returns : goal.returns
returns g c =
    moves (g.M.Module.spec c.args.course.now.driver) (chip_for c.args.course.now.devices c.args.course.now.config c.args.course.now.script.now) (g.M.Caller.call_of c.args.course.now.driver) c.args.course.now.script.now c.args.course.now.most c.args.directive.now.line c.depth-depth.result c.args.directive.now.order c.args.parts.now.bus c.args.parts.now.stack c.args.parts.now.journal c.hardware.new.bus c.happened.new.self
    c.requires.room.steps c.requires.hardware c.requires.free (omega (arith, c.words_by-words.ensures.given, c.words_by-words.ensures.few))
    c.depth-depth.ensures c.hardware.ensures.chip c.happened.ensures
    (c.hardware.ensures.stands c.args.course.now.driver (chip_for c.args.course.now.devices c.args.course.now.config c.args.course.now.script.now) (deeds_of (g.M.Caller.call_of c.args.course.now.driver) c.args.course.now.script.now c.args.parts.now.journal.entries) c.requires.fits c.requires.free (is_early c.args.directive.now.order _ c.requires.hardware) c.requires.stands)
    c.requires.stands
