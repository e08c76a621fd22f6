use Rattle.script_runner.specs.Scripts.{chip_for}
use Rattle.script_runner.specs.Standing.{moment_of}
use Rattle.script_runner.proofs.Events.{may_happen, none_held}
use Rattle.script_runner.proofs.hardware.obey_hardware.Goals as goal

pub move_hardware-requires-clause-can : goal.move_hardware-requires-clause-can
move_hardware-requires-clause-can g c =
    may_happen c.args.parts.now.bus c.args.directive.now.order c.requires.hardware c.requires.built c.requires.free c.requires.given

pub move_hardware-requires-clause-free : goal.move_hardware-requires-clause-free
move_hardware-requires-clause-free g c = none_held (g.M.Module.spec c.args.course.now.driver).setting (moment_of (g.M.Module.spec c.args.course.now.driver) (chip_for c.args.course.now.devices c.args.course.now.config c.args.course.now.script.now) (g.M.Caller.call_of c.args.course.now.driver) c.args.course.now.script.now c.args.parts.now.journal.entries) c.args.directive.now.order c.requires.free
