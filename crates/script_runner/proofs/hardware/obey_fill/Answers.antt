use Rattle.std.proofs.Common.{◌∙◌, sym, ap, subst}
use Rattle.chip_model.specs.Chip.{CanHappen}
use Rattle.run_model.specs.Legal.{hardware_held}
use Rattle.run_model.specs.Script.{deeds_of}
use Rattle.script_runner.specs.Scripts.{chip_for}
use Rattle.script_runner.specs.Standing.{moment_of, is_built, is_hardware, may_be_held}
use Rattle.script_runner.proofs.Events.{fill_is, moves_not}
use Rattle.script_runner.proofs.hardware.obey_fill.Goals as goal

pub move_hardware-requires-clause-hardware : goal.move_hardware-requires-clause-hardware
move_hardware-requires-clause-hardware g c = let f = fill_is c.args.directive.now.order c.args.channel c.requires.fill in ap is_hardware f.1

pub move_hardware-requires-clause-built : goal.move_hardware-requires-clause-built
move_hardware-requires-clause-built g c = let f = fill_is c.args.directive.now.order c.args.channel c.requires.fill in ap is_built f.1

pub move_hardware-requires-clause-can : goal.move_hardware-requires-clause-can
move_hardware-requires-clause-can g c =
    let f = fill_is c.args.directive.now.order c.args.channel c.requires.fill in
    subst (λ o. CanHappen c.args.parts.now.bus o) (sym f.1) (c.fill_held.ensures.free (chip_for c.args.course.now.devices c.args.course.now.config c.args.course.now.script.now) (deeds_of (g.M.Caller.call_of c.args.course.now.driver) c.args.course.now.script.now c.args.parts.now.journal.entries) f.0 c.requires.fits c.requires.stands c.in-None.is)

pub move_hardware-requires-clause-free : goal.move_hardware-requires-clause-free
move_hardware-requires-clause-free g c =
    let f = fill_is c.args.directive.now.order c.args.channel c.requires.fill in
    ap (hardware_held (g.M.Module.spec c.args.course.now.driver).setting (moment_of (g.M.Module.spec c.args.course.now.driver) (chip_for c.args.course.now.devices c.args.course.now.config c.args.course.now.script.now) (g.M.Caller.call_of c.args.course.now.driver) c.args.course.now.script.now c.args.parts.now.journal.entries)) f.1
    ∙ (sym (c.fill_held.ensures.cause (chip_for c.args.course.now.devices c.args.course.now.config c.args.course.now.script.now) (deeds_of (g.M.Caller.call_of c.args.course.now.driver) c.args.course.now.script.now c.args.parts.now.journal.entries) f.0 c.requires.fits c.requires.stands) ∙ c.in-None.is)

pub returns-in-Some : goal.returns-in-Some
returns-in-Some g c =
    let f = fill_is c.args.directive.now.order c.args.channel c.requires.fill in
    moves_not (g.M.Module.spec c.args.course.now.driver) (chip_for c.args.course.now.devices c.args.course.now.config c.args.course.now.script.now) (g.M.Caller.call_of c.args.course.now.driver) c.args.course.now.script.now c.args.course.now.most c.args.directive.now.line c.depth-depth.result c.args.directive.now.order c.in-Some.cause c.args.parts.now.bus c.args.parts.now.stack c.args.parts.now.journal c.held.new.self
    c.requires.room.steps (ap may_be_held f.1) c.depth-depth.ensures
    (ap (hardware_held (g.M.Module.spec c.args.course.now.driver).setting (moment_of (g.M.Module.spec c.args.course.now.driver) (chip_for c.args.course.now.devices c.args.course.now.config c.args.course.now.script.now) (g.M.Caller.call_of c.args.course.now.driver) c.args.course.now.script.now c.args.parts.now.journal.entries)) f.1
    ∙ (sym (c.fill_held.ensures.cause (chip_for c.args.course.now.devices c.args.course.now.config c.args.course.now.script.now) (deeds_of (g.M.Caller.call_of c.args.course.now.driver) c.args.course.now.script.now c.args.parts.now.journal.entries) f.0 c.requires.fits c.requires.stands) ∙ c.in-Some.is))
    c.held.ensures c.requires.stands
