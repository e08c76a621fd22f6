use Rattle.std.proofs.Common.{◌∙◌, sym, ap, subst, refl, arith}
use Rattle.chip_model.specs.Chip.{CanHappen}
use Rattle.mcal_base.specs.declared.directive.Order.TheVariants as orders
use Rattle.run_model.specs.Entry as entry
use Rattle.run_model.specs.Legal.{hardware_held}
use Rattle.irq_control.specs.declared.held.Held.TheVariants.{Unknown}
use Rattle.script_runner.specs.Scripts.{chip_for}
use Rattle.script_runner.specs.Standing.{moment_of, Obeyed, is_built, is_hardware}
use Rattle.script_runner.proofs.Called.{called_written}
use Rattle.script_runner.proofs.Detached.{detach_free, detach_held, called_detach, rack_after, some_left}
use Rattle.script_runner.proofs.Events.{moves_not}
use Rattle.script_runner.proofs.UnderWay.{none_left}
use Rattle.script_runner.proofs.hardware.obey_detach.Goals as goal

pub move_hardware-requires-clause-hardware : goal.move_hardware-requires-clause-hardware
move_hardware-requires-clause-hardware g c = ap is_hardware c.requires.detach

pub move_hardware-requires-clause-built : goal.move_hardware-requires-clause-built
move_hardware-requires-clause-built g c = ap is_built c.requires.detach

pub move_hardware-requires-clause-can : goal.move_hardware-requires-clause-can
move_hardware-requires-clause-can g c = subst (λ o. CanHappen c.args.parts.now.bus o) (sym c.requires.detach) tt

pub move_hardware-requires-clause-free : goal.move_hardware-requires-clause-free
move_hardware-requires-clause-free g c =
    ap (hardware_held (g.M.Module.spec c.args.course.now.driver).setting (moment_of (g.M.Module.spec c.args.course.now.driver) (chip_for c.args.course.now.devices c.args.course.now.config c.args.course.now.script.now) (g.M.Caller.call_of c.args.course.now.driver) c.args.course.now.script.now c.args.parts.now.journal.entries)) c.requires.detach
    ∙ detach_free (g.M.Module.spec c.args.course.now.driver) (chip_for c.args.course.now.devices c.args.course.now.config c.args.course.now.script.now) (g.M.Caller.call_of c.args.course.now.driver) c.args.course.now.script.now c.args.parts.now.bus c.args.parts.now.stack.frames c.args.parts.now.journal.entries c.requires.stands (some_left _ _ c.requires.hung (sym c.is_empty.ensures ∙ c.if-is_empty.false))

pub returns-then-is_empty-clause-obeyed : goal.returns-then-is_empty-clause-obeyed
returns-then-is_empty-clause-obeyed g c =
    subst (λ o. Obeyed (g.M.Module.spec c.args.course.now.driver) (chip_for c.args.course.now.devices c.args.course.now.config c.args.course.now.script.now) (g.M.Caller.call_of c.args.course.now.driver) c.args.course.now.script.now c.args.course.now.most c.args.directive.now.line o c.args.parts.now.bus c.args.parts.now.stack c.args.parts.now.journal c.args.parts.now.bus c.args.parts.now.stack c.held.new.self) (sym c.requires.detach)
    (moves_not (g.M.Module.spec c.args.course.now.driver) (chip_for c.args.course.now.devices c.args.course.now.config c.args.course.now.script.now) (g.M.Caller.call_of c.args.course.now.driver) c.args.course.now.script.now c.args.course.now.most c.args.directive.now.line c.depth-depth.result orders.Detach Unknown c.args.parts.now.bus c.args.parts.now.stack c.args.parts.now.journal c.held.new.self
    c.requires.room.steps refl c.depth-depth.ensures
    (detach_held (g.M.Module.spec c.args.course.now.driver) (chip_for c.args.course.now.devices c.args.course.now.config c.args.course.now.script.now) (g.M.Caller.call_of c.args.course.now.driver) c.args.course.now.script.now c.args.parts.now.bus c.args.parts.now.stack.frames c.args.parts.now.journal.entries c.requires.stands (none_left _ _ c.requires.hung (sym c.is_empty.ensures ∙ c.if-is_empty.true)))
    c.held.ensures c.requires.stands)

pub returns-then-is_empty-clause-calls : goal.returns-then-is_empty-clause-calls
returns-then-is_empty-clause-calls g c = called_written (g.M.Module.spec c.args.course.now.driver) (chip_for c.args.course.now.devices c.args.course.now.config c.args.course.now.script.now) (g.M.Caller.call_of c.args.course.now.driver) c.args.course.now.script.now c.args.parts.now.journal c.held.new.self c.args.directive.now.line _ (entry.Stays Unknown) _ _ c.held.ensures tt

pub returns-else-is_empty-clause-calls : goal.returns-else-is_empty-clause-calls
returns-else-is_empty-clause-calls g c =
    called_detach (g.M.Module.spec c.args.course.now.driver) (chip_for c.args.course.now.devices c.args.course.now.config c.args.course.now.script.now) (g.M.Caller.call_of c.args.course.now.driver) c.args.course.now.script.now _ c.args.rack.now.items c.drop_last.new.rack.items c.args.course.now.most c.args.directive.now.line c.args.parts.now.bus c.args.parts.now.stack c.args.parts.now.journal c.move_hardware.new.parts.bus c.move_hardware.new.parts.stack c.move_hardware.new.parts.journal c.args.rack.now.len (omega arith)
    (detach_free (g.M.Module.spec c.args.course.now.driver) (chip_for c.args.course.now.devices c.args.course.now.config c.args.course.now.script.now) (g.M.Caller.call_of c.args.course.now.driver) c.args.course.now.script.now c.args.parts.now.bus c.args.parts.now.stack.frames c.args.parts.now.journal.entries c.requires.stands (some_left _ _ c.requires.hung (sym c.is_empty.ensures ∙ c.if-is_empty.false)))
    c.drop_last.ensures.rest
    (subst (λ o. Obeyed (g.M.Module.spec c.args.course.now.driver) (chip_for c.args.course.now.devices c.args.course.now.config c.args.course.now.script.now) (g.M.Caller.call_of c.args.course.now.driver) c.args.course.now.script.now c.args.course.now.most c.args.directive.now.line o c.args.parts.now.bus c.args.parts.now.stack c.args.parts.now.journal c.move_hardware.new.parts.bus c.move_hardware.new.parts.stack c.move_hardware.new.parts.journal) c.requires.detach c.move_hardware.ensures)

pub returns-else-is_empty-clause-hung : goal.returns-else-is_empty-clause-hung
returns-else-is_empty-clause-hung g c =
    rack_after (g.M.Module.spec c.args.course.now.driver) (chip_for c.args.course.now.devices c.args.course.now.config c.args.course.now.script.now) (g.M.Caller.call_of c.args.course.now.driver) c.args.course.now.script.now _ c.args.rack.now.items c.drop_last.new.rack.items _ _ c.args.parts.now.bus c.move_hardware.new.parts.bus c.args.parts.now.stack.frames c.move_hardware.new.parts.stack.frames c.args.parts.now.journal.entries c.move_hardware.new.parts.journal.entries (omega arith) (omega arith)
    c.requires.stands c.move_hardware.ensures.adds.stands (returns-else-is_empty-clause-calls g c) c.requires.hung
