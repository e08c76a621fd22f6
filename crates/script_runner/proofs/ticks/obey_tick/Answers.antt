use Rattle.std.proofs.Common.{◌∙◌, ◌-◌, refl, sym, subst, arith}
use Rattle.script_runner.specs.Scripts.{chip_for}
use Rattle.script_runner.specs.Standing.{Obeyed}
use Rattle.script_runner.proofs.Events.{slow_chip}
use Rattle.script_runner.proofs.Waits.{ticks-on, ticks-end, ticks-past-end}
use Rattle.script_runner.proofs.ticks.obey_tick.Goals as goal

pub returns-then-left-ticks : goal.returns-then-left-ticks
returns-then-left-ticks g c =
    subst (λ o. Obeyed (g.M.Module.spec c.args.course.now.driver) (chip_for c.args.course.now.devices c.args.course.now.config c.args.course.now.script.now) (g.M.Caller.call_of c.args.course.now.driver) c.args.course.now.script.now c.args.course.now.most c.args.directive.now.line o c.args.parts.now.bus c.args.parts.now.stack c.args.parts.now.journal c.tick_on.new.parts.bus c.tick_on.new.parts.stack c.tick_on.new.parts.journal) (sym c.requires.tick)
    (ticks-past-end (g.M.Module.spec c.args.course.now.driver) (chip_for c.args.course.now.devices c.args.course.now.config c.args.course.now.script.now) (g.M.Caller.call_of c.args.course.now.driver) c.args.course.now.script.now g.M.Frame.Routine.move_of g.M.Frame.Routine.left g.M.Frame.Routine.gave (g.met.M.Module.laws c.args.course.now.driver c.requires.fits) c.args.course.now.most c.args.directive.now.line c.args.ticks c.in-Some.left (c.args.ticks - c.in-Some.left) c.args.parts.now.bus c.args.parts.now.stack c.args.parts.now.journal c.run_down.new.parts.bus c.run_down.new.parts.stack c.run_down.new.parts.journal c.tick_on.new.parts.bus c.tick_on.new.parts.stack c.tick_on.new.parts.journal
    c.requires.room.steps c.requires.few (slow_chip (g.M.Module.spec c.args.course.now.driver) (chip_for c.args.course.now.devices c.args.course.now.config c.args.course.now.script.now) (g.M.Caller.call_of c.args.course.now.driver) c.args.course.now.script.now c.args.parts.now.bus c.args.parts.now.stack.frames c.args.parts.now.journal.entries (λ chip w ps s r. g.met.M.Caller.slow c.args.course.now.driver chip w ps s c.requires.fits r) c.requires.stands) (sym c.left_of.ensures ∙ c.in-Some.is) refl (omega arith) c.requires.stands c.run_down.ensures c.tick_on.ensures.stack c.tick_on.ensures.ticked)

pub returns-else-left-ticks : goal.returns-else-left-ticks
returns-else-left-ticks g c =
    subst (λ o. Obeyed (g.M.Module.spec c.args.course.now.driver) (chip_for c.args.course.now.devices c.args.course.now.config c.args.course.now.script.now) (g.M.Caller.call_of c.args.course.now.driver) c.args.course.now.script.now c.args.course.now.most c.args.directive.now.line o c.args.parts.now.bus c.args.parts.now.stack c.args.parts.now.journal c.run_down.new.parts.bus c.run_down.new.parts.stack c.run_down.new.parts.journal) (sym c.requires.tick)
    (ticks-end (g.M.Module.spec c.args.course.now.driver) (chip_for c.args.course.now.devices c.args.course.now.config c.args.course.now.script.now) (g.M.Caller.call_of c.args.course.now.driver) c.args.course.now.script.now g.M.Frame.Routine.move_of g.M.Frame.Routine.left g.M.Frame.Routine.gave (g.met.M.Module.laws c.args.course.now.driver c.requires.fits) c.args.course.now.most c.args.directive.now.line c.args.ticks c.in-Some.left c.args.parts.now.bus c.args.parts.now.stack c.args.parts.now.journal c.run_down.new.parts.bus c.run_down.new.parts.stack c.run_down.new.parts.journal
    c.requires.room.steps c.requires.few (slow_chip (g.M.Module.spec c.args.course.now.driver) (chip_for c.args.course.now.devices c.args.course.now.config c.args.course.now.script.now) (g.M.Caller.call_of c.args.course.now.driver) c.args.course.now.script.now c.args.parts.now.bus c.args.parts.now.stack.frames c.args.parts.now.journal.entries (λ chip w ps s r. g.met.M.Caller.slow c.args.course.now.driver chip w ps s c.requires.fits r) c.requires.stands) (sym c.left_of.ensures ∙ c.in-Some.is) (omega arith) c.requires.stands c.run_down.ensures)

pub returns-in-None : goal.returns-in-None
returns-in-None g c =
    subst (λ o. Obeyed (g.M.Module.spec c.args.course.now.driver) (chip_for c.args.course.now.devices c.args.course.now.config c.args.course.now.script.now) (g.M.Caller.call_of c.args.course.now.driver) c.args.course.now.script.now c.args.course.now.most c.args.directive.now.line o c.args.parts.now.bus c.args.parts.now.stack c.args.parts.now.journal c.tick_on-in-None.new.parts.bus c.tick_on-in-None.new.parts.stack c.tick_on-in-None.new.parts.journal) (sym c.requires.tick)
    (ticks-on (g.M.Module.spec c.args.course.now.driver) (chip_for c.args.course.now.devices c.args.course.now.config c.args.course.now.script.now) (g.M.Caller.call_of c.args.course.now.driver) c.args.course.now.script.now g.M.Frame.Routine.move_of g.M.Frame.Routine.left g.M.Frame.Routine.gave (g.met.M.Module.laws c.args.course.now.driver c.requires.fits) c.args.course.now.most c.args.directive.now.line c.args.ticks c.args.parts.now.bus c.args.parts.now.stack c.args.parts.now.journal c.tick_on-in-None.new.parts.bus c.tick_on-in-None.new.parts.stack c.tick_on-in-None.new.parts.journal
    c.requires.room.steps c.requires.few (slow_chip (g.M.Module.spec c.args.course.now.driver) (chip_for c.args.course.now.devices c.args.course.now.config c.args.course.now.script.now) (g.M.Caller.call_of c.args.course.now.driver) c.args.course.now.script.now c.args.parts.now.bus c.args.parts.now.stack.frames c.args.parts.now.journal.entries (λ chip w ps s r. g.met.M.Caller.slow c.args.course.now.driver chip w ps s c.requires.fits r) c.requires.stands) (sym c.left_of.ensures ∙ c.in-None.is) c.requires.stands c.tick_on-in-None.ensures.stack c.tick_on-in-None.ensures.ticked)
