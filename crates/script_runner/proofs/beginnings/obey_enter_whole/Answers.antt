use Rattle.run_model.specs.Follows.{line_held}
use Rattle.run_model.specs.Moment.{Enters}
use Rattle.std.proofs.lemmas.Result.{on_ok_weaker, on_err_weaker}
use Rattle.script_runner.proofs.Arms.{begins_to_stop}
use Rattle.script_runner.proofs.Orders.{whole, whole_off, on_same, obeyed_same}
use Rattle.script_runner.specs.Scripts.{chip_for}
use Rattle.run_model.specs.Entry as entry
use Rattle.script_runner.proofs.Called.{called_then, called_written}
use Rattle.script_runner.proofs.beginnings.obey_enter_whole.Goals as goal

pub returns-then-obey_enter-clause-obeyed : goal.returns-then-obey_enter-clause-obeyed
returns-then-obey_enter-clause-obeyed g c =
    on_ok_weaker c.run_steps.result (λ w order at. obeyed_same (g.M.Module.spec c.args.course.now.driver) (chip_for c.args.course.now.devices c.args.course.now.config c.args.course.now.script.now) (g.M.Caller.call_of c.args.course.now.driver) c.args.course.now.script.now c.args.course.now.most order c.args.parts.now.bus c.obey_enter.new.parts.bus c.args.parts.now.stack c.args.parts.now.journal c.run_steps.new.parts.bus c.run_steps.new.parts.stack c.run_steps.new.parts.journal _ c.obey_enter.ensures.bus
    (whole (g.M.Module.spec c.args.course.now.driver) (chip_for c.args.course.now.devices c.args.course.now.config c.args.course.now.script.now) (g.M.Caller.call_of c.args.course.now.driver) c.args.course.now.script.now c.args.course.now.most c.args.script_line order (Enters c.args.irq) c.obey_enter.new.parts.bus c.args.parts.now.stack c.args.parts.now.journal c.obey_enter.new.parts.stack c.obey_enter.new.parts.journal c.run_steps.new.parts.bus c.run_steps.new.parts.stack c.run_steps.new.parts.journal (λ m. line_held (g.M.Module.spec c.args.course.now.driver).setting m c.args.irq)
    c.requires.room.steps at (on_same (g.M.Module.spec c.args.course.now.driver) (chip_for c.args.course.now.devices c.args.course.now.config c.args.course.now.script.now) (g.M.Caller.call_of c.args.course.now.driver) c.args.course.now.script.now c.args.parts.now.bus c.obey_enter.new.parts.bus c.args.parts.now.stack.frames c.args.parts.now.journal.entries c.obey_enter.ensures.bus c.requires.stands) c.if-obey_enter.ensures.began w)) c.run_steps.ensures.went

pub returns-else-obey_enter-clause-obeyed : goal.returns-else-obey_enter-clause-obeyed
returns-else-obey_enter-clause-obeyed g c order at =
    obeyed_same (g.M.Module.spec c.args.course.now.driver) (chip_for c.args.course.now.devices c.args.course.now.config c.args.course.now.script.now) (g.M.Caller.call_of c.args.course.now.driver) c.args.course.now.script.now c.args.course.now.most order c.args.parts.now.bus c.obey_enter.new.parts.bus c.args.parts.now.stack c.args.parts.now.journal c.obey_enter.new.parts.bus c.obey_enter.new.parts.stack c.obey_enter.new.parts.journal _ c.obey_enter.ensures.bus
    (whole_off (g.M.Module.spec c.args.course.now.driver) (chip_for c.args.course.now.devices c.args.course.now.config c.args.course.now.script.now) (g.M.Caller.call_of c.args.course.now.driver) c.args.course.now.script.now c.args.course.now.most c.args.script_line order (Enters c.args.irq) c.obey_enter.new.parts.bus c.args.parts.now.stack c.args.parts.now.journal c.obey_enter.new.parts.stack c.obey_enter.new.parts.journal (λ m. line_held (g.M.Module.spec c.args.course.now.driver).setting m c.args.irq)
    c.requires.room.steps (on_same (g.M.Module.spec c.args.course.now.driver) (chip_for c.args.course.now.devices c.args.course.now.config c.args.course.now.script.now) (g.M.Caller.call_of c.args.course.now.driver) c.args.course.now.script.now c.args.parts.now.bus c.obey_enter.new.parts.bus c.args.parts.now.stack.frames c.args.parts.now.journal.entries c.obey_enter.ensures.bus c.requires.stands) c.if-obey_enter.ensures.held)

pub returns-then-obey_enter-clause-too_long : goal.returns-then-obey_enter-clause-too_long
returns-then-obey_enter-clause-too_long g c =
    on_err_weaker c.run_steps.result (λ w. begins_to_stop (g.M.Module.spec c.args.course.now.driver) (chip_for c.args.course.now.devices c.args.course.now.config c.args.course.now.script.now) (g.M.Caller.call_of c.args.course.now.driver) c.args.course.now.script.now c.args.course.now.most c.args.script_line (Enters c.args.irq) (λ m. line_held (g.M.Module.spec c.args.course.now.driver).setting m c.args.irq) c.obey_enter.new.parts.bus c.args.parts.now.stack c.args.parts.now.journal c.obey_enter.new.parts.stack c.obey_enter.new.parts.journal c.run_steps.new.parts.bus c.run_steps.new.parts.stack c.run_steps.new.parts.journal
    (on_same (g.M.Module.spec c.args.course.now.driver) (chip_for c.args.course.now.devices c.args.course.now.config c.args.course.now.script.now) (g.M.Caller.call_of c.args.course.now.driver) c.args.course.now.script.now c.args.parts.now.bus c.obey_enter.new.parts.bus c.args.parts.now.stack.frames c.args.parts.now.journal.entries c.obey_enter.ensures.bus c.requires.stands) c.if-obey_enter.ensures.began w) c.run_steps.ensures.too_long

pub returns-then-obey_enter-clause-calls : goal.returns-then-obey_enter-clause-calls
returns-then-obey_enter-clause-calls g c =
    called_then (g.M.Module.spec c.args.course.now.driver) (chip_for c.args.course.now.devices c.args.course.now.config c.args.course.now.script.now) (g.M.Caller.call_of c.args.course.now.driver) c.args.course.now.script.now c.args.parts.now.journal.entries c.obey_enter.new.parts.journal.entries c.run_steps.new.parts.journal.entries _ _ _
    (called_written (g.M.Module.spec c.args.course.now.driver) (chip_for c.args.course.now.devices c.args.course.now.config c.args.course.now.script.now) (g.M.Caller.call_of c.args.course.now.driver) c.args.course.now.script.now c.args.parts.now.journal c.obey_enter.new.parts.journal c.args.script_line _ entry.Begins _ _ c.if-obey_enter.ensures.began.written tt) c.run_steps.ensures.calls

pub returns-else-obey_enter-clause-calls : goal.returns-else-obey_enter-clause-calls
returns-else-obey_enter-clause-calls g c = called_written (g.M.Module.spec c.args.course.now.driver) (chip_for c.args.course.now.devices c.args.course.now.config c.args.course.now.script.now) (g.M.Caller.call_of c.args.course.now.driver) c.args.course.now.script.now c.args.parts.now.journal c.obey_enter.new.parts.journal c.args.script_line _ (entry.Stays c.if-obey_enter.ensures.held.cause) _ _ c.if-obey_enter.ensures.held.written tt
