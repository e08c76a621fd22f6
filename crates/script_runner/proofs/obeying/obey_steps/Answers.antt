use Rattle.std.proofs.Common.{◌∙◌, sym, subst, arith}
use Rattle.run_model.specs.Follows.{Goes}
use Rattle.script_runner.specs.Standing.{ObeyedBy}
use Rattle.std.proofs.lemmas.Result.{on_ok_weaker, on_err_weaker}
use Rattle.script_runner.proofs.Orders.{goes_nowhere, goes_no_step, goes_far, stops_far, is_no_step, makes_a_step}
use Rattle.script_runner.specs.Scripts.{chip_for}
use Rattle.irq_control.specs.declared.held.Held.TheVariants.{Empty}
use Rattle.run_model.specs.Entry as entry
use Rattle.script_runner.proofs.Called.{called_none, called_written}
use Rattle.script_runner.proofs.obeying.obey_steps.Goals as goal

pub returns-then-depth-eq0-clause-obeyed : goal.returns-then-depth-eq0-clause-obeyed
returns-then-depth-eq0-clause-obeyed g c order = goes_nowhere (g.M.Module.spec c.args.course.now.driver) (chip_for c.args.course.now.devices c.args.course.now.config c.args.course.now.script.now) (g.M.Caller.call_of c.args.course.now.driver) c.args.course.now.script.now c.args.course.now.most c.args.script_line 0 c.args.reach order c.args.parts.now.bus c.args.parts.now.stack c.args.parts.now.journal c.held.new.self c.requires.room.steps (omega arith) (omega arith) c.held.ensures c.requires.stands

pub returns-then-is_no_step-clause-obeyed : goal.returns-then-is_no_step-clause-obeyed
returns-then-is_no_step-clause-obeyed g c order =
    let d = g.M.Module.spec c.args.course.now.driver in
    let none = is_no_step d (chip_for c.args.course.now.devices c.args.course.now.config c.args.course.now.script.now) (g.M.Caller.call_of c.args.course.now.driver) c.args.course.now.script.now c.args.reach (sym c.is_no_step.ensures ∙ c.if-is_no_step.true) in
    subst (λ r. ObeyedBy (g.M.Module.spec c.args.course.now.driver) (chip_for c.args.course.now.devices c.args.course.now.config c.args.course.now.script.now) (g.M.Caller.call_of c.args.course.now.driver) c.args.course.now.script.now c.args.course.now.most order c.args.parts.now.bus c.args.parts.now.stack c.args.parts.now.journal c.args.parts.now.bus c.args.parts.now.stack c.args.parts.now.journal (λ m items. Goes d.setting c.args.script_line r m m.opens items)) (sym none) (goes_no_step (g.M.Module.spec c.args.course.now.driver) (chip_for c.args.course.now.devices c.args.course.now.config c.args.course.now.script.now) (g.M.Caller.call_of c.args.course.now.driver) c.args.course.now.script.now c.args.course.now.most c.args.script_line order c.args.parts.now.bus c.args.parts.now.stack c.args.parts.now.journal c.requires.room.steps (omega arith) c.requires.stands)

pub returns-clause-obeyed : goal.returns-clause-obeyed
returns-clause-obeyed g c = on_ok_weaker c.run_steps.result (λ w order. goes_far (g.M.Module.spec c.args.course.now.driver) (chip_for c.args.course.now.devices c.args.course.now.config c.args.course.now.script.now) (g.M.Caller.call_of c.args.course.now.driver) c.args.course.now.script.now c.args.course.now.most c.args.script_line c.args.reach order c.args.parts.now.bus c.args.parts.now.stack c.args.parts.now.journal c.run_steps.new.parts.bus c.run_steps.new.parts.stack c.run_steps.new.parts.journal (omega arith) (makes_a_step (g.M.Module.spec c.args.course.now.driver) (chip_for c.args.course.now.devices c.args.course.now.config c.args.course.now.script.now) (g.M.Caller.call_of c.args.course.now.driver) c.args.course.now.script.now c.args.reach (sym c.is_no_step.ensures ∙ c.if-is_no_step.false)) c.requires.stands w) c.run_steps.ensures.went

pub returns-clause-too_long : goal.returns-clause-too_long
returns-clause-too_long g c = on_err_weaker c.run_steps.result (λ w. stops_far (g.M.Module.spec c.args.course.now.driver) (chip_for c.args.course.now.devices c.args.course.now.config c.args.course.now.script.now) (g.M.Caller.call_of c.args.course.now.driver) c.args.course.now.script.now c.args.course.now.most c.args.script_line c.args.reach c.args.parts.now.bus c.args.parts.now.stack c.args.parts.now.journal c.run_steps.new.parts.bus c.run_steps.new.parts.stack c.run_steps.new.parts.journal (omega arith) (makes_a_step (g.M.Module.spec c.args.course.now.driver) (chip_for c.args.course.now.devices c.args.course.now.config c.args.course.now.script.now) (g.M.Caller.call_of c.args.course.now.driver) c.args.course.now.script.now c.args.reach (sym c.is_no_step.ensures ∙ c.if-is_no_step.false)) c.requires.stands w) c.run_steps.ensures.too_long

pub returns-then-depth-eq0-clause-calls : goal.returns-then-depth-eq0-clause-calls
returns-then-depth-eq0-clause-calls g c = called_written (g.M.Module.spec c.args.course.now.driver) (chip_for c.args.course.now.devices c.args.course.now.config c.args.course.now.script.now) (g.M.Caller.call_of c.args.course.now.driver) c.args.course.now.script.now c.args.parts.now.journal c.held.new.self c.args.script_line _ (entry.Stays Empty) _ _ c.held.ensures tt

pub returns-then-is_no_step-clause-calls : goal.returns-then-is_no_step-clause-calls
returns-then-is_no_step-clause-calls g c = called_none (g.M.Module.spec c.args.course.now.driver) (chip_for c.args.course.now.devices c.args.course.now.config c.args.course.now.script.now) (g.M.Caller.call_of c.args.course.now.driver) c.args.course.now.script.now c.args.parts.now.journal.entries _
