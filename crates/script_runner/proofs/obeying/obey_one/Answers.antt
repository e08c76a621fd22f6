use Rattle.std.proofs.Common.{refl, sym, subst, arith, inl, inr}
use Rattle.std.proofs.lemmas.Result.{on_ok_weaker, on_err_weaker}
use Rattle.mcal_base.specs.declared.directive.Order.TheVariants as orders
use Rattle.script_runner.specs.Standing.{Obeyed, Stuck}
use Rattle.script_runner.specs.Scripts.{chip_for}
use Rattle.script_runner.proofs.Called.{called_obeyed}
use Rattle.script_runner.proofs.Detached.{rack_after}
use Rattle.script_runner.proofs.obeying.obey_one.Goals as goal

pub returns-in-Call-clause-obeyed : goal.returns-in-Call-clause-obeyed
returns-in-Call-clause-obeyed g c = subst (λ o. Obeyed (g.M.Module.spec c.args.course.now.driver) (chip_for c.args.course.now.devices c.args.course.now.config c.args.course.now.script.now) (g.M.Caller.call_of c.args.course.now.driver) c.args.course.now.script.now c.args.course.now.most c.args.directive.now.line o c.args.parts.now.bus c.args.parts.now.stack c.args.parts.now.journal c.obey_call_alone.new.parts.bus c.obey_call_alone.new.parts.stack c.obey_call_alone.new.parts.journal) (sym c.in-Call.is) (c.obey_call_alone.ensures (orders.Call c.in-Call.level c.in-Call.request) refl)

pub returns-in-Do-clause-obeyed : goal.returns-in-Do-clause-obeyed
returns-in-Do-clause-obeyed g c = on_ok_weaker c.obey_call_whole.result (λ w. subst (λ o. Obeyed (g.M.Module.spec c.args.course.now.driver) (chip_for c.args.course.now.devices c.args.course.now.config c.args.course.now.script.now) (g.M.Caller.call_of c.args.course.now.driver) c.args.course.now.script.now c.args.course.now.most c.args.directive.now.line o c.args.parts.now.bus c.args.parts.now.stack c.args.parts.now.journal c.obey_call_whole.new.parts.bus c.obey_call_whole.new.parts.stack c.obey_call_whole.new.parts.journal) (sym c.in-Do.is) (w (orders.Do c.in-Do.level c.in-Do.request) refl)) c.obey_call_whole.ensures.obeyed

pub returns-in-Enter-clause-obeyed : goal.returns-in-Enter-clause-obeyed
returns-in-Enter-clause-obeyed g c = subst (λ o. Obeyed (g.M.Module.spec c.args.course.now.driver) (chip_for c.args.course.now.devices c.args.course.now.config c.args.course.now.script.now) (g.M.Caller.call_of c.args.course.now.driver) c.args.course.now.script.now c.args.course.now.most c.args.directive.now.line o c.args.parts.now.bus c.args.parts.now.stack c.args.parts.now.journal c.obey_enter_alone.new.parts.bus c.obey_enter_alone.new.parts.stack c.obey_enter_alone.new.parts.journal) (sym c.in-Enter.is) (c.obey_enter_alone.ensures (orders.Enter c.in-Enter.irq) refl)

pub returns-in-Serve-clause-obeyed : goal.returns-in-Serve-clause-obeyed
returns-in-Serve-clause-obeyed g c = on_ok_weaker c.obey_enter_whole.result (λ w. subst (λ o. Obeyed (g.M.Module.spec c.args.course.now.driver) (chip_for c.args.course.now.devices c.args.course.now.config c.args.course.now.script.now) (g.M.Caller.call_of c.args.course.now.driver) c.args.course.now.script.now c.args.course.now.most c.args.directive.now.line o c.args.parts.now.bus c.args.parts.now.stack c.args.parts.now.journal c.obey_enter_whole.new.parts.bus c.obey_enter_whole.new.parts.stack c.obey_enter_whole.new.parts.journal) (sym c.in-Serve.is) (w (orders.Serve c.in-Serve.irq) refl)) c.obey_enter_whole.ensures.obeyed

pub returns-in-Run-clause-obeyed : goal.returns-in-Run-clause-obeyed
returns-in-Run-clause-obeyed g c = on_ok_weaker c.obey_steps.result (λ w. subst (λ o. Obeyed (g.M.Module.spec c.args.course.now.driver) (chip_for c.args.course.now.devices c.args.course.now.config c.args.course.now.script.now) (g.M.Caller.call_of c.args.course.now.driver) c.args.course.now.script.now c.args.course.now.most c.args.directive.now.line o c.args.parts.now.bus c.args.parts.now.stack c.args.parts.now.journal c.obey_steps.new.parts.bus c.obey_steps.new.parts.stack c.obey_steps.new.parts.journal) (sym c.in-Run.is) (w (orders.Run c.in-Run.count))) c.obey_steps.ensures.obeyed

pub returns-in-Upto-clause-obeyed : goal.returns-in-Upto-clause-obeyed
returns-in-Upto-clause-obeyed g c = on_ok_weaker c.obey_steps-in-Upto.result (λ w. subst (λ o. Obeyed (g.M.Module.spec c.args.course.now.driver) (chip_for c.args.course.now.devices c.args.course.now.config c.args.course.now.script.now) (g.M.Caller.call_of c.args.course.now.driver) c.args.course.now.script.now c.args.course.now.most c.args.directive.now.line o c.args.parts.now.bus c.args.parts.now.stack c.args.parts.now.journal c.obey_steps-in-Upto.new.parts.bus c.obey_steps-in-Upto.new.parts.stack c.obey_steps-in-Upto.new.parts.journal) (sym c.in-Upto.is) (w (orders.Upto c.in-Upto.stop))) c.obey_steps-in-Upto.ensures.obeyed

pub returns-in-Finish-clause-obeyed : goal.returns-in-Finish-clause-obeyed
returns-in-Finish-clause-obeyed g c = on_ok_weaker c.obey_steps-in-Finish.result (λ w. subst (λ o. Obeyed (g.M.Module.spec c.args.course.now.driver) (chip_for c.args.course.now.devices c.args.course.now.config c.args.course.now.script.now) (g.M.Caller.call_of c.args.course.now.driver) c.args.course.now.script.now c.args.course.now.most c.args.directive.now.line o c.args.parts.now.bus c.args.parts.now.stack c.args.parts.now.journal c.obey_steps-in-Finish.new.parts.bus c.obey_steps-in-Finish.new.parts.stack c.obey_steps-in-Finish.new.parts.journal) (sym c.in-Finish.is) (w orders.Finish)) c.obey_steps-in-Finish.ensures.obeyed

pub returns-in-Do-clause-too_long : goal.returns-in-Do-clause-too_long
returns-in-Do-clause-too_long g c = on_err_weaker c.obey_call_whole.result (λ w. subst (λ o. Stuck (g.M.Module.spec c.args.course.now.driver) (chip_for c.args.course.now.devices c.args.course.now.config c.args.course.now.script.now) (g.M.Caller.call_of c.args.course.now.driver) c.args.course.now.script.now c.args.course.now.most c.args.directive.now.line o c.args.parts.now.stack c.args.parts.now.journal c.obey_call_whole.new.parts.bus c.obey_call_whole.new.parts.stack c.obey_call_whole.new.parts.journal) (sym c.in-Do.is) w) c.obey_call_whole.ensures.too_long

pub returns-in-Serve-clause-too_long : goal.returns-in-Serve-clause-too_long
returns-in-Serve-clause-too_long g c = on_err_weaker c.obey_enter_whole.result (λ w. subst (λ o. Stuck (g.M.Module.spec c.args.course.now.driver) (chip_for c.args.course.now.devices c.args.course.now.config c.args.course.now.script.now) (g.M.Caller.call_of c.args.course.now.driver) c.args.course.now.script.now c.args.course.now.most c.args.directive.now.line o c.args.parts.now.stack c.args.parts.now.journal c.obey_enter_whole.new.parts.bus c.obey_enter_whole.new.parts.stack c.obey_enter_whole.new.parts.journal) (sym c.in-Serve.is) w) c.obey_enter_whole.ensures.too_long

pub returns-in-Run-clause-too_long : goal.returns-in-Run-clause-too_long
returns-in-Run-clause-too_long g c = on_err_weaker c.obey_steps.result (λ w. subst (λ o. Stuck (g.M.Module.spec c.args.course.now.driver) (chip_for c.args.course.now.devices c.args.course.now.config c.args.course.now.script.now) (g.M.Caller.call_of c.args.course.now.driver) c.args.course.now.script.now c.args.course.now.most c.args.directive.now.line o c.args.parts.now.stack c.args.parts.now.journal c.obey_steps.new.parts.bus c.obey_steps.new.parts.stack c.obey_steps.new.parts.journal) (sym c.in-Run.is) w) c.obey_steps.ensures.too_long

pub returns-in-Upto-clause-too_long : goal.returns-in-Upto-clause-too_long
returns-in-Upto-clause-too_long g c = on_err_weaker c.obey_steps-in-Upto.result (λ w. subst (λ o. Stuck (g.M.Module.spec c.args.course.now.driver) (chip_for c.args.course.now.devices c.args.course.now.config c.args.course.now.script.now) (g.M.Caller.call_of c.args.course.now.driver) c.args.course.now.script.now c.args.course.now.most c.args.directive.now.line o c.args.parts.now.stack c.args.parts.now.journal c.obey_steps-in-Upto.new.parts.bus c.obey_steps-in-Upto.new.parts.stack c.obey_steps-in-Upto.new.parts.journal) (sym c.in-Upto.is) w) c.obey_steps-in-Upto.ensures.too_long

pub returns-in-Finish-clause-too_long : goal.returns-in-Finish-clause-too_long
returns-in-Finish-clause-too_long g c = on_err_weaker c.obey_steps-in-Finish.result (λ w. subst (λ o. Stuck (g.M.Module.spec c.args.course.now.driver) (chip_for c.args.course.now.devices c.args.course.now.config c.args.course.now.script.now) (g.M.Caller.call_of c.args.course.now.driver) c.args.course.now.script.now c.args.course.now.most c.args.directive.now.line o c.args.parts.now.stack c.args.parts.now.journal c.obey_steps-in-Finish.new.parts.bus c.obey_steps-in-Finish.new.parts.stack c.obey_steps-in-Finish.new.parts.journal) (sym c.in-Finish.is) w) c.obey_steps-in-Finish.ensures.too_long

pub returns-in-Call-clause-calls : goal.returns-in-Call-clause-calls
returns-in-Call-clause-calls g c = called_obeyed (g.M.Module.spec c.args.course.now.driver) (chip_for c.args.course.now.devices c.args.course.now.config c.args.course.now.script.now) (g.M.Caller.call_of c.args.course.now.driver) c.args.course.now.script.now c.args.course.now.most c.args.directive.now.line (orders.Call c.in-Call.level c.in-Call.request) c.args.parts.now.bus c.args.parts.now.stack c.args.parts.now.journal c.obey_call_alone.new.parts.bus c.obey_call_alone.new.parts.stack c.obey_call_alone.new.parts.journal _ tt (c.obey_call_alone.ensures (orders.Call c.in-Call.level c.in-Call.request) refl)

pub returns-in-Enter-clause-calls : goal.returns-in-Enter-clause-calls
returns-in-Enter-clause-calls g c = called_obeyed (g.M.Module.spec c.args.course.now.driver) (chip_for c.args.course.now.devices c.args.course.now.config c.args.course.now.script.now) (g.M.Caller.call_of c.args.course.now.driver) c.args.course.now.script.now c.args.course.now.most c.args.directive.now.line (orders.Enter c.in-Enter.irq) c.args.parts.now.bus c.args.parts.now.stack c.args.parts.now.journal c.obey_enter_alone.new.parts.bus c.obey_enter_alone.new.parts.stack c.obey_enter_alone.new.parts.journal _ tt (c.obey_enter_alone.ensures (orders.Enter c.in-Enter.irq) refl)

pub returns-in-Tick-clause-calls : goal.returns-in-Tick-clause-calls
returns-in-Tick-clause-calls g c = called_obeyed (g.M.Module.spec c.args.course.now.driver) (chip_for c.args.course.now.devices c.args.course.now.config c.args.course.now.script.now) (g.M.Caller.call_of c.args.course.now.driver) c.args.course.now.script.now c.args.course.now.most c.args.directive.now.line c.args.directive.now.order c.args.parts.now.bus c.args.parts.now.stack c.args.parts.now.journal c.obey_tick.new.parts.bus c.obey_tick.new.parts.stack c.obey_tick.new.parts.journal _ (rw c.in-Tick.is tt) c.obey_tick.ensures

pub returns-in-Level-clause-calls : goal.returns-in-Level-clause-calls
returns-in-Level-clause-calls g c = called_obeyed (g.M.Module.spec c.args.course.now.driver) (chip_for c.args.course.now.devices c.args.course.now.config c.args.course.now.script.now) (g.M.Caller.call_of c.args.course.now.driver) c.args.course.now.script.now c.args.course.now.most c.args.directive.now.line c.args.directive.now.order c.args.parts.now.bus c.args.parts.now.stack c.args.parts.now.journal c.obey_hardware.new.parts.bus c.obey_hardware.new.parts.stack c.obey_hardware.new.parts.journal _ (elim c.in-Level.is [
  | inl e ↦ rw e.2 tt
  | inr (inl e) ↦ rw e.2 tt
  | inr (inr (inl e)) ↦ rw e.1 tt
  | inr (inr (inr (inl e))) ↦ rw e.2 tt
  | inr (inr (inr (inr e))) ↦ rw e.1 tt
]) c.obey_hardware.ensures

pub returns-in-Reset-clause-calls : goal.returns-in-Reset-clause-calls
returns-in-Reset-clause-calls g c = called_obeyed (g.M.Module.spec c.args.course.now.driver) (chip_for c.args.course.now.devices c.args.course.now.config c.args.course.now.script.now) (g.M.Caller.call_of c.args.course.now.driver) c.args.course.now.script.now c.args.course.now.most c.args.directive.now.line c.args.directive.now.order c.args.parts.now.bus c.args.parts.now.stack c.args.parts.now.journal c.obey_reset.new.parts.bus c.obey_reset.new.parts.stack c.obey_reset.new.parts.journal _ (rw c.in-Reset.is tt) c.obey_reset.ensures

pub returns-in-Show-clause-calls : goal.returns-in-Show-clause-calls
returns-in-Show-clause-calls g c = called_obeyed (g.M.Module.spec c.args.course.now.driver) (chip_for c.args.course.now.devices c.args.course.now.config c.args.course.now.script.now) (g.M.Caller.call_of c.args.course.now.driver) c.args.course.now.script.now c.args.course.now.most c.args.directive.now.line c.args.directive.now.order c.args.parts.now.bus c.args.parts.now.stack c.args.parts.now.journal c.obey_show.new.parts.bus c.obey_show.new.parts.stack c.obey_show.new.parts.journal _ (rw c.in-Show.is tt) c.obey_show.ensures

pub returns-in-Fill-clause-calls : goal.returns-in-Fill-clause-calls
returns-in-Fill-clause-calls g c = called_obeyed (g.M.Module.spec c.args.course.now.driver) (chip_for c.args.course.now.devices c.args.course.now.config c.args.course.now.script.now) (g.M.Caller.call_of c.args.course.now.driver) c.args.course.now.script.now c.args.course.now.most c.args.directive.now.line c.args.directive.now.order c.args.parts.now.bus c.args.parts.now.stack c.args.parts.now.journal c.obey_fill.new.parts.bus c.obey_fill.new.parts.stack c.obey_fill.new.parts.journal _ (rw c.in-Fill.is tt) c.obey_fill.ensures

pub returns-in-Call-clause-hung : goal.returns-in-Call-clause-hung
returns-in-Call-clause-hung g c = rack_after (g.M.Module.spec c.args.course.now.driver) (chip_for c.args.course.now.devices c.args.course.now.config c.args.course.now.script.now) (g.M.Caller.call_of c.args.course.now.driver) c.args.course.now.script.now _ c.args.rack.now.items c.args.rack.now.items _ _ c.args.parts.now.bus c.obey_call_alone.new.parts.bus c.args.parts.now.stack.frames c.obey_call_alone.new.parts.stack.frames c.args.parts.now.journal.entries c.obey_call_alone.new.parts.journal.entries (omega arith) (omega arith) c.requires.stands (c.obey_call_alone.ensures (orders.Call c.in-Call.level c.in-Call.request) refl).adds.stands (returns-in-Call-clause-calls g c) c.requires.hung

pub returns-in-Enter-clause-hung : goal.returns-in-Enter-clause-hung
returns-in-Enter-clause-hung g c = rack_after (g.M.Module.spec c.args.course.now.driver) (chip_for c.args.course.now.devices c.args.course.now.config c.args.course.now.script.now) (g.M.Caller.call_of c.args.course.now.driver) c.args.course.now.script.now _ c.args.rack.now.items c.args.rack.now.items _ _ c.args.parts.now.bus c.obey_enter_alone.new.parts.bus c.args.parts.now.stack.frames c.obey_enter_alone.new.parts.stack.frames c.args.parts.now.journal.entries c.obey_enter_alone.new.parts.journal.entries (omega arith) (omega arith) c.requires.stands (c.obey_enter_alone.ensures (orders.Enter c.in-Enter.irq) refl).adds.stands (returns-in-Enter-clause-calls g c) c.requires.hung

pub returns-in-Tick-clause-hung : goal.returns-in-Tick-clause-hung
returns-in-Tick-clause-hung g c = rack_after (g.M.Module.spec c.args.course.now.driver) (chip_for c.args.course.now.devices c.args.course.now.config c.args.course.now.script.now) (g.M.Caller.call_of c.args.course.now.driver) c.args.course.now.script.now _ c.args.rack.now.items c.args.rack.now.items _ _ c.args.parts.now.bus c.obey_tick.new.parts.bus c.args.parts.now.stack.frames c.obey_tick.new.parts.stack.frames c.args.parts.now.journal.entries c.obey_tick.new.parts.journal.entries (omega arith) (omega arith) c.requires.stands c.obey_tick.ensures.adds.stands (returns-in-Tick-clause-calls g c) c.requires.hung

pub returns-in-Level-clause-hung : goal.returns-in-Level-clause-hung
returns-in-Level-clause-hung g c = rack_after (g.M.Module.spec c.args.course.now.driver) (chip_for c.args.course.now.devices c.args.course.now.config c.args.course.now.script.now) (g.M.Caller.call_of c.args.course.now.driver) c.args.course.now.script.now _ c.args.rack.now.items c.args.rack.now.items _ _ c.args.parts.now.bus c.obey_hardware.new.parts.bus c.args.parts.now.stack.frames c.obey_hardware.new.parts.stack.frames c.args.parts.now.journal.entries c.obey_hardware.new.parts.journal.entries (omega arith) (omega arith) c.requires.stands c.obey_hardware.ensures.adds.stands (returns-in-Level-clause-calls g c) c.requires.hung

pub returns-in-Reset-clause-hung : goal.returns-in-Reset-clause-hung
returns-in-Reset-clause-hung g c = rack_after (g.M.Module.spec c.args.course.now.driver) (chip_for c.args.course.now.devices c.args.course.now.config c.args.course.now.script.now) (g.M.Caller.call_of c.args.course.now.driver) c.args.course.now.script.now _ c.args.rack.now.items c.args.rack.now.items _ _ c.args.parts.now.bus c.obey_reset.new.parts.bus c.args.parts.now.stack.frames c.obey_reset.new.parts.stack.frames c.args.parts.now.journal.entries c.obey_reset.new.parts.journal.entries (omega arith) (omega arith) c.requires.stands c.obey_reset.ensures.adds.stands (returns-in-Reset-clause-calls g c) c.requires.hung

pub returns-in-Show-clause-hung : goal.returns-in-Show-clause-hung
returns-in-Show-clause-hung g c = rack_after (g.M.Module.spec c.args.course.now.driver) (chip_for c.args.course.now.devices c.args.course.now.config c.args.course.now.script.now) (g.M.Caller.call_of c.args.course.now.driver) c.args.course.now.script.now _ c.args.rack.now.items c.args.rack.now.items _ _ c.args.parts.now.bus c.obey_show.new.parts.bus c.args.parts.now.stack.frames c.obey_show.new.parts.stack.frames c.args.parts.now.journal.entries c.obey_show.new.parts.journal.entries (omega arith) (omega arith) c.requires.stands c.obey_show.ensures.adds.stands (returns-in-Show-clause-calls g c) c.requires.hung

pub returns-in-Fill-clause-hung : goal.returns-in-Fill-clause-hung
returns-in-Fill-clause-hung g c = rack_after (g.M.Module.spec c.args.course.now.driver) (chip_for c.args.course.now.devices c.args.course.now.config c.args.course.now.script.now) (g.M.Caller.call_of c.args.course.now.driver) c.args.course.now.script.now _ c.args.rack.now.items c.args.rack.now.items _ _ c.args.parts.now.bus c.obey_fill.new.parts.bus c.args.parts.now.stack.frames c.obey_fill.new.parts.stack.frames c.args.parts.now.journal.entries c.obey_fill.new.parts.journal.entries (omega arith) (omega arith) c.requires.stands c.obey_fill.ensures.adds.stands (returns-in-Fill-clause-calls g c) c.requires.hung
