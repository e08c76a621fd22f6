use Rattle.mcal_base.specs.declared.directive.Reason.TheVariants.{Software}
use Rattle.run_model.specs.Entry.{Resets, written}
use Rattle.std.proofs.Common.{◌≡◌, ◌≤◌, [], arith, refl, ◌∙◌, sym, ap, subst}
use Rattle.run_model.specs.Script.{deeds_of}
use Rattle.script_runner.specs.Busy.{busies}
use Rattle.script_runner.specs.Standing.{NearTime, work_of}
use Rattle.script_runner.proofs.Walks.{walk_start, walk_more, walk_end, walk_reset, walk_out, same-near, was-true, was-false, not_ended, stuck}
use Rattle.script_runner.specs.Scripts.{chip_for}
use Rattle.script_runner.proofs.Called.{called_none, called_then, called_written}
use Rattle.script_runner.proofs.steps.run_steps.Goals as goal

pub loop-made-init : goal.loop-made-init
loop-made-init g c = (walk_start (g.M.Module.spec c.args.course.now.driver) (chip_for c.args.course.now.devices c.args.course.now.config c.args.course.now.script.now) (g.M.Caller.call_of c.args.course.now.driver) c.args.course.now.script.now c.args.course.now.most c.args.script_line c.args.reach c.args.parts.now.bus c.args.parts.now.stack c.args.parts.now.journal c.requires.stands c.requires.room.steps c.requires.frame, c.blank-stepped.ensures, c.requires.hung, called_none (g.M.Module.spec c.args.course.now.driver) (chip_for c.args.course.now.devices c.args.course.now.config c.args.course.now.script.now) (g.M.Caller.call_of c.args.course.now.driver) c.args.course.now.script.now c.args.parts.now.journal.entries _)

pub returns-then-is_reset-clause-went : goal.returns-then-is_reset-clause-went
returns-then-is_reset-clause-went g c =
    walk_reset (g.M.Module.spec c.args.course.now.driver) (chip_for c.args.course.now.devices c.args.course.now.config c.args.course.now.script.now) (g.M.Caller.call_of c.args.course.now.driver) c.args.course.now.script.now c.args.course.now.most c.args.script_line c.args.reach c.args.parts.now.bus c.args.parts.now.stack c.args.parts.now.journal c.loop-made.made c.loop-made.parts.bus c.loop-made.parts.stack c.loop-made.parts.journal c.take_step.new.stepped c.take_step.new.parts.bus c.take_step.new.parts.stack c.take_step.new.parts.journal c.reset-dropped.new.bus c.reset-dropped.new.stack c.reset.new.self
    c.loop-made.invariant.0 (was-true _ _ c.in-Ok-true.field-0-test c.in-Ok-true.ensures.took) (sym c.is_reset.ensures ∙ c.if-is_reset.true)
    (subst (λ x. NearTime 0 c.take_step.new.parts.bus x) (sym c.reset-dropped.ensures.chip) (same-near _ _ refl refl (λ u. refl))) (ap busies c.reset-dropped.ensures.chip)
    (ap (λ k. k.steps) c.reset-dropped.ensures.stack)
    (subst (λ k. work_of (g.M.Module.spec c.args.course.now.driver) k ≤ work_of (g.M.Module.spec c.args.course.now.driver) c.take_step.new.parts.stack) (sym c.reset-dropped.ensures.stack) (omega arith))
    (subst (λ n. c.reset.new.self ≡ written c.take_step.new.parts.journal c.args.script_line n (Resets Software n) []) c.depth-depth.ensures (subst (λ n. c.reset.new.self ≡ written c.take_step.new.parts.journal c.args.script_line c.depth-depth.result (Resets Software n) []) (c.reset-dropped.ensures.dropped ∙ sym c.depth-depth.ensures) c.reset.ensures))
    (c.reset-dropped.ensures.stands c.args.course.now.driver (chip_for c.args.course.now.devices c.args.course.now.config c.args.course.now.script.now) (deeds_of (g.M.Caller.call_of c.args.course.now.driver) c.args.course.now.script.now c.take_step.new.parts.journal.entries) c.requires.fits (was-true _ _ c.in-Ok-true.field-0-test c.in-Ok-true.ensures.took).stands)

pub returns-then-stops_after-clause-went : goal.returns-then-stops_after-clause-went
returns-then-stops_after-clause-went g c =
    walk_end (g.M.Module.spec c.args.course.now.driver) (chip_for c.args.course.now.devices c.args.course.now.config c.args.course.now.script.now) (g.M.Caller.call_of c.args.course.now.driver) c.args.course.now.script.now c.args.course.now.most c.args.script_line c.args.reach c.args.parts.now.bus c.args.parts.now.stack c.args.parts.now.journal c.loop-made.made c.loop-made.parts.bus c.loop-made.parts.stack c.loop-made.parts.journal c.take_step.new.stepped c.take_step.new.parts.bus c.take_step.new.parts.stack c.take_step.new.parts.journal
    c.loop-made.invariant.0 (was-true _ _ c.in-Ok-true.field-0-test c.in-Ok-true.ensures.took) (sym c.is_reset.ensures ∙ c.if-is_reset.false) (sym c.stops_after.ensures ∙ c.if-stops_after.true)

pub loop-made-preserved : goal.loop-made-preserved
loop-made-preserved g c =
    let go = sym c.stops_after.ensures ∙ c.if-stops_after.false in (
      walk_more (g.M.Module.spec c.args.course.now.driver) (chip_for c.args.course.now.devices c.args.course.now.config c.args.course.now.script.now) (g.M.Caller.call_of c.args.course.now.driver) c.args.course.now.script.now c.args.course.now.most c.args.script_line c.args.reach c.args.parts.now.bus c.args.parts.now.stack c.args.parts.now.journal c.loop-made.made c.loop-made.parts.bus c.loop-made.parts.stack c.loop-made.parts.journal c.take_step.new.stepped c.take_step.new.parts.bus c.take_step.new.parts.stack c.take_step.new.parts.journal
          c.loop-made.invariant.0 (was-true _ _ c.in-Ok-true.field-0-test c.in-Ok-true.ensures.took) (sym c.is_reset.ensures ∙ c.if-is_reset.false) (not_ended _ _ go) go,
      not_ended _ _ go,
      c.take_step.ensures.hung,
      called_then (g.M.Module.spec c.args.course.now.driver) (chip_for c.args.course.now.devices c.args.course.now.config c.args.course.now.script.now) (g.M.Caller.call_of c.args.course.now.driver) c.args.course.now.script.now c.args.parts.now.journal.entries c.loop-made.parts.journal.entries c.take_step.new.parts.journal.entries _ _ _ c.loop-made.invariant.3 c.take_step.ensures.calls,
    )

pub returns-in-Err-clause-too_long : goal.returns-in-Err-clause-too_long
returns-in-Err-clause-too_long g c =
    stuck (g.M.Module.spec c.args.course.now.driver) (chip_for c.args.course.now.devices c.args.course.now.config c.args.course.now.script.now) (g.M.Caller.call_of c.args.course.now.driver) c.args.course.now.script.now c.args.course.now.most c.args.script_line c.args.reach _ _ _ (g.met.M.Module.laws c.args.course.now.driver c.requires.fits) c.requires.limit c.args.parts.now.bus c.args.parts.now.stack c.args.parts.now.journal c.loop-made.made c.loop-made.parts.bus c.loop-made.parts.stack c.loop-made.parts.journal c.take_step.new.parts.bus c.take_step.new.parts.stack c.take_step.new.parts.journal
    c.requires.room.counted c.loop-made.invariant.0 c.in-Err.ensures.too_long

pub returns-then-is_reset-clause-calls : goal.returns-then-is_reset-clause-calls
returns-then-is_reset-clause-calls g c =
    called_then (g.M.Module.spec c.args.course.now.driver) (chip_for c.args.course.now.devices c.args.course.now.config c.args.course.now.script.now) (g.M.Caller.call_of c.args.course.now.driver) c.args.course.now.script.now c.args.parts.now.journal.entries c.take_step.new.parts.journal.entries c.reset.new.self.entries _ _ _
    (called_then (g.M.Module.spec c.args.course.now.driver) (chip_for c.args.course.now.devices c.args.course.now.config c.args.course.now.script.now) (g.M.Caller.call_of c.args.course.now.driver) c.args.course.now.script.now c.args.parts.now.journal.entries c.loop-made.parts.journal.entries c.take_step.new.parts.journal.entries _ _ _ c.loop-made.invariant.3 c.take_step.ensures.calls)
    (called_written (g.M.Module.spec c.args.course.now.driver) (chip_for c.args.course.now.devices c.args.course.now.config c.args.course.now.script.now) (g.M.Caller.call_of c.args.course.now.driver) c.args.course.now.script.now c.take_step.new.parts.journal c.reset.new.self c.args.script_line _ (Resets Software _) [] _ c.reset.ensures tt)

pub returns-then-stops_after-clause-calls : goal.returns-then-stops_after-clause-calls
returns-then-stops_after-clause-calls g c = called_then (g.M.Module.spec c.args.course.now.driver) (chip_for c.args.course.now.devices c.args.course.now.config c.args.course.now.script.now) (g.M.Caller.call_of c.args.course.now.driver) c.args.course.now.script.now c.args.parts.now.journal.entries c.loop-made.parts.journal.entries c.take_step.new.parts.journal.entries _ _ _ c.loop-made.invariant.3 c.take_step.ensures.calls

pub returns-in-Err-clause-calls : goal.returns-in-Err-clause-calls
returns-in-Err-clause-calls g c = called_then (g.M.Module.spec c.args.course.now.driver) (chip_for c.args.course.now.devices c.args.course.now.config c.args.course.now.script.now) (g.M.Caller.call_of c.args.course.now.driver) c.args.course.now.script.now c.args.parts.now.journal.entries c.loop-made.parts.journal.entries c.take_step.new.parts.journal.entries _ _ _ c.loop-made.invariant.3 c.take_step.ensures.calls

pub returns-in-Ok-false-clause-went : goal.returns-in-Ok-false-clause-went
returns-in-Ok-false-clause-went g c =
    walk_out (g.M.Module.spec c.args.course.now.driver) (chip_for c.args.course.now.devices c.args.course.now.config c.args.course.now.script.now) (g.M.Caller.call_of c.args.course.now.driver) c.args.course.now.script.now c.args.course.now.most c.args.script_line c.args.reach c.args.parts.now.bus c.args.parts.now.stack c.args.parts.now.journal c.loop-made.made c.loop-made.parts.bus c.loop-made.parts.stack c.loop-made.parts.journal c.take_step.new.parts.bus c.take_step.new.parts.stack c.take_step.new.parts.journal c.loop-made.invariant.0 (was-false _ _ c.in-Ok-false.field-0-test c.in-Ok-false.ensures.out)

pub returns-in-Ok-false-clause-calls : goal.returns-in-Ok-false-clause-calls
returns-in-Ok-false-clause-calls g c = called_then (g.M.Module.spec c.args.course.now.driver) (chip_for c.args.course.now.devices c.args.course.now.config c.args.course.now.script.now) (g.M.Caller.call_of c.args.course.now.driver) c.args.course.now.script.now c.args.parts.now.journal.entries c.loop-made.parts.journal.entries c.take_step.new.parts.journal.entries _ _ _ c.loop-made.invariant.3 c.take_step.ensures.calls
