-- The flags of a pulse unit against the mark of its channel.
-- From module_machines: pwm.Relation.
-- Used by Units, RefinementRight.
use Rattle.std.proofs.Common.{◌≡◌, ◌||◌, ◌∙◌, ap, Bool, false, Some, subst, true, ℕ}
use Rattle.chip_blocks.specs.pulses.Pulses as pulses
use Rattle.chip_blocks.specs.pulses.Pulses.{changed_between}
use Rattle.chip_blocks.specs.declared.pulses.pulse.Pulse as unit
use Rattle.module_machines.specs.pwm.Machine.{is_marked_by, Pulse}
use Rattle.module_machines.specs.pwm.Units.{chosen, IsBegun, output_in}
use Rattle.module_machines.specs.pwm.laws.Relation.{chosen_same, chosen_or}
use Rattle.module_machines.specs.declared.pwm.call.PwmEdge.{PwmEdge}
use Rattle.pwm_driver.specs.Refinement.{MarkAgrees, MarksAgree, UnitAgrees}

flagged_by : (edge : PwmEdge) (high : Bool) (now : ℕ) (p : unit.Pulse) (x : Pulse) → p.output ≡ output_in high x.output → IsBegun x.output x.since → MarkAgrees edge p x → (time : ℕ) → chosen edge (pulses.is_flagged true p time) (pulses.is_flagged false p time) ≡ is_marked_by (Some edge) high time x
flagged_by edge high now p x out b m time =
    chosen_or edge p.rising.kept p.falling.kept (changed_between true p.output p.rising.watched time) (changed_between false p.output p.falling.watched time)
    ∙ (ap (λ q. q || chosen edge (changed_between true p.output p.rising.watched time) (changed_between false p.output p.falling.watched time)) m.kept
    ∙ ap (λ q. x.turned || q) (ap (λ t. chosen edge (changed_between true p.output t time) (changed_between false p.output p.falling.watched time)) m.rising
    ∙ (ap (λ t. chosen edge (changed_between true p.output x.since time) (changed_between false p.output t time)) m.falling
    ∙ (ap (λ o. chosen edge (changed_between true o x.since time) (changed_between false o x.since time)) out
    ∙ chosen_same edge high x.output x.since time b))))

-- a flag of a chosen change stands exactly where the mark does, at every time
pub flagged_same : (edge : PwmEdge) (high : Bool) (now : ℕ) (p : unit.Pulse) (x : Pulse) → x.notified ≡ Some edge → UnitAgrees high now p x → (time : ℕ) → chosen edge (pulses.is_flagged true p time) (pulses.is_flagged false p time) ≡ is_marked_by (Some edge) high time x
flagged_same edge high now p x e h time = flagged_by edge high now p x h.output h.begun (subst (λ k. MarksAgree k p x) e h.marks) time
