-- What a stop leaves.
use Rattle.std.proofs.Common.{◌≡◌, ℕ, zero, suc, ◌<◌, Bool, true, false, cond, ◌||◌, ◌==◌, Option, Some, None, refl, sym, ◌∙◌, ap, subst}
use Rattle.std.specs.Prelude.{is_some}
use Rattle.mcal_base.specs.facts.Numbers.{eq_is}
use Rattle.mcal_base.specs.declared.error_name.ErrorName.{ErrorName}
use Rattle.adc_machine.specs.Checks.{error_by}
use Rattle.adc_machine.specs.Groups.{GroupState, Idle, Round, trigger_input}
use Rattle.adc_machine.specs.Laws.{IsStopped}
use Rattle.adc_machine.specs.Machine.{acts, acts_by, circumstances, stopped}
use Rattle.adc_machine.specs.Table.{group_of}
use Rattle.adc_machine.specs.Triggers.{mark_at, with_mark, without_mark, is_input}
use Rattle.adc_machine.specs.Turns.{AdcState, group_at, round_at, with_group, is_round_of, unless_of, without_turn}
use Rattle.adc_machine.specs.declared.call.Call.TheVariants.{Group}
use Rattle.adc_machine.specs.declared.call.GroupCall.TheVariants.{StopGroupConversion, DisableHardwareTrigger}
use Rattle.adc_machine.specs.declared.table.AdcTable.{AdcTable}
use Rattle.adc_machine.proofs.Parts.{group_same}

-- ---- marks

mark_of : (s : AdcState) (i : ℕ) → mark_at (with_mark s i false) i ≡ false
mark_of s zero = refl
mark_of s (suc zero) = refl
mark_of s (suc (suc zero)) = refl
mark_of s (suc (suc (suc zero))) = refl
mark_of s (suc (suc (suc (suc i)))) = refl

unmarked : (s : AdcState) (o : Option ℕ) (i : ℕ) → is_input i o ≡ true → mark_at (without_mark s o) i ≡ false
unmarked s None i e = absurd (cc e)
unmarked s (Some j) i e = subst (λ k. mark_at (with_mark s k false) i ≡ false) (sym (eq_is j i e)) (mark_of s i)

-- ---- the group

pub unmarked_group : (s : AdcState) (g : ℕ) (o : Option ℕ) → group_at (without_mark s o) g ≡ group_at s g
unmarked_group s g None = refl
unmarked_group s g (Some i) = refl

pub unmarked_round : (s : AdcState) (u : ℕ) (o : Option ℕ) → round_at (without_mark s o) u ≡ round_at s u
unmarked_round s u None = refl
unmarked_round s u (Some i) = refl

unmarked_results : (s : AdcState) (o : Option ℕ) → (without_mark s o).results ≡ s.results
unmarked_results s None = refl
unmarked_results s (Some i) = refl

-- the state before the trigger is switched off, and after it
abbrev pub quiet : AdcState → ℕ → AdcState
quiet s g = with_group s g (record (group_at s g) { status = Idle; notification = false })

abbrev pub idle : AdcState → ℕ → AdcState
idle s g = without_turn (quiet s g) g

abbrev pub off : AdcState → ℕ → AdcState
off s g = with_group (idle s g) g (record (group_at (idle s g) g) { trigger = false })

-- what the group is then
abbrev stopped_group : GroupState → GroupState
stopped_group x = record x { status = Idle; notification = false; waiting = None; trigger = false }

group_is : (d : AdcTable) (s : AdcState) (g : ℕ) → g < 16 → group_at (stopped d s g) g ≡ stopped_group (group_at s g)
group_is d s g lt =
    unmarked_group (off s g) g (trigger_input (group_of d g))
    ∙ group_same (idle s g) g (record (group_at (idle s g) g) { trigger = false }) lt
    ∙ ap (λ (x : GroupState). record x { trigger = false }) (group_same (quiet s g) g (record (group_at (quiet s g) g) { waiting = None }) lt)
    ∙ ap (λ (x : GroupState). record x { waiting = None; trigger = false }) (group_same s g (record (group_at s g) { status = Idle; notification = false }) lt)

none_of : (g : ℕ) (r : Option Round) (b : Bool) → is_round_of g r ≡ b → is_round_of g (cond b None r) ≡ false
none_of g r true e = refl
none_of g r false e = e

round_gone : (d : AdcTable) (s : AdcState) (g u : ℕ) → round_at (off s g) u ≡ unless_of g (round_at s u) → is_round_of g (round_at (stopped d s g) u) ≡ false
round_gone d s g u e =
    ap (λ r. is_round_of g r) (unmarked_round (off s g) u (trigger_input (group_of d g)) ∙ e) ∙ none_of g (round_at s u) (is_round_of g (round_at s u)) refl

no_turn : (a b c : Bool) → a ≡ false → b ≡ false → c ≡ false → (a || b || c) ≡ false
no_turn a b c x y z = rw (x, y, z) refl

stopped_is : (d : AdcTable) (s : AdcState) (g : ℕ) → g < 16 → IsStopped d g s (stopped d s g)
stopped_is d s g lt = record {
  idle = ap (λ x. x.status) (group_is d s g lt);
  turn = no_turn (is_some (group_at (stopped d s g) g).waiting) (is_round_of g (round_at (stopped d s g) 0)) (is_round_of g (round_at (stopped d s g) 1)) (ap (λ x. is_some x.waiting) (group_is d s g lt)) (round_gone d s g 0 refl) (round_gone d s g 1 refl);
  trigger = ap (λ x. x.trigger) (group_is d s g lt);
  notification = ap (λ x. x.notification) (group_is d s g lt);
  mark = λ i e. unmarked (off s g) (trigger_input (group_of d g)) i e;
  results = unmarked_results (off s g) (trigger_input (group_of d g));
}

stop_by : (d : AdcTable) (s : AdcState) (g : ℕ) (o : Option ErrorName) → g < 16 → (acts_by d s (Group g StopGroupConversion) o).told.error ≡ None → IsStopped d g s (acts_by d s (Group g StopGroupConversion) o).state
stop_by d s g None lt e = stopped_is d s g lt
stop_by d s g (Some x) lt e = absurd (cc e)

disable_by : (d : AdcTable) (s : AdcState) (g : ℕ) (o : Option ErrorName) → g < 16 → (acts_by d s (Group g DisableHardwareTrigger) o).told.error ≡ None → IsStopped d g s (acts_by d s (Group g DisableHardwareTrigger) o).state
disable_by d s g None lt e = stopped_is d s g lt
disable_by d s g (Some x) lt e = absurd (cc e)

pub stop_leaves : (d : AdcTable) (s : AdcState) (g : ℕ) → g < 16 → (acts d s (Group g StopGroupConversion)).told.error ≡ None → IsStopped d g s (acts d s (Group g StopGroupConversion)).state
stop_leaves d s g lt e = stop_by d s g (error_by d (Group g StopGroupConversion) (circumstances d s (Group g StopGroupConversion))) lt e

pub disable_leaves : (d : AdcTable) (s : AdcState) (g : ℕ) → g < 16 → (acts d s (Group g DisableHardwareTrigger)).told.error ≡ None → IsStopped d g s (acts d s (Group g DisableHardwareTrigger)).state
disable_leaves d s g lt e = disable_by d s g (error_by d (Group g DisableHardwareTrigger) (circumstances d s (Group g DisableHardwareTrigger))) lt e
