-- Hardware triggers: which group a pulse is for, and the marks that pulses leave.
use Rattle.std.specs.Prelude.{ℕ, ◌==◌, Bool, true, false, ◌&&◌, cond, List, [], ◌∷◌, Option, Some, None, is_some, slice_index_or}
use Rattle.adc_machine.specs.declared.table.AdcTable.{AdcTable}
use Rattle.adc_machine.specs.declared.table.Group.{Group}
use Rattle.adc_machine.specs.Table.{group_of, all_groups}
use Rattle.adc_machine.specs.Groups.{trigger_input}
use Rattle.adc_machine.specs.Turns.{AdcState, group_at, with_group, has_turn, requested}

abbrev pub mark_at : AdcState → ℕ → Bool
mark_at s i = slice_index_or s.marks i false

-- the state with the mark of this input set or not
abbrev pub with_mark : AdcState → ℕ → Bool → AdcState
with_mark s i b = record s { marks = cond (0 == i) b (mark_at s 0) ∷ cond (1 == i) b (mark_at s 1) ∷ cond (2 == i) b (mark_at s 2) ∷ cond (3 == i) b (mark_at s 3) ∷ [] }

-- the trigger input is this one
abbrev pub is_input : ℕ → Option ℕ → Bool
is_input i None = false
is_input i (Some j) = j == i

-- the group's trigger input is this one
abbrev pub has_input : ℕ → Option Group → Bool
has_input i k = is_input i (trigger_input k)

-- the input triggers the group, and its trigger is enabled
abbrev pub listens : AdcTable → AdcState → (input group : ℕ) → Bool
listens d s i g = has_input i (group_of d g) && (group_at s g).trigger

-- the first of these groups that listens to the input
abbrev pub listener_among : AdcTable → AdcState → (input : ℕ) → List ℕ → Option ℕ
listener_among d s i [] = None
listener_among d s i (g ∷ gs) = cond (listens d s i g) (Some g) (listener_among d s i gs)

abbrev pub listener : AdcTable → AdcState → (input : ℕ) → Option ℕ
listener d s i = listener_among d s i all_groups

-- a pulse marks the input where a group listens to it
abbrev pub pulsed : AdcTable → AdcState → (input : ℕ) → AdcState
pulsed d s i = cond (is_some (listener d s i)) (with_mark s i true) s

-- the input's mark is dropped, where there is an input
abbrev pub without_mark : AdcState → Option ℕ → AdcState
without_mark s None = s
without_mark s (Some i) = with_mark s i false

-- the group's trigger is switched off, and its input's mark is dropped
abbrev pub with_trigger_off : AdcTable → AdcState → ℕ → AdcState
with_trigger_off d s g = without_mark (with_group s g (record (group_at s g) { trigger = false })) (trigger_input (group_of d g))

-- the group makes a request, unless it has a turn
abbrev pub requested_unless_turn : AdcState → Option ℕ → AdcState
requested_unless_turn s None = s
requested_unless_turn s (Some g) = cond (has_turn s g) s (requested s g)

-- a serving of a trigger line drops the mark, and the group that listens makes a request unless it has a turn
abbrev pub served_trigger : AdcTable → AdcState → (input : ℕ) → AdcState
served_trigger d s i = requested_unless_turn (with_mark s i false) (listener d s i)
