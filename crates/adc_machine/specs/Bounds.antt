-- The class of each call, the levels of lines, the most steps and moves of frames, and what a run of the module is over.
use Rattle.std.specs.Prelude.{ℕ, ◌+◌, ◌*◌, ◌-◌, Bool, false, ◌&&◌, cond, List, [], ◌∷◌, length, max, Option, Some, None, is_some}
use Rattle.run_model.specs.Chip.{word_of}
use Rattle.mcal_base.specs.declared.module_name.ModuleName.{ModuleName}
use Rattle.mcal_base.specs.declared.module_name.ModuleName.TheVariants.{Adc}
use Rattle.run_model.specs.declared.class.Class.{Class}
use Rattle.run_model.specs.declared.class.Kind.TheVariants.{Exclusive, Keyed, Query}
use Rattle.run_model.specs.declared.class.KeyKind.TheVariants as keys
use Rattle.run_model.specs.Frame.{Origin, Called, Entered}
use Rattle.run_model.specs.Moment.{Setting}
use Rattle.adc_machine.specs.Groups.{inputs_of}
use Rattle.adc_machine.specs.Machine.{adc_machine, is_unit_line, is_trigger_line}
use Rattle.adc_machine.specs.Table.{group_of, object_count, unit_level}
use Rattle.adc_machine.specs.Triggers.{has_input}
use Rattle.adc_machine.specs.Turns.{AdcState, first_state, is_on}
use Rattle.adc_machine.specs.Words.{HoldsResults, may}
use Rattle.adc_machine.specs.declared.call.Call.{Call}
use Rattle.adc_machine.specs.declared.call.Call.TheVariants.{Init, DeInit}
use Rattle.adc_machine.specs.declared.call.Call.TheVariants as calls
use Rattle.adc_machine.specs.declared.call.GroupCall.{GroupCall}
use Rattle.adc_machine.specs.declared.call.GroupCall.TheVariants.{StartGroupConversion, StopGroupConversion, ReadGroup, EnableHardwareTrigger, DisableHardwareTrigger, GetGroupStatus}
use Rattle.adc_machine.specs.declared.table.AdcTable.{AdcTable}
use Rattle.adc_machine.specs.declared.table.Group.{Group}

-- ---- classes

-- the class of a call: the status of a group may always be asked, any other call about a group has that group as its key, and one about the whole module is alone in it
abbrev pub class_of : Call → Class
class_of (calls.Group g GetGroupStatus) = record { kind = Query; «module» = Adc; key = None }
class_of (calls.Group g call) = record { kind = Keyed; «module» = Adc; key = Some (record { kind = keys.Group; number = g }) }
class_of _ = record { kind = Exclusive; «module» = Adc; key = None }

-- ---- lines

-- the first of these groups that this input triggers
abbrev pub first_on_input : List (Option Group) → (input : ℕ) → Option Group
first_on_input [] i = None
first_on_input (k ∷ ks) i = cond (has_input i k) k (first_on_input ks i)

-- the group that a trigger input triggers
abbrev pub group_of_input : AdcTable → (input : ℕ) → Option Group
group_of_input d i = first_on_input d.groups i

-- a configured object uses the line: the unit, or a group that the input triggers
abbrev pub is_used : AdcTable → (line : ℕ) → Bool
is_used d l = cond (is_unit_line l) (is_some (unit_level d (l - 24))) (is_trigger_line l && is_some (group_of_input d (l - 28)))

-- the level of a line, 1 where nothing uses it
abbrev pub level_or : Option ℕ → ℕ
level_or None = 1
level_or (Some level) = level

abbrev pub group_level : Option Group → ℕ
group_level None = 1
group_level (Some k) = k.level

abbrev pub level_of : AdcTable → (line : ℕ) → ℕ
level_of d l = cond (is_unit_line l) (level_or (unit_level d (l - 24))) (cond (is_trigger_line l) (group_level (group_of_input d (l - 28))) 1)

-- the module of every handler
abbrev pub owner_of : (line : ℕ) → ModuleName
owner_of l = Adc

-- ---- steps and moves

-- the inputs of the largest group of a unit
abbrev pub inputs_on : (unit : ℕ) → Option Group → ℕ
inputs_on u k = cond (is_on u k) (length (inputs_of k)) 0

abbrev pub most_inputs_in : List (Option Group) → (unit : ℕ) → ℕ
most_inputs_in [] u = 0
most_inputs_in (k ∷ ks) u = max (inputs_on u k) (most_inputs_in ks u)

abbrev pub most_inputs : AdcTable → (unit : ℕ) → ℕ
most_inputs d u = most_inputs_in d.groups u

-- a frame that makes a request of this group may copy what an aborted round of the same unit has
abbrev pub request_steps : AdcTable → Option Group → ℕ
request_steps d None = 128
request_steps d (Some k) = 128 + 4 * most_inputs d k.unit

abbrev pub group_steps : AdcTable → GroupCall → Option Group → ℕ
group_steps d StartGroupConversion k = request_steps d k
group_steps d StopGroupConversion k = 96
group_steps d EnableHardwareTrigger k = 96
group_steps d DisableHardwareTrigger k = 96
group_steps d ReadGroup k = 48 + 4 * length (inputs_of k)
group_steps d _ k = 64

abbrev pub line_steps : AdcTable → (line : ℕ) → ℕ
line_steps d l = cond (is_unit_line l) (128 + 8 * most_inputs d (l - 24)) (cond (is_trigger_line l) (request_steps d (group_of_input d (l - 28))) 64)

-- the most steps of a frame: of a call about the whole module 48 more for each configured unit and group
abbrev pub steps_of : AdcTable → Origin Call → ℕ
steps_of d (Called (calls.Group g call)) = group_steps d call (group_of d g)
steps_of d (Called _) = 64 + 48 * object_count d
steps_of d (Entered l) = line_steps d l

-- the most moves of a window
abbrev pub window_of : Origin Call → ℕ
window_of origin = 32

-- ---- the setting

-- what a run of the module is over
abbrev pub adc_setting : AdcTable → Setting AdcState Call
adc_setting d = record {
  machine = adc_machine d;
  first = first_state;
  class_of = class_of;
  level_of = level_of d;
  owner_of = owner_of;
  used = is_used d;
  steps_of = steps_of d;
  window_of = window_of;
  may = λ o made. may d made;
  halves = λ call. None;
  must = λ call. [];
  fills = λ c. false;
  in_use = λ w s c. false;
  rest = λ chip w s. (g : ℕ) → HoldsResults (word_of chip) d s g;
  unmasked = λ chip w s origins. Unit {0};
  shows = λ origin n chip s. HoldsResults (word_of chip) d s n.id;
}
