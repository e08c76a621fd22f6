-- The configured units and groups.
use Rattle.std.specs.Prelude.{ℕ, ◌+◌, ◌==◌, nat_lt, Bool, true, false, ◌&&◌, if◌then◌else◌, List, [], ◌∷◌, Option, Some, None, is_some, count_by, slice_index_or, zero, suc, ◌*◌, ◌<◌, ◌≤◌, length, All}
use Rattle.std.specs.Option.{option_map}
use Rattle.mcal_base.specs.declared.config.adc.AdcAccessMode.{AdcAccessMode}
use Rattle.mcal_base.specs.declared.config.adc.AdcAccessMode.TheVariants.{Single, Streaming}
use Rattle.mcal_base.specs.declared.config.adc.AdcConversionMode.{AdcConversionMode}
use Rattle.mcal_base.specs.declared.config.adc.AdcConversionMode.TheVariants.{OneShot, Continuous}
use Rattle.mcal_base.specs.declared.config.adc.AdcGroupReplacement.{AdcGroupReplacement}
use Rattle.mcal_base.specs.declared.config.adc.AdcGroupReplacement.TheVariants.{AbortRestart, SuspendResume}
use Rattle.mcal_base.specs.declared.config.adc.AdcPriorityImplementation.{AdcPriorityImplementation}
use Rattle.mcal_base.specs.declared.config.adc.AdcPriorityImplementation.TheVariants as priorities
use Rattle.mcal_base.specs.declared.config.adc.AdcStreamBufferMode.{AdcStreamBufferMode}
use Rattle.mcal_base.specs.declared.config.adc.AdcStreamBufferMode.TheVariants.{Linear, Circular}
use Rattle.mcal_base.specs.declared.config.adc.AdcTriggerSource.{AdcTriggerSource}
use Rattle.mcal_base.specs.declared.config.adc.AdcTriggerSource.TheVariants.{Software, Hardware}
use Rattle.mcal_base.specs.declared.config.adc.AdcGroup.{AdcGroup}
use Rattle.mcal_base.specs.declared.config.adc.AdcHwUnit.{AdcHwUnit}
use Rattle.mcal_base.specs.declared.config.adc.AdcConfig.{AdcConfig}
use Rattle.adc_machine.specs.declared.table.AdcTable.{AdcTable}
use Rattle.adc_machine.specs.declared.table.Group.{Group}

-- ---- what the driver keeps

-- the group converts again and again
abbrev pub is_continuous_mode : AdcConversionMode → Bool
is_continuous_mode OneShot = false
is_continuous_mode Continuous = true

-- an aborted round keeps what it has
abbrev pub is_suspending : AdcGroupReplacement → Bool
is_suspending AbortRestart = false
is_suspending SuspendResume = true

abbrev pub is_streaming : AdcAccessMode → Bool
is_streaming Single = false
is_streaming Streaming = true

abbrev pub is_linear_buffer : AdcStreamBufferMode → Bool
is_linear_buffer Linear = true
is_linear_buffer Circular = false

-- a linear stream has streaming access and a linear buffer
abbrev pub has_linear_stream : AdcGroup → Bool
has_linear_stream x = is_streaming x.access_mode && is_linear_buffer x.streaming_buffer_mode

-- priorities count
abbrev pub has_priorities : AdcPriorityImplementation → Bool
has_priorities priorities.None = false
has_priorities priorities.HwSw = true

-- the trigger input, of a group that is triggered by hardware
abbrev pub input_by : AdcTriggerSource → Option ℕ → Option ℕ
input_by Software input = None
input_by Hardware input = input

abbrev pub configured_input : AdcGroup → Option ℕ
configured_input x = input_by x.trigger_source x.trigger_input

-- what the driver keeps of a configured group, whose words start here
abbrev pub taken : (start : ℕ) → AdcGroup → Group
taken n x = record {
  unit = x.unit;
  inputs = x.definition;
  continuous = is_continuous_mode x.conversion_mode;
  priority = x.priority;
  suspends = is_suspending x.replacement;
  linear = has_linear_stream x;
  samples = x.streaming_num_samples;
  notification = x.notification;
  trigger = configured_input x;
  level = x.level;
  start = n;
}

-- the first group with this number
abbrev pub found_in : List AdcGroup → ℕ → Option AdcGroup
found_in [] g = None
found_in (x ∷ xs) g = if x.id == g then Some x else found_in xs g

-- where the words of a group start: after 64 of the module, and 32 with six an input for each group of a smaller number
abbrev pub words_for : Option AdcGroup → ℕ
words_for None = 0
words_for (Some x) = 32 + 6 * length x.definition

abbrev pub start_in : List AdcGroup → ℕ → ℕ
start_in xs zero = 64
start_in xs (suc g) = start_in xs g + words_for (found_in xs g)

abbrev pub group_in : List AdcGroup → ℕ → Option Group
group_in xs g = option_map (taken (start_in xs g)) (found_in xs g)

-- the level of the first unit with this number
abbrev pub level_in : List AdcHwUnit → ℕ → Option ℕ
level_in [] u = None
level_in (x ∷ xs) u = if x.id == u then Some x.level else level_in xs u

-- the numbers of all groups
abbrev pub all_groups : List ℕ
all_groups = 0 ∷ 1 ∷ 2 ∷ 3 ∷ 4 ∷ 5 ∷ 6 ∷ 7 ∷ 8 ∷ 9 ∷ 10 ∷ 11 ∷ 12 ∷ 13 ∷ 14 ∷ 15 ∷ []

-- one for each group, by number
abbrev pub by_group : {A : Type 0} → (ℕ → A) → List A
by_group f = f 0 ∷ f 1 ∷ f 2 ∷ f 3 ∷ f 4 ∷ f 5 ∷ f 6 ∷ f 7 ∷ f 8 ∷ f 9 ∷ f 10 ∷ f 11 ∷ f 12 ∷ f 13 ∷ f 14 ∷ f 15 ∷ []

abbrev pub groups_of : List AdcGroup → List (Option Group)
groups_of xs = by_group (group_in xs)

-- what is kept of a configuration
abbrev pub table_of : AdcConfig → AdcTable
table_of x = record {
  detect = x.dev_error_detect;
  classification = x.classification;
  priorities = has_priorities x.priority_implementation;
  queuing = x.enable_queuing;
  units = level_in x.units 0 ∷ level_in x.units 1 ∷ [];
  groups = groups_of x.groups;
}

-- ---- small numbers

abbrev pub IsSmallInput : Option ℕ → Type 0
IsSmallInput None = Unit {0}
IsSmallInput (Some i) = i < 256

-- the numbers of a group have room in a byte each
pub record IsSmall (x : AdcGroup) : Type 0 where
  pub unit : x.unit < 256
  pub inputs : (length x.definition ≤ 32) × All (λ (i : ℕ). i < 256) x.definition
  pub priority : x.priority < 256
  pub samples : x.streaming_num_samples < 256
  pub trigger : IsSmallInput x.trigger_input
  pub level : x.level < 256

-- so have those of all groups and units
pub record AreSmall (x : AdcConfig) : Type 0 where
  pub groups : All IsSmall x.groups
  pub units : All (λ (u : AdcHwUnit). u.level < 256) x.units

-- ---- a group by its number

-- the group of a number, where it is configured
abbrev pub group_of : AdcTable → ℕ → Option Group
group_of d g = if nat_lt g 16 then slice_index_or d.groups g None else None

-- the level of a unit's line, where the unit is configured
abbrev pub unit_level : AdcTable → ℕ → Option ℕ
unit_level d u = if nat_lt u 2 then slice_index_or d.units u None else None

-- the configured units and groups
abbrev pub object_count : AdcTable → ℕ
object_count d = count_by is_some d.units + count_by is_some d.groups
