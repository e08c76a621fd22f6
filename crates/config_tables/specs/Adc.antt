-- The table of the module Adc, in the order of the walk.
use Rattle.std.specs.Prelude.{ℕ, ◌+◌, true, false, List, [], ◌∷◌, Option, Some}
use Rattle.toml.specs.Data.{Members}
use Rattle.config_keys.specs.Checks.{Checks, passes, ◌⨾◌}
use Rattle.config_keys.specs.Kinds.{◌>>=◌, whole, truth, name, text}
use Rattle.config_keys.specs.Keys.{of_module, of_key, of_element, needed, allowed, needed_if, needed_list, read, read_or, read_any, read_list}
use Rattle.config_keys.specs.Names.{priority_implementation_named, access_mode_named, conversion_mode_named, replacement_named, trigger_source_named, stream_buffer_mode_named}
use Rattle.config_tables.specs.rows.Rows.{Shape, array_checks, array_value}
use Rattle.config_tables.specs.rows.Rules.{reference, rule}
use Rattle.config_tables.specs.rows.Modules.{Part, given}
use Rattle.config_keys.specs.declared.fault.Path.{Path}
use Rattle.config_keys.specs.declared.key_name.KeyName.TheVariants as keys
use Rattle.mcal_base.specs.declared.module_name.ModuleName.TheVariants as modules
use Rattle.mcal_base.specs.declared.config.adc.AdcPriorityImplementation.TheVariants as priorities
use Rattle.mcal_base.specs.declared.config.adc.AdcGroupReplacement.TheVariants.{AbortRestart}
use Rattle.mcal_base.specs.declared.config.adc.AdcTriggerSource.{AdcTriggerSource}
use Rattle.mcal_base.specs.declared.config.adc.AdcStreamBufferMode.TheVariants.{Linear}
use Rattle.mcal_base.specs.declared.config.adc.AdcHwUnit.{AdcHwUnit}
use Rattle.mcal_base.specs.declared.config.adc.AdcGroup.{AdcGroup}
use Rattle.mcal_base.specs.declared.config.adc.AdcConfig.{AdcConfig}
use Rattle.config_facts.specs.Valid.{unit_id}
pub use Rattle.config_facts.specs.Rules.{is_hardware, is_continuous, is_single, is_triggered_by, hardware_continuous, shares_trigger, single_with_samples, streaming_once}

-- the place of the module's table
abbrev pub at : Path
at = of_module modules.Adc

-- converter units
unfoldable pub unit_checks : Path → Members → Checks
unit_checks at ms =
    needed at keys.AdcHwUnitId (whole 0 1) ms
    ⨾ allowed at keys.Level (whole 1 7) ms

unfoldable pub unit_of : Members → Option AdcHwUnit
unit_of ms = do
  id ← read keys.AdcHwUnitId (whole 0 1) ms
  level ← read_or 1 keys.Level (whole 1 7) ms
  Some (record { id = id; level = level })

abbrev pub units : Shape AdcHwUnit
units = record { place = of_key at keys.AdcHwUnit; key = keys.AdcHwUnit; id_key = Some keys.AdcHwUnitId; checks = unit_checks; id = read keys.AdcHwUnitId (whole 0 1); value = unit_of }

-- the trigger source of a group
abbrev pub source_of : Members → Option AdcTriggerSource
source_of ms = read keys.AdcGroupTriggSrc (name trigger_source_named) ms

-- groups
unfoldable pub group_checks : Path → Members → Checks
group_checks at ms =
    needed at keys.AdcGroupId (whole 0 15) ms
    ⨾ needed at keys.Unit (whole 0 1) ms
    ⨾ needed_list 1 32 at keys.AdcGroupDefinition (whole 0 31) ms
    ⨾ needed at keys.AdcGroupAccessMode (name access_mode_named) ms
    ⨾ needed at keys.AdcGroupConversionMode (name conversion_mode_named) ms
    ⨾ allowed at keys.AdcGroupPriority (whole 0 255) ms
    ⨾ allowed at keys.AdcGroupReplacement (name replacement_named) ms
    ⨾ needed at keys.AdcGroupTriggSrc (name trigger_source_named) ms
    ⨾ allowed at keys.AdcStreamingBufferMode (name stream_buffer_mode_named) ms
    ⨾ allowed at keys.AdcStreamingNumSamples (whole 1 64) ms
    ⨾ allowed at keys.AdcNotification text ms
    ⨾ needed_if (is_hardware (source_of ms)) at keys.TriggerInput (whole 0 3) ms
    ⨾ allowed at keys.Level (whole 1 7) ms

unfoldable pub group_of : Members → Option AdcGroup
group_of ms = do
  id ← read keys.AdcGroupId (whole 0 15) ms
  unit ← read keys.Unit (whole 0 1) ms
  definition ← read_list keys.AdcGroupDefinition (whole 0 31) ms
  access ← read keys.AdcGroupAccessMode (name access_mode_named) ms
  conversion ← read keys.AdcGroupConversionMode (name conversion_mode_named) ms
  priority ← read_or 0 keys.AdcGroupPriority (whole 0 255) ms
  replacement ← read_or AbortRestart keys.AdcGroupReplacement (name replacement_named) ms
  source ← source_of ms
  buffer ← read_or Linear keys.AdcStreamingBufferMode (name stream_buffer_mode_named) ms
  samples ← read_or 1 keys.AdcStreamingNumSamples (whole 1 64) ms
  notification ← read_or false keys.AdcNotification text ms
  input ← read_any keys.TriggerInput (whole 0 3) ms
  level ← read_or 1 keys.Level (whole 1 7) ms
  Some (record { id = id; unit = unit; definition = definition; access_mode = access; conversion_mode = conversion; priority = priority; replacement = replacement; trigger_source = source; streaming_buffer_mode = buffer; streaming_num_samples = samples; notification = notification; trigger_input = input; level = level })

abbrev pub groups : Shape AdcGroup
groups = record { place = of_key at keys.AdcGroup; key = keys.AdcGroup; id_key = Some keys.AdcGroupId; checks = group_checks; id = read keys.AdcGroupId (whole 0 15); value = group_of }

-- the units that groups refer to
abbrev pub unit_references : List AdcHwUnit → ℕ → List AdcGroup → Checks
unit_references all i [] = passes
unit_references all i (g ∷ gs) = reference unit_id all (of_key (of_element groups.place i) keys.Unit) g.unit ⨾ unit_references all (i + 1) gs

-- the module
unfoldable pub key_checks : Members → Checks
key_checks ms =
    allowed at keys.AdcDevErrorDetect truth ms
    ⨾ allowed at keys.Classification (whole 1 2) ms
    ⨾ allowed at keys.AdcPriorityImplementation (name priority_implementation_named) ms
    ⨾ allowed at keys.AdcEnableQueuing truth ms
    ⨾ array_checks units 2 ms
    ⨾ array_checks groups 16 ms

unfoldable pub value_of : Members → Option AdcConfig
value_of ms = do
  detect ← read_or true keys.AdcDevErrorDetect truth ms
  classification ← read_or 1 keys.Classification (whole 1 2) ms
  priority ← read_or priorities.None keys.AdcPriorityImplementation (name priority_implementation_named) ms
  queuing ← read_or false keys.AdcEnableQueuing truth ms
  units ← array_value units ms
  groups ← array_value groups ms
  Some (record { dev_error_detect = detect; classification = classification; priority_implementation = priority; enable_queuing = queuing; units = units; groups = groups })

unfoldable pub rule_checks : AdcConfig → Checks
rule_checks adc =
    rule hardware_continuous 5 groups.place adc.groups
    ⨾ rule shares_trigger 6 groups.place adc.groups
    ⨾ rule single_with_samples 7 groups.place adc.groups
    ⨾ rule streaming_once 8 groups.place adc.groups

unfoldable pub across : AdcConfig → Checks
across adc = unit_references adc.units 0 adc.groups ⨾ rule_checks adc

unfoldable pub checks : Members → Checks
checks ms = key_checks ms ⨾ given (value_of ms) across

abbrev pub part : Part AdcConfig
part = record { name = modules.Adc; checks = checks; value = value_of }
