-- The table of the module Mcu, in the order of the walk.
use Rattle.std.specs.Prelude.{true, Option, Some, None}
use Rattle.toml.specs.Data.{Members}
use Rattle.config_keys.specs.Checks.{Checks, ◌⨾◌}
use Rattle.config_keys.specs.Kinds.{◌>>=◌, whole, truth}
use Rattle.config_keys.specs.Keys.{of_module, of_key, needed, allowed, read, read_or}
use Rattle.config_tables.specs.rows.Rows.{Shape, array_checks, array_value}
use Rattle.config_tables.specs.rows.Rules.{rule}
use Rattle.config_tables.specs.rows.Modules.{Part, given}
use Rattle.config_keys.specs.declared.fault.Path.{Path}
use Rattle.config_keys.specs.declared.key_name.KeyName.TheVariants as keys
use Rattle.mcal_base.specs.declared.module_name.ModuleName.TheVariants as modules
use Rattle.mcal_base.specs.declared.config.mcu.McuClockSetting.{McuClockSetting}
use Rattle.mcal_base.specs.declared.config.mcu.McuModeSetting.{McuModeSetting}
use Rattle.mcal_base.specs.declared.config.mcu.McuRamSection.{McuRamSection}
use Rattle.mcal_base.specs.declared.config.mcu.McuConfig.{McuConfig}
pub use Rattle.config_facts.specs.Rules.{ends_past, overlaps}

-- the place of a key of the module
abbrev pub at : Path
at = of_module modules.Mcu

-- clock settings
unfoldable pub clock_setting_checks : Path → Members → Checks
clock_setting_checks at ms =
    needed at keys.McuClockSettingId (whole 0 7) ms
    ⨾ needed at keys.Multiplier (whole 1 16) ms

unfoldable pub clock_setting_of : Members → Option McuClockSetting
clock_setting_of ms = do
  id ← read keys.McuClockSettingId (whole 0 7) ms
  multiplier ← read keys.Multiplier (whole 1 16) ms
  Some (record { id = id; multiplier = multiplier })

abbrev pub clock_settings : Shape McuClockSetting
clock_settings = record { place = of_key at keys.McuClockSettingConfig; key = keys.McuClockSettingConfig; id_key = Some keys.McuClockSettingId; checks = clock_setting_checks; id = read keys.McuClockSettingId (whole 0 7); value = clock_setting_of }

-- modes
unfoldable pub mode_checks : Path → Members → Checks
mode_checks at ms = needed at keys.McuMode (whole 0 7) ms

unfoldable pub mode_of : Members → Option McuModeSetting
mode_of ms = do
  mode ← read keys.McuMode (whole 0 7) ms
  Some (record { mode = mode })

abbrev pub modes : Shape McuModeSetting
modes = record { place = of_key at keys.McuModeSettingConf; key = keys.McuModeSettingConf; id_key = Some keys.McuMode; checks = mode_checks; id = read keys.McuMode (whole 0 7); value = mode_of }

-- RAM sections, which have no ids
unfoldable pub ram_section_checks : Path → Members → Checks
ram_section_checks at ms =
    needed at keys.McuRamSectionBaseAddress (whole 0 511) ms
    ⨾ needed at keys.McuRamSectionSize (whole 1 64) ms
    ⨾ needed at keys.McuRamDefaultValue (whole 0 255) ms

unfoldable pub ram_section_of : Members → Option McuRamSection
ram_section_of ms = do
  base ← read keys.McuRamSectionBaseAddress (whole 0 511) ms
  size ← read keys.McuRamSectionSize (whole 1 64) ms
  default ← read keys.McuRamDefaultValue (whole 0 255) ms
  Some (record { base_address = base; size = size; default_value = default })

abbrev pub ram_sections : Shape McuRamSection
ram_sections = record { place = of_key at keys.McuRamSectorSettingConf; key = keys.McuRamSectorSettingConf; id_key = None; checks = ram_section_checks; id = λ ms. None; value = ram_section_of }

-- the module
unfoldable pub key_checks : Members → Checks
key_checks ms =
    allowed at keys.McuDevErrorDetect truth ms
    ⨾ array_checks clock_settings 8 ms
    ⨾ array_checks modes 8 ms
    ⨾ array_checks ram_sections 8 ms

unfoldable pub value_of : Members → Option McuConfig
value_of ms = do
  detect ← read_or true keys.McuDevErrorDetect truth ms
  clock_settings ← array_value clock_settings ms
  modes ← array_value modes ms
  ram_sections ← array_value ram_sections ms
  Some (record { dev_error_detect = detect; clock_settings = clock_settings; modes = modes; ram_sections = ram_sections })

unfoldable pub across : McuConfig → Checks
across mcu =
    rule ends_past 1 ram_sections.place mcu.ram_sections
    ⨾ rule overlaps 2 ram_sections.place mcu.ram_sections

unfoldable pub checks : Members → Checks
checks ms = key_checks ms ⨾ given (value_of ms) across

abbrev pub part : Part McuConfig
part = record { name = modules.Mcu; checks = checks; value = value_of }
