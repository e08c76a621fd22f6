-- The table of the module Port, in the order of the walk.
use Rattle.std.specs.Prelude.{Bool, true, false, [], ◌∷◌, Option, Some}
use Rattle.toml.specs.Data.{Members}
use Rattle.config_keys.specs.Checks.{Checks, ◌⨾◌}
use Rattle.config_keys.specs.Kinds.{◌>>=◌, whole, truth, name}
use Rattle.config_keys.specs.Keys.{of_module, of_key, needed, allowed, allowed_list, read, read_or, read_list_or}
use Rattle.config_keys.specs.Names.{direction_named, pin_mode_named, pin_level_named}
use Rattle.config_tables.specs.rows.Rows.{Shape, array_checks, array_value}
use Rattle.config_tables.specs.rows.Rules.{rule}
use Rattle.config_tables.specs.rows.Modules.{Part, given}
use Rattle.config_keys.specs.declared.fault.Path.{Path}
use Rattle.config_keys.specs.declared.key_name.KeyName.TheVariants as keys
use Rattle.config_keys.specs.declared.named.PinLevel.{PinLevel}
use Rattle.config_keys.specs.declared.named.PinLevel.TheVariants.{High, Low}
use Rattle.mcal_base.specs.declared.module_name.ModuleName.TheVariants as modules
use Rattle.mcal_base.specs.declared.config.port.PortPinMode.TheVariants.{Dio}
use Rattle.mcal_base.specs.declared.config.port.PortPin.{PortPin}
use Rattle.mcal_base.specs.declared.config.port.PortConfig.{PortConfig}
pub use Rattle.config_facts.specs.Rules.{same_mode, initial_not_allowed}

-- the place of the module's table
abbrev pub at : Path
at = of_module modules.Port

-- whether a level is high
abbrev pub is_high : PinLevel → Bool
is_high High = true
is_high Low = false

-- pins
unfoldable pub pin_checks : Path → Members → Checks
pin_checks at ms =
    needed at keys.PortPinId (whole 0 63) ms
    ⨾ needed at keys.PortPinDirection (name direction_named) ms
    ⨾ allowed at keys.PortPinDirectionChangeable truth ms
    ⨾ allowed at keys.PortPinInitialMode (name pin_mode_named) ms
    ⨾ allowed_list 1 5 at keys.PortPinMode (name pin_mode_named) ms
    ⨾ allowed at keys.PortPinModeChangeable truth ms
    ⨾ allowed at keys.PortPinLevelValue (name pin_level_named) ms

unfoldable pub pin_of : Members → Option PortPin
pin_of ms = do
  id ← read keys.PortPinId (whole 0 63) ms
  direction ← read keys.PortPinDirection (name direction_named) ms
  direction_changeable ← read_or false keys.PortPinDirectionChangeable truth ms
  initial_mode ← read_or Dio keys.PortPinInitialMode (name pin_mode_named) ms
  modes ← read_list_or (initial_mode ∷ []) keys.PortPinMode (name pin_mode_named) ms
  mode_changeable ← read_or false keys.PortPinModeChangeable truth ms
  level ← read_or Low keys.PortPinLevelValue (name pin_level_named) ms
  Some (record { id = id; direction = direction; direction_changeable = direction_changeable; initial_mode = initial_mode; modes = modes; mode_changeable = mode_changeable; level_high = is_high level })

abbrev pub pins : Shape PortPin
pins = record { place = of_key at keys.PortPin; key = keys.PortPin; id_key = Some keys.PortPinId; checks = pin_checks; id = read keys.PortPinId (whole 0 63); value = pin_of }

-- the module
unfoldable pub key_checks : Members → Checks
key_checks ms =
    allowed at keys.PortDevErrorDetect truth ms
    ⨾ array_checks pins 64 ms

unfoldable pub value_of : Members → Option PortConfig
value_of ms = do
  detect ← read_or true keys.PortDevErrorDetect truth ms
  pins ← array_value pins ms
  Some (record { dev_error_detect = detect; pins = pins })

unfoldable pub across : PortConfig → Checks
across port = rule initial_not_allowed 3 pins.place port.pins

unfoldable pub checks : Members → Checks
checks ms = key_checks ms ⨾ given (value_of ms) across

abbrev pub part : Part PortConfig
part = record { name = modules.Port; checks = checks; value = value_of }
