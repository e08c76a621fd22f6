-- The table of the module Pwm, in the order of the walk.
use Rattle.std.specs.Prelude.{true, false, Option, Some}
use Rattle.toml.specs.Data.{Members}
use Rattle.config_keys.specs.Checks.{Checks, ◌⨾◌}
use Rattle.config_keys.specs.Kinds.{◌>>=◌, whole, truth, name, text}
use Rattle.config_keys.specs.Keys.{of_module, of_key, needed, allowed, read, read_or, read_any}
use Rattle.config_keys.specs.Names.{class_named, output_state_named}
use Rattle.config_tables.specs.rows.Rows.{Shape, array_checks, array_value}
use Rattle.config_tables.specs.rows.Rules.{rule}
use Rattle.config_tables.specs.rows.Modules.{Part, given}
use Rattle.config_keys.specs.declared.fault.Path.{Path}
use Rattle.config_keys.specs.declared.key_name.KeyName.TheVariants as keys
use Rattle.mcal_base.specs.declared.module_name.ModuleName.TheVariants as modules
use Rattle.mcal_base.specs.declared.config.pwm.PwmChannel.{PwmChannel}
use Rattle.mcal_base.specs.declared.config.pwm.PwmConfig.{PwmConfig}
pub use Rattle.config_facts.specs.Rules.{shares_pin}

-- the place of the module's table
abbrev pub at : Path
at = of_module modules.Pwm

-- pulse outputs
unfoldable pub channel_checks : Path → Members → Checks
channel_checks at ms =
    needed at keys.PwmChannelId (whole 0 7) ms
    ⨾ needed at keys.PwmChannelClass (name class_named) ms
    ⨾ needed at keys.PwmDutycycleDefault (whole 0 32768) ms
    ⨾ needed at keys.PwmIdleState (name output_state_named) ms
    ⨾ needed at keys.PwmPolarity (name output_state_named) ms
    ⨾ allowed at keys.PwmNotification text ms
    ⨾ needed at keys.PeriodTicks (whole 0 65535) ms
    ⨾ allowed at keys.Pin (whole 0 63) ms
    ⨾ allowed at keys.Level (whole 1 7) ms

unfoldable pub channel_of : Members → Option PwmChannel
channel_of ms = do
  id ← read keys.PwmChannelId (whole 0 7) ms
  class ← read keys.PwmChannelClass (name class_named) ms
  duty ← read keys.PwmDutycycleDefault (whole 0 32768) ms
  idle ← read keys.PwmIdleState (name output_state_named) ms
  polarity ← read keys.PwmPolarity (name output_state_named) ms
  notification ← read_or false keys.PwmNotification text ms
  period ← read keys.PeriodTicks (whole 0 65535) ms
  pin ← read_any keys.Pin (whole 0 63) ms
  level ← read_or 1 keys.Level (whole 1 7) ms
  Some (record { id = id; class = class; duty_cycle_default = duty; idle_state = idle; polarity = polarity; notification = notification; period_ticks = period; pin = pin; level = level })

abbrev pub channels : Shape PwmChannel
channels = record { place = of_key at keys.PwmChannel; key = keys.PwmChannel; id_key = Some keys.PwmChannelId; checks = channel_checks; id = read keys.PwmChannelId (whole 0 7); value = channel_of }

-- the module
unfoldable pub key_checks : Members → Checks
key_checks ms =
    allowed at keys.PwmDevErrorDetect truth ms
    ⨾ array_checks channels 8 ms

unfoldable pub value_of : Members → Option PwmConfig
value_of ms = do
  detect ← read_or true keys.PwmDevErrorDetect truth ms
  channels ← array_value channels ms
  Some (record { dev_error_detect = detect; channels = channels })

unfoldable pub across : PwmConfig → Checks
across pwm = rule shares_pin 4 channels.place pwm.channels

unfoldable pub checks : Members → Checks
checks ms = key_checks ms ⨾ given (value_of ms) across

abbrev pub part : Part PwmConfig
part = record { name = modules.Pwm; checks = checks; value = value_of }
