-- The table of the module Gpt, in the order of the walk.
use Rattle.std.specs.Prelude.{true, false, Option, Some}
use Rattle.toml.specs.Data.{Members}
use Rattle.config_keys.specs.Checks.{Checks, ◌⨾◌}
use Rattle.config_keys.specs.Kinds.{◌>>=◌, whole, truth, name, text}
use Rattle.config_keys.specs.Keys.{of_module, of_key, needed, allowed, read, read_or}
use Rattle.config_keys.specs.Names.{channel_mode_named}
use Rattle.config_tables.specs.rows.Rows.{Shape, array_checks, array_value}
use Rattle.config_tables.specs.rows.Modules.{Part}
use Rattle.config_keys.specs.declared.fault.Path.{Path}
use Rattle.config_keys.specs.declared.key_name.KeyName.TheVariants as keys
use Rattle.mcal_base.specs.declared.module_name.ModuleName.TheVariants as modules
use Rattle.mcal_base.specs.declared.config.gpt.GptChannel.{GptChannel}
use Rattle.mcal_base.specs.declared.config.gpt.GptConfig.{GptConfig}

-- the place of the module's table
abbrev pub at : Path
at = of_module modules.Gpt

-- timer channels
unfoldable pub channel_checks : Path → Members → Checks
channel_checks at ms =
    needed at keys.GptChannelId (whole 0 7) ms
    ⨾ needed at keys.GptChannelMode (name channel_mode_named) ms
    ⨾ allowed at keys.GptChannelTickValueMax (whole 1 4294967295) ms
    ⨾ allowed at keys.GptEnableWakeup truth ms
    ⨾ allowed at keys.GptNotification text ms
    ⨾ allowed at keys.Prescaler (whole 1 65535) ms
    ⨾ allowed at keys.Level (whole 1 7) ms

unfoldable pub channel_of : Members → Option GptChannel
channel_of ms = do
  id ← read keys.GptChannelId (whole 0 7) ms
  mode ← read keys.GptChannelMode (name channel_mode_named) ms
  most ← read_or 4294967295 keys.GptChannelTickValueMax (whole 1 4294967295) ms
  wakeup ← read_or false keys.GptEnableWakeup truth ms
  notification ← read_or false keys.GptNotification text ms
  prescaler ← read_or 1 keys.Prescaler (whole 1 65535) ms
  level ← read_or 1 keys.Level (whole 1 7) ms
  Some (record { id = id; mode = mode; tick_value_max = most; enable_wakeup = wakeup; notification = notification; prescaler = prescaler; level = level })

abbrev pub channels : Shape GptChannel
channels = record { place = of_key at keys.GptChannelConfiguration; key = keys.GptChannelConfiguration; id_key = Some keys.GptChannelId; checks = channel_checks; id = read keys.GptChannelId (whole 0 7); value = channel_of }

-- the module, which has no references and no rules
unfoldable pub checks : Members → Checks
checks ms =
    allowed at keys.GptDevErrorDetect truth ms
    ⨾ allowed at keys.Classification (whole 1 2) ms
    ⨾ array_checks channels 8 ms

unfoldable pub value_of : Members → Option GptConfig
value_of ms = do
  detect ← read_or true keys.GptDevErrorDetect truth ms
  classification ← read_or 1 keys.Classification (whole 1 2) ms
  channels ← array_value channels ms
  Some (record { dev_error_detect = detect; classification = classification; channels = channels })

abbrev pub part : Part GptConfig
part = record { name = modules.Gpt; checks = checks; value = value_of }
