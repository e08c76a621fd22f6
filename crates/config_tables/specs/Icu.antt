-- The table of the module Icu, in the order of the walk.
use Rattle.std.specs.Prelude.{Bool, true, false, Option, Some}
use Rattle.toml.specs.Data.{Members}
use Rattle.config_keys.specs.Checks.{Checks, ◌⨾◌}
use Rattle.config_keys.specs.Kinds.{◌>>=◌, whole, truth, name, text}
use Rattle.config_keys.specs.Keys.{of_module, of_key, needed, allowed, needed_if, read, read_or, read_any}
use Rattle.config_keys.specs.Names.{start_edge_named, measurement_mode_named, signal_property_named, timestamp_property_named}
use Rattle.config_tables.specs.rows.Rows.{Shape, array_checks, array_value}
use Rattle.config_tables.specs.rows.Modules.{Part}
use Rattle.config_keys.specs.declared.fault.Path.{Path}
use Rattle.config_keys.specs.declared.key_name.KeyName.TheVariants as keys
use Rattle.mcal_base.specs.declared.module_name.ModuleName.TheVariants as modules
use Rattle.mcal_base.specs.declared.config.icu.IcuMeasurementMode.{IcuMeasurementMode}
use Rattle.mcal_base.specs.declared.config.icu.IcuMeasurementMode.TheVariants.{Timestamp, SignalMeasurement}
use Rattle.mcal_base.specs.declared.config.icu.IcuChannel.{IcuChannel}
use Rattle.mcal_base.specs.declared.config.icu.IcuConfig.{IcuConfig}

-- the place of the module's table
abbrev pub at : Path
at = of_module modules.Icu

-- whether a mode is there, and is that of measurements, or that of timestamps
abbrev pub measures : Option IcuMeasurementMode → Bool
measures (Some SignalMeasurement) = true
measures _ = false

abbrev pub stamps : Option IcuMeasurementMode → Bool
stamps (Some Timestamp) = true
stamps _ = false

-- the mode of a channel
abbrev pub mode_of : Members → Option IcuMeasurementMode
mode_of ms = read keys.IcuMeasurementMode (name measurement_mode_named) ms

-- capture inputs
unfoldable pub channel_checks : Path → Members → Checks
channel_checks at ms =
    needed at keys.IcuChannelId (whole 0 7) ms
    ⨾ needed at keys.IcuDefaultStartEdge (name start_edge_named) ms
    ⨾ needed at keys.IcuMeasurementMode (name measurement_mode_named) ms
    ⨾ needed_if (measures (mode_of ms)) at keys.IcuSignalMeasurementProperty (name signal_property_named) ms
    ⨾ needed_if (stamps (mode_of ms)) at keys.IcuTimestampMeasurementProperty (name timestamp_property_named) ms
    ⨾ allowed at keys.IcuSignalNotification text ms
    ⨾ allowed at keys.IcuTimestampNotification text ms
    ⨾ needed at keys.Pin (whole 0 63) ms
    ⨾ allowed at keys.Level (whole 1 7) ms

unfoldable pub channel_of : Members → Option IcuChannel
channel_of ms = do
  id ← read keys.IcuChannelId (whole 0 7) ms
  edge ← read keys.IcuDefaultStartEdge (name start_edge_named) ms
  mode ← mode_of ms
  signal ← read_any keys.IcuSignalMeasurementProperty (name signal_property_named) ms
  timestamp ← read_any keys.IcuTimestampMeasurementProperty (name timestamp_property_named) ms
  signal_notification ← read_or false keys.IcuSignalNotification text ms
  timestamp_notification ← read_or false keys.IcuTimestampNotification text ms
  pin ← read keys.Pin (whole 0 63) ms
  level ← read_or 1 keys.Level (whole 1 7) ms
  Some (record { id = id; default_start_edge = edge; measurement_mode = mode; signal_measurement_property = signal; timestamp_measurement_property = timestamp; signal_notification = signal_notification; timestamp_notification = timestamp_notification; pin = pin; level = level })

abbrev pub channels : Shape IcuChannel
channels = record { place = of_key at keys.IcuChannel; key = keys.IcuChannel; id_key = Some keys.IcuChannelId; checks = channel_checks; id = read keys.IcuChannelId (whole 0 7); value = channel_of }

-- the module, which has no references and no rules
unfoldable pub checks : Members → Checks
checks ms =
    allowed at keys.IcuDevErrorDetect truth ms
    ⨾ allowed at keys.Classification (whole 1 2) ms
    ⨾ array_checks channels 8 ms

unfoldable pub value_of : Members → Option IcuConfig
value_of ms = do
  detect ← read_or true keys.IcuDevErrorDetect truth ms
  classification ← read_or 1 keys.Classification (whole 1 2) ms
  channels ← array_value channels ms
  Some (record { dev_error_detect = detect; classification = classification; channels = channels })

abbrev pub part : Part IcuConfig
part = record { name = modules.Icu; checks = checks; value = value_of }
