-- The configured channels.
use Rattle.std.specs.Prelude.{ℕ, ◌-◌, Bool, true, false, ◌==◌, nat_lt, if◌then◌else◌, List, [], ◌∷◌, Option, Some, None, slice_index_or}
use Rattle.mcal_base.specs.declared.config.icu.IcuChannel.{IcuChannel}
use Rattle.mcal_base.specs.declared.config.icu.IcuConfig.{IcuConfig}
use Rattle.mcal_base.specs.declared.config.icu.IcuMeasurementMode.{IcuMeasurementMode}
use Rattle.mcal_base.specs.declared.config.icu.IcuMeasurementMode.TheVariants.{SignalEdgeDetect, EdgeCounter, Timestamp, SignalMeasurement}
use Rattle.mcal_base.specs.declared.config.icu.IcuSignalMeasurementProperty.{IcuSignalMeasurementProperty}
use Rattle.mcal_base.specs.declared.config.icu.IcuSignalMeasurementProperty.TheVariants.{DutyCycle}
use Rattle.mcal_base.specs.declared.config.icu.IcuStartEdge.{IcuStartEdge}
use Rattle.mcal_base.specs.declared.config.icu.IcuStartEdge.TheVariants.{Rising, Falling, Both}
use Rattle.mcal_base.specs.declared.config.icu.IcuTimestampMeasurementProperty.{IcuTimestampMeasurementProperty}
use Rattle.mcal_base.specs.declared.config.icu.IcuTimestampMeasurementProperty.TheVariants.{LinearBuffer}
use Rattle.module_machines.specs.declared.icu.table.Channel.{Channel}
use Rattle.module_machines.specs.declared.icu.table.IcuTable.{IcuTable}

-- what the driver keeps of a configured channel
abbrev pub taken : IcuChannel → ℕ → Channel
taken x c = record { number = c; start_edge = x.default_start_edge; mode = x.measurement_mode; measured = x.signal_measurement_property; buffer = x.timestamp_measurement_property; signal_notification = x.signal_notification; timestamp_notification = x.timestamp_notification; pin = x.pin; level = x.level }

-- the first channel with this number
abbrev pub channel_in : List IcuChannel → ℕ → Option Channel
channel_in [] c = None
channel_in (x ∷ xs) c = if x.id == c then Some (taken x c) else channel_in xs c

-- what is kept of a configuration
abbrev pub table_of : IcuConfig → IcuTable
table_of g = record {
  detect = g.dev_error_detect;
  classification = g.classification;
  channels = channel_in g.channels 0 ∷ channel_in g.channels 1 ∷ channel_in g.channels 2 ∷ channel_in g.channels 3 ∷ channel_in g.channels 4 ∷ channel_in g.channels 5 ∷ channel_in g.channels 6 ∷ channel_in g.channels 7 ∷ [];
}

-- the channel of a number, where it is configured
abbrev pub channel_of : IcuTable → ℕ → Option Channel
channel_of d c = if nat_lt c 8 then slice_index_or d.channels c None else None

-- the number of a line's channel: line 16 is that of channel 0
abbrev pub channel_number : (line : ℕ) → ℕ
channel_number l = l - 16

-- the channel of a line, where it is configured
abbrev pub channel_of_line : IcuTable → ℕ → Option Channel
channel_of_line d l = if nat_lt l 16 then None else channel_of d (channel_number l)

-- ---- what a channel is for

abbrev pub is_detection : IcuMeasurementMode → Bool
is_detection SignalEdgeDetect = true
is_detection _ = false

abbrev pub is_counter : IcuMeasurementMode → Bool
is_counter EdgeCounter = true
is_counter _ = false

abbrev pub is_timestamp : IcuMeasurementMode → Bool
is_timestamp Timestamp = true
is_timestamp _ = false

abbrev pub is_measurement : IcuMeasurementMode → Bool
is_measurement SignalMeasurement = true
is_measurement _ = false

-- a duty cycle is measured
abbrev pub is_duty_cycle : Option IcuSignalMeasurementProperty → Bool
is_duty_cycle (Some DutyCycle) = true
is_duty_cycle _ = false

-- the buffer is linear
abbrev pub is_linear : Option IcuTimestampMeasurementProperty → Bool
is_linear (Some LinearBuffer) = true
is_linear _ = false

-- the edge at which a measure of periods starts is a rising one
abbrev pub starts_rising : IcuStartEdge → Bool
starts_rising Falling = false
starts_rising _ = true

-- an edge of this direction is one of the chosen edges
abbrev pub chooses : IcuStartEdge → (rising : Bool) → Bool
chooses Rising rising = rising
chooses Falling true = false
chooses Falling false = true
chooses Both rising = true
