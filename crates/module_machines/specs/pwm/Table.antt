-- The configured channels.
use Rattle.std.specs.Prelude.{◌≡◌, ℕ, ◌-◌, Bool, true, false, ◌==◌, nat_lt, if◌then◌else◌, List, [], ◌∷◌, Option, Some, None, slice_index_or}
use Rattle.mcal_base.specs.declared.config.pwm.PwmChannel.{PwmChannel}
use Rattle.mcal_base.specs.declared.config.pwm.PwmChannelClass.{PwmChannelClass}
use Rattle.mcal_base.specs.declared.config.pwm.PwmChannelClass.TheVariants.{FixedPeriod, FixedPeriodShifted, VariablePeriod}
use Rattle.mcal_base.specs.declared.config.pwm.PwmOutputState.{PwmOutputState}
use Rattle.mcal_base.specs.declared.config.pwm.PwmOutputState.TheVariants.{High, Low}
use Rattle.mcal_base.specs.declared.config.pwm.PwmConfig.{PwmConfig}
use Rattle.module_machines.specs.declared.pwm.table.Channel.{Channel}
use Rattle.module_machines.specs.declared.pwm.table.PwmTable.{PwmTable}

-- the period may be set; a shifted channel is taken as one of a fixed period
abbrev pub is_variable : PwmChannelClass → Bool
is_variable FixedPeriod = false
is_variable FixedPeriodShifted = false
is_variable VariablePeriod = true

abbrev pub is_high : PwmOutputState → Bool
is_high High = true
is_high Low = false

-- what the driver keeps of a configured channel
abbrev pub taken : PwmChannel → ℕ → Channel
taken x c = record { number = c; variable_period = is_variable x.class; duty_cycle_default = x.duty_cycle_default; idle_high = is_high x.idle_state; polarity_high = is_high x.polarity; notification = x.notification; period_ticks = x.period_ticks; level = x.level }

-- the first channel with this number
abbrev pub channel_in : List PwmChannel → ℕ → Option Channel
channel_in [] c = None
channel_in (x ∷ xs) c = if x.id == c then Some (taken x c) else channel_in xs c

-- what is kept of a configuration
abbrev pub table_of : PwmConfig → PwmTable
table_of g = record {
  detect = g.dev_error_detect;
  channels = channel_in g.channels 0 ∷ channel_in g.channels 1 ∷ channel_in g.channels 2 ∷ channel_in g.channels 3 ∷ channel_in g.channels 4 ∷ channel_in g.channels 5 ∷ channel_in g.channels 6 ∷ channel_in g.channels 7 ∷ [];
}

-- the channel of a number, where it is configured
abbrev pub channel_of : PwmTable → ℕ → Option Channel
channel_of d c = if nat_lt c 8 then slice_index_or d.channels c None else None

-- the number of a line's channel: line 8 is that of channel 0
abbrev pub channel_number : (line : ℕ) → ℕ
channel_number l = l - 8

-- the channel of a line, where it is configured
abbrev pub channel_of_line : PwmTable → ℕ → Option Channel
channel_of_line d l = if nat_lt l 8 then None else channel_of d (channel_number l)

-- the polarity of a channel is high
abbrev pub polarity_of : Option Channel → Bool
polarity_of None = false
polarity_of (Some k) = k.polarity_high

-- what the driver has to be: each channel stands at its number
pub record FitsPwm (d : PwmTable) : Type 0 where
  pub number : (c : ℕ) (k : Channel) → channel_of d c ≡ Some k → k.number ≡ c
