-- What pins, RAM words, stamps, results, and the arrays and words of serial channels are in the modules' state.
use Rattle.std.specs.Prelude.{ℕ, ◌==◌, List, Bool, false, Option, Some, None, option_map, if◌then◌else◌}
use Rattle.std.specs.List.{find}
use Rattle.mcal_base.specs.declared.config.pwm.PwmChannel.{PwmChannel}
use Rattle.mcal_base.specs.declared.config.whole.Config.{Config}
use Rattle.mcal_base.specs.declared.layout.Array.{Array}
use Rattle.mcal_base.specs.declared.layout.Array.TheVariants.{Round, Stamps, Source, Destination}
use Rattle.run_model.specs.World.{World}
use Rattle.module_machines.specs.mcu.Machine as clock
use Rattle.module_machines.specs.port.Machine as pins
use Rattle.module_machines.specs.pwm.Machine as pulses
use Rattle.module_machines.specs.pwm.Table as pulse_table
use Rattle.module_machines.specs.icu.Shown as captures
use Rattle.adc_machine.specs.Machine as converters
use Rattle.adc_machine.specs.Table as converter_table
use Rattle.adc_machine.specs.Words.{buffer_number, place_count}
use Rattle.adc_machine.specs.declared.call.ResultBuffer.{ResultBuffer}
use Rattle.adc_machine.specs.declared.call.ResultBuffer.TheVariants.{Zero, One}
use Rattle.word_shapes.specs.declared.jobs.channel.Channel as serial_channels
use Rattle.spi_machine.specs.Numbered.{word_at}
use Rattle.spi_machine.specs.State as serial
use Rattle.spi_machine.specs.Table as serial_table
use Rattle.mcal_drivers.specs.Setting.{SystemState}

-- the pin is this one
abbrev pub is_pin : Option ℕ → (pin : ℕ) → Bool
is_pin None p = false
is_pin (Some q) p = q == p

-- the configured pulse channel that names a pin
abbrev pub channel_on : Config → (pin : ℕ) → Option PwmChannel
channel_on c p = find (λ (x : PwmChannel). is_pin x.pin p) c.pwm.channels

-- the output of the pulse channel that names a pin
abbrev pub pulse_at : Config → World → SystemState → (pin : ℕ) → Option Bool
pulse_at c w s p = option_map (λ (x : PwmChannel). pulses.level_at (pulse_table.table_of c.pwm) w s.1.0.0 x.id) (channel_on c p)

-- the level of a pin
abbrev pub level_at : Config → World → SystemState → (pin : ℕ) → Bool
level_at c w s p = pins.level_at w s.0.1.0 p (pulse_at c w s p)

-- a RAM word
abbrev pub ram_at : SystemState → (number : ℕ) → ℕ
ram_at s k = clock.ram_at s.0.0.0 k

-- how many places of a capture channel's stamps are shown, and the time at a place
abbrev pub size_at : SystemState → (channel : ℕ) → Option ℕ
size_at s c = captures.size_of s.1.0.1 c

abbrev pub stamp_at : SystemState → (channel place : ℕ) → ℕ
stamp_at s c i = captures.stamp_at s.1.0.1 c i

-- the buffer of a converter group that is shown, and how many places it has; and what a place of a buffer has
abbrev pub results_at : Config → SystemState → (group : ℕ) → Option (ℕ × ℕ)
results_at c s g = option_map (λ b. (buffer_number b, place_count (converter_table.table_of c.adc) g)) (converters.chosen_buffer s.1.1.0 g)

abbrev pub buffer_of : ℕ → ResultBuffer
buffer_of n = if n == 0 then Zero else One

abbrev pub result_at : SystemState → (group buffer place : ℕ) → ℕ
result_at s g b i = converters.place_value s.1.1.0 g (buffer_of b) i

-- the serial channel of a number
abbrev pub serial_channel : Config → (number : ℕ) → Option serial_channels.Channel
serial_channel c n = serial_table.channel_of (serial_table.table_of c.spi) n

-- a word of an internal one by its place: of those that were received, or of those to send
abbrev pub internal_at : SystemState → (channel : ℕ) → (received : Bool) → (place : ℕ) → ℕ
internal_at s c received i = serial.internal_word s.1.1.1 c received i

-- the words on the wire of a serial unit since the last reset, each with what came in
abbrev pub wire_at : SystemState → (unit : ℕ) → List (ℕ × ℕ)
wire_at s u = serial.wire_at s.1.1.1 u

-- a place of an array of the users
abbrev pub user_at : SystemState → Array → (place : ℕ) → ℕ
user_at s (Round g b) i = result_at s g b i
user_at s (Stamps n) i = stamp_at s n i
user_at s (Source n) i = word_at (serial.channel_at s.1.1.1 n).source i
user_at s (Destination n) i = word_at (serial.channel_at s.1.1.1 n).destination i
