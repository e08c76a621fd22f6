-- The chip: what each move, each hardware event and a reset leave, and what each move gives.
use Rattle.std.specs.Prelude.{ℕ, ◌+◌, ◌*◌, ◌/◌, ◌-◌, ◌<◌, ◌≤◌, ◌^◌, max, ◌++◌, nat_lt, nat_le, Bool, true, false, not, ◌&&◌, if◌then◌else◌, List, [], ◌∷◌, length, take, drop, replicate, Option, Some, None, option_map, slice_index, slice_index_or, slice_set}
use Rattle.mcal_base.specs.Bits.{has_bit, bit_of, bits_of}
use Rattle.mcal_base.specs.Layout.{place_of}
use Rattle.mcal_base.specs.declared.config.whole.Config.{Config}
use Rattle.mcal_base.specs.declared.directive.Order.{Order}
use Rattle.mcal_base.specs.declared.directive.Order.TheVariants.{Tick, Level, Analog, Trigger, Miso, SpiFault, Detach, Fill}
use Rattle.mcal_base.specs.declared.directive.Reason.{Reason}
use Rattle.mcal_base.specs.declared.directive.Reason.TheVariants.{PowerOn}
use Rattle.mcal_base.specs.declared.layout.Array.TheVariants.{Source}
use Rattle.mcal_base.specs.declared.moves.Move.{Move}
use Rattle.mcal_base.specs.declared.moves.Move.TheVariants.{Read, Write, Load, Store, Mask, Unmask, Note, Report}
use Rattle.mcal_base.specs.declared.register.Reg.{Reg}
use Rattle.mcal_base.specs.declared.register.Reg.TheVariants.{EnableSet, EnableClear, TimerRun, TimerFlags, TimerLow, TimerHigh, PulseOut, PulseFlags, CaptureCountLow, CaptureCountHigh, CaptureTimeLow, CaptureTimeHigh, CaptureInfo, ConverterState, ConverterResult, ConverterDone, ConverterAbort, TriggerFlags, SerialData, SerialReceived, SerialState, SerialWait, PortLevels, PinFlip, ClockLock, ResetReason, Ram}
use Rattle.irq_control.specs.Control.{Control, control_fresh, enabling, disabling, masking}
use Rattle.chip_blocks.specs.timers.Timers as timers
use Rattle.chip_blocks.specs.pulses.Pulses as pulses
use Rattle.chip_blocks.specs.captures.Captures as captures
use Rattle.chip_blocks.specs.units.Clock as clock
use Rattle.chip_blocks.specs.converter.Converters as converters
use Rattle.chip_blocks.specs.converter.Rounds as rounds
use Rattle.chip_blocks.specs.units.Serials as serials
use Rattle.chip_blocks.specs.units.Pins as pins
use Rattle.chip_blocks.specs.units.Ram as ram
use Rattle.chip_blocks.specs.units.Watchdogs as watchdogs
use Rattle.chip_blocks.specs.declared.units.watchdog.WatchdogBlock.{WatchdogBlock}
use Rattle.chip_model.specs.declared.wiring.Wiring.{Wiring}
use Rattle.chip_model.specs.Wiring.{wiring_of}
use Rattle.chip_model.specs.Words.{blank}
use Rattle.chip_model.specs.Waiting.{Waiting}

-- The blocks, the interrupt controller and the driver words; and what stands outside: the levels of the pins, the
-- words that wait to come in on each serial unit, what the configuration wires, and how many devices hang on the serial
-- units.
pub record Chip : Type 0 where
  pub clock : clock.Clock
  pub timers : timers.Timers
  pub pulses : pulses.Pulses
  pub captures : captures.Captures
  pub converters : converters.Converters
  pub serials : serials.Serials
  pub pins : pins.Pins
  pub ram : List ℕ
  pub control : Control
  pub watchdog : WatchdogBlock
  pub words : List ℕ
  pub outside : List Bool
  pub incoming : List Waiting
  pub wiring : Wiring
  pub devices : ℕ

-- the peripheral time
abbrev pub now_of : Chip → ℕ
now_of c = c.timers.time

-- at power on, with room for so many incoming words on each unit, and no device
abbrev pub power_on : Config → (room : ℕ) → Chip
power_on config room = record {
  clock = clock.fresh 0 PowerOn;
  watchdog = watchdogs.fresh;
  timers = timers.timers_fresh 0;
  pulses = pulses.pulses_fresh 0;
  captures = captures.captures_fresh (captures.pins_in config.icu.channels) 0;
  converters = converters.fresh 0 converters.silent;
  serials = serials.fresh 0;
  pins = pins.fresh;
  ram = ram.blank;
  control = control_fresh;
  words = blank;
  outside = replicate 64 false;
  incoming = (record { waiting = []; room = room }) ∷ (record { waiting = []; room = room }) ∷ [];
  wiring = wiring_of config;
  devices = 0;
}

-- so many devices hang on the serial units
abbrev pub hung : (devices : ℕ) → Chip → Chip
hung devices c = record c { devices = devices }

-- ---- pins

-- the outside level of a pin
abbrev pub outside_at : Chip → ℕ → Bool
outside_at c p = slice_index_or c.outside p false

-- the pulse channel whose output is seen at a pin, from this number on
abbrev pub channel_from : ℕ → List (Option ℕ) → ℕ → Option ℕ
channel_from k [] p = None
channel_from k (x ∷ xs) p = if captures.is_pin x p then Some k else channel_from (k + 1) xs p

-- the output that is seen at a pin, where a pulse channel names it
abbrev pub output_at : Chip → ℕ → Option Bool
output_at c p = option_map (λ k. pulses.level_at c.pulses k) (channel_from 0 c.wiring.outputs p)

-- the level of a pin
abbrev pub pin_of : Chip → ℕ → Bool
pin_of c p = pins.level c.pins p (outside_at c p) (output_at c p)

-- the levels of a port's eight pins, the first one in bit 0
abbrev pub port_of : Chip → (q : ℕ) → ℕ
port_of c q = bits_of (λ k. pin_of c (8 * q + k)) 8

-- the latch of a pin that is out becomes the other level
abbrev pub flipped : Chip → (p : ℕ) → Chip
flipped c p = record c { pins = pins.flip c.pins p }

-- ---- moves

-- what a read of a register gives: those that can be read
abbrev pub register_of : Chip → Reg → ℕ
register_of c TimerRun = timers.read_of c.timers TimerRun
register_of c TimerFlags = timers.read_of c.timers TimerFlags
register_of c (TimerLow k) = timers.read_of c.timers (TimerLow k)
register_of c (TimerHigh k) = timers.read_of c.timers (TimerHigh k)
register_of c (PulseOut k) = pulses.read_of c.pulses (PulseOut k)
register_of c PulseFlags = pulses.read_of c.pulses PulseFlags
register_of c (CaptureCountLow k) = captures.read_of c.captures (CaptureCountLow k)
register_of c (CaptureCountHigh k) = captures.read_of c.captures (CaptureCountHigh k)
register_of c (CaptureTimeLow k) = captures.read_of c.captures (CaptureTimeLow k)
register_of c (CaptureTimeHigh k) = captures.read_of c.captures (CaptureTimeHigh k)
register_of c (CaptureInfo k) = captures.read_of c.captures (CaptureInfo k)
register_of c (ConverterState u) = converters.read_of c.converters (ConverterState u)
register_of c (ConverterResult u i) = converters.read_of c.converters (ConverterResult u i)
register_of c (ConverterDone u) = converters.read_of c.converters (ConverterDone u)
register_of c (ConverterAbort u) = converters.read_of c.converters (ConverterAbort u)
register_of c TriggerFlags = converters.read_of c.converters TriggerFlags
register_of c (SerialReceived u) = serials.read_of c.serials (SerialReceived u)
register_of c (SerialState u) = serials.read_of c.serials (SerialState u)
register_of c (SerialWait u) = serials.read_of c.serials (SerialWait u)
register_of c (PortLevels q) = port_of c q
register_of c (PinFlip p) = bit_of (pin_of (flipped c p) p)
register_of c ClockLock = clock.read_of c.clock ClockLock
register_of c ResetReason = clock.read_of c.clock ResetReason
register_of c (Ram k) = ram.read_of c.ram (Ram k)
register_of c _ = 0

-- what a read leaves: four kinds of reads act
abbrev pub after_read : Chip → Reg → Chip
after_read c (TimerLow k) = record c { timers = timers.after_read c.timers (TimerLow k) }
after_read c (CaptureCountLow k) = record c { captures = captures.after_read c.captures (CaptureCountLow k) }
after_read c (CaptureTimeLow k) = record c { captures = captures.after_read c.captures (CaptureTimeLow k) }
after_read c (ConverterAbort u) = record c { converters = converters.after_read c.converters (ConverterAbort u) }
after_read c (PinFlip p) = flipped c p
after_read c _ = c

-- the words that wait to come in on a serial unit
abbrev pub incoming_at : Chip → ℕ → Waiting
incoming_at c u = slice_index_or c.incoming u (record { waiting = []; room = 0 })

-- the word that comes in next on a serial unit: the first one that waits, and else all ones
abbrev pub next_word : Chip → ℕ → ℕ
next_word c u = slice_index_or (incoming_at c u).waiting 0 65535

-- a serial unit's select names one of so many devices, each by its place and 1
abbrev pub names_device : (select devices : ℕ) → Bool
names_device select devices = nat_lt 0 select && nat_le select devices

-- a serial unit selects a device that is there
abbrev pub has_device : Chip → ℕ → Bool
has_device c u = names_device (serials.unit_at c.serials u).select c.devices

-- the words that wait on the units after a word began on one: without a device the first one waits no longer
abbrev pub waiting_after : Chip → (u : ℕ) → List Waiting
waiting_after c u =
    if has_device c u
    then c.incoming
    else slice_set c.incoming u (record (incoming_at c u) { waiting = drop 1 (incoming_at c u).waiting })

-- a word begins on a serial unit, and this one comes in
abbrev pub word_begun : Chip → (u received : ℕ) → Chip
word_begun c u received = record c { serials = serials.after_word c.serials u received; incoming = waiting_after c u }

-- what a write leaves, with the word that comes in: each block takes the writes to its registers
abbrev pub after_write : Chip → Reg → (value received : ℕ) → Chip
after_write c EnableSet value received = record c { control = enabling c.control value }
after_write c EnableClear value received = record c { control = disabling c.control value }
after_write c (SerialData u) value received = word_begun c u received
after_write c r value received = record c {
  clock = clock.after_write c.clock r value;
  watchdog = watchdogs.after_write c.watchdog c.clock.osc r value;
  timers = timers.after_write c.timers r value;
  pulses = pulses.after_write c.pulses r value;
  captures = captures.after_write c.captures r value;
  converters = converters.after_write c.converters r value;
  serials = serials.after_write c.serials r value;
  pins = pins.after_write c.pins r value;
  ram = ram.after_write c.ram r value;
}

-- a driver word
abbrev pub word_of : Chip → ℕ → ℕ
word_of c k = slice_index c.words k

-- what a move gives
abbrev pub value_of : Chip → Move → ℕ
value_of c (Read r) = register_of c r
value_of c (Load k) = word_of c k
value_of c _ = 0

-- what a move leaves, with the word that came in
abbrev pub chip_after : Chip → Move → (received : ℕ) → Chip
chip_after c (Read r) received = after_read c r
chip_after c (Write r value) received = after_write c r value received
chip_after c (Load k) received = c
chip_after c (Store k value) received = record c { words = slice_set c.words k value }
chip_after c Mask received = record c { control = masking c.control true }
chip_after c Unmask received = record c { control = masking c.control false }
chip_after c (Note notice) received = c
chip_after c (Report fault) received = c

-- ---- hardware

-- what so many ticks of the oscillator leave
abbrev pub ticked : Chip → ℕ → Chip
ticked c n = record c {
  clock = clock.ticked c.clock n;
  timers = timers.ticked c.timers (n * c.clock.rate);
  pulses = pulses.ticked c.pulses (n * c.clock.rate);
  captures = captures.ticked c.captures (n * c.clock.rate);
  converters = converters.ticked c.converters (n * c.clock.rate);
  serials = serials.ticked c.serials (n * c.clock.rate);
}

abbrev pub is_other : Bool → Bool → Bool
is_other true v = not v
is_other false v = v

-- the outside level of a pin is set: where that changes it, an edge comes
abbrev pub levelled : Chip → ℕ → Bool → Chip
levelled c p v =
    if is_other (outside_at c p) v
    then record c { outside = slice_set c.outside p v; captures = captures.after_edge c.captures p v }
    else c

-- words are given to come in next on a serial unit
abbrev pub given : Chip → ℕ → List ℕ → Chip
given c u ws = record c { incoming = slice_set c.incoming u (record (incoming_at c u) { waiting = (incoming_at c u).waiting ++ ws; room = (incoming_at c u).room - length ws }) }

-- the words from a place on become these
abbrev pub overwritten : List ℕ → (at : ℕ) → List ℕ → List ℕ
overwritten words at xs = take at words ++ xs ++ drop (at + length xs) words

-- the places of a serial channel's source array
abbrev pub source_length : Chip → ℕ → ℕ
source_length c channel = slice_index c.wiring.sources channel

-- the first places of a serial channel's source array become these; words past its end are dropped
abbrev pub filled : Chip → ℕ → List ℕ → Chip
filled c channel ws = record c { words = overwritten c.words (place_of (Source channel) 0) (take (source_length c channel) ws) }

-- what a hardware event leaves
abbrev pub happened : Chip → Order → Chip
happened c (Tick n) = ticked c n
happened c (Level p v) = levelled c p v
happened c (Analog i v) = record c { converters = converters.after_analog c.converters i v }
happened c (Trigger i) = record c { converters = converters.after_pulse c.converters i }
happened c (Miso u ws) = given c u ws
happened c (SpiFault u) = record c { serials = serials.after_fault c.serials u }
happened c Detach = hung (c.devices - 1) c
happened c (Fill channel ws) = filled c channel ws
happened c _ = c

-- the times stay within their registers, there is room for the words that come in, and the source array is within its room
abbrev pub CanHappen : Chip → Order → Type 0
CanHappen c (Tick n) = (c.clock.osc + n < 2 ^ 64) × (now_of c + n * c.clock.rate < 2 ^ 64)
CanHappen c (Miso u ws) = (u < 2) × (length ws ≤ (incoming_at c u).room)
CanHappen c (Fill channel ws) = (channel < 16) × (source_length c channel ≤ 64)
CanHappen c _ = Unit {0}

-- ---- what a run waits for

-- the ticks of the oscillator that are left until the watchdog's time ends, where it runs
abbrev pub expiry_of : Chip → Option ℕ
expiry_of c = watchdogs.expiry c.watchdog c.clock.osc

-- the ticks of the oscillator that make so many peripheral ticks, at this rate
abbrev pub ticks_for : (peripheral rate : ℕ) → ℕ
ticks_for peripheral rate = (peripheral + (max 1 rate - 1)) / max 1 rate

-- the ticks of the oscillator until no word is in transfer on a serial unit
abbrev pub wait_on : Chip → (u : ℕ) → ℕ
wait_on c u = ticks_for (serials.left (serials.unit_at c.serials u) c.serials.time) c.clock.rate

-- the ticks that a move waits for: a read of `S<u>.WAIT` for the word in transfer on its unit, and any other for none
abbrev pub stall_of : Chip → Move → ℕ
stall_of c (Read (SerialWait u)) = wait_on c u
stall_of c _ = 0

-- ---- resets

-- what a reset leaves: all registers, RAM words and driver words are 0; the times go on, and what stands outside stays
abbrev pub reset_chip : Chip → Reason → Chip
reset_chip c reason = record c {
  clock = clock.fresh c.clock.osc reason;
  watchdog = watchdogs.fresh;
  timers = timers.timers_fresh c.timers.time;
  pulses = pulses.pulses_fresh c.pulses.time;
  captures = captures.captures_fresh c.captures.pins c.captures.time;
  converters = converters.fresh c.converters.time c.converters.levels.values;
  serials = serials.fresh c.serials.time;
  pins = pins.fresh;
  ram = ram.blank;
  control = control_fresh;
  words = blank;
}

-- ---- what is seen from outside

-- the flag of a line: of a timer, a pulse output, a capture input, a converter unit, a serial unit or a trigger input
abbrev pub flag_of : Chip → ℕ → Bool
flag_of c line =
    if nat_lt line 8 then timers.is_flagged (timers.timer_at c.timers line) c.timers.time
    else if nat_lt line 16 then pulses.is_due c.pulses (line - 8)
    else if nat_lt line 24 then captures.is_waiting (captures.capture_at c.captures (line - 16))
    else if nat_lt line 26 then rounds.is_finished (converters.unit_at c.converters (line - 24)).round c.converters.time
    else if nat_lt line 28 then serials.is_done (serials.unit_at c.serials (line - 26)) c.serials.time
    else has_bit c.converters.pulses (line - 28)

-- a line is pending while its flag and its enable bit are set
abbrev pub is_pending : Chip → ℕ → Bool
is_pending c line = flag_of c line && has_bit c.control.enabled line

abbrev pub is_masked : Chip → Bool
is_masked c = c.control.masked
