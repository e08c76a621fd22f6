-- Channels, ports and channel groups as the standard has them: what each call reads of the levels of pins, and what it makes of their latches.
use Rattle.std.specs.Prelude.{ℕ, ◌+◌, ◌*◌, Bool, [], Option, Some, None}
use Rattle.mcal_base.specs.Bits.{bit_of, bits_of}
use Rattle.run_model.specs.Machine.{Outcome, outcome, tells_nothing, answers, number}
use Rattle.run_model.specs.World.{World}
use Rattle.module_machines.specs.dio.Values.{level_answer, moved_down, moved_up, word_of}
use Rattle.module_machines.specs.dio.Checks.{answer_refused, error_of}
use Rattle.module_machines.specs.dio.Table.{pins_of}
use Rattle.module_machines.specs.declared.dio.table.PortPins.{PortPins}
use Rattle.module_machines.specs.declared.dio.call.Call.{Call}
use Rattle.module_machines.specs.declared.dio.call.Call.TheVariants.{ReadChannel, WriteChannel, FlipChannel, ReadPort, WritePort, ReadChannelGroup, WriteChannelGroup}
use Rattle.module_machines.specs.declared.dio.table.DioTable.{DioTable}

-- The pins of a host: the level of each, and its state after a word of 256 * mask + levels is put to a port, and after a
-- pin's latch is inverted.
pub record HostPins (State : Type 0) : Type 0 where
  pub level : World → State → (pin : ℕ) → Bool
  pub put : (port word : ℕ) → State → State
  pub flip : (pin : ℕ) → State → State

module _ {State : Type 0} (h : HostPins State) where
  -- ---- what is read

  -- the levels of a port's eight pins as a number, the first one in bit 0
  abbrev pub port_value : World → State → (port : ℕ) → ℕ
  port_value w s q = bits_of (λ k. h.level w s (8 * q + k)) 8

  -- the level of a pin, and the value of some pins of a port
  abbrev pub tells_level : World → State → (pin : ℕ) → Outcome State
  tells_level w s p = outcome s (answers (level_answer (h.level w s p)))

  abbrev pub tells_value : World → State → PortPins → Outcome State
  tells_value w s pins = outcome s (answers (number (moved_down pins (port_value w s pins.port))))

  -- ---- what is written

  -- a value is put to some pins of a port
  abbrev pub puts_value : State → PortPins → (value : ℕ) → Outcome State
  puts_value s pins value = outcome (h.put pins.port (word_of pins (moved_up pins value)) s) tells_nothing

  -- ---- the calls

  -- what a call does about these pins
  abbrev pub work : World → State → Call → PortPins → Outcome State
  work w s (ReadChannel p) pins = tells_level w s p
  work w s (FlipChannel p) pins = tells_level w (h.flip p s) p
  work w s (WriteChannel p high) pins = puts_value s pins (bit_of high)
  work w s (ReadPort q) pins = tells_value w s pins
  work w s (ReadChannelGroup g) pins = tells_value w s pins
  work w s (WritePort q value) pins = puts_value s pins value
  work w s (WriteChannelGroup g value) pins = puts_value s pins value

  -- one whose channel, port or group isn't configured finds its error, and changes nothing
  abbrev pub does_by : World → State → Call → Option PortPins → Outcome State
  does_by w s call None = outcome s (record { answer = answer_refused call; error = error_of call; notices = [] })
  does_by w s call (Some pins) = work w s call pins

  -- what a call does
  abbrev pub does : DioTable → World → State → Call → Outcome State
  does d w s call = does_by w s call (pins_of d call)
