-- How the pins that the program keeps stand for the machine's state, which keeps what was done to them.
use Rattle.std.specs.Prelude.{◌≡◌, ℕ, ◌+◌, ◌<◌, List, Bool, Option, slice_index_or, if◌then◌else◌}
use Rattle.mcal_base.specs.Bits.{has_bit}
use Rattle.module_machines.specs.port.Machine.{PinState, PortState, untouched, pin_at, initial, refreshed, with_latch}
use Rattle.audit_clock.specs.declared.pin_state.PinState as code
use Rattle.audit_clock.specs.declared.pin_state.Whole.{Whole}
use Rattle.audit_clock.specs.declared.pin_state.Whole.TheVariants.{Configured, Refreshed}
use Rattle.module_machines.specs.declared.port.table.Pin.{Pin}
use Rattle.module_machines.specs.declared.port.table.PortTable.{PortTable}

-- What is kept: the table, whether the module is initialised, and each pin as it is.
pub record PinsKept : Type 0 where
  pub driver : PortTable
  pub initialised : Bool
  pub pins : List PinState

-- It stands for a state of the machine.
pub record StandsFor (kept : PinsKept) (s : PortState) : Type 0 where
  pub initialised : kept.initialised ≡ s.initialised
  pub pins : (p : ℕ) → p < 64 → slice_index_or kept.pins p untouched ≡ pin_at s p

-- a pin as the program has it
abbrev pub state_of : code.PinState → PinState
state_of x = record { direction = x.direction; mode = x.mode; latch = x.latch }

-- a pin after a call about all pins
abbrev pub turned : Whole → Option Pin → PinState → PinState
turned Configured k x = initial k x
turned Refreshed k x = refreshed k x

-- the pin at a place of a port after a word is put to the port
abbrev pub latched : (word place : ℕ) → PinState → PinState
latched word place x = if has_bit word (8 + place) then with_latch (has_bit word place) x else x
