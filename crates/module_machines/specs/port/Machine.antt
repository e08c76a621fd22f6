-- Pins as the standard has them: what each call does, and the level of a pin.
use Rattle.std.specs.Prelude.{ℕ, ◌+◌, ◌/◌, ◌%◌, ◌==◌, Bool, true, false, ◌&&◌, not, if◌then◌else◌, List, [], ◌∷◌, Option, Some, None, unwrap_or}
use Rattle.mcal_base.specs.Bits.{has_bit}
use Rattle.mcal_base.specs.declared.config.port.PortPinDirection.{PortPinDirection}
use Rattle.mcal_base.specs.declared.config.port.PortPinDirection.TheVariants.{In, Out}
use Rattle.mcal_base.specs.declared.config.port.PortPinMode.{PortPinMode}
use Rattle.mcal_base.specs.declared.config.port.PortPinMode.TheVariants.{Adc, Dio, Icu, Pwm, Spi}
use Rattle.mcal_base.specs.declared.error_name.ErrorName.{ErrorName}
use Rattle.run_model.specs.World.{World, with_at}
use Rattle.run_model.specs.Machine.{Happening, Acts, Serves, Starts, Aborts, Moves, Restarts, Outcome, Machine, no_answer, tells_nothing, outcome, tells_error}
use Rattle.module_machines.specs.port.Checks.{service_of, error_by, reporting}
use Rattle.module_machines.specs.port.Table.{numbered}
use Rattle.module_machines.specs.declared.port.call.Call.{Call}
use Rattle.module_machines.specs.declared.port.call.Call.TheVariants.{Init, RefreshPortDirection}
use Rattle.module_machines.specs.declared.port.call.Call.TheVariants as calls
use Rattle.module_machines.specs.declared.port.call.PinCall.{PinCall}
use Rattle.module_machines.specs.declared.port.call.PinCall.TheVariants.{SetPinDirection, SetPinMode}
use Rattle.module_machines.specs.declared.port.table.Pin.{Pin}
use Rattle.module_machines.specs.declared.port.table.PortTable.{PortTable}

-- A pin: its direction, its mode, and whether its latch is high.
pub record PinState : Type 0 where
  pub direction : PortPinDirection
  pub mode : PortPinMode
  pub latch : Bool

-- What was done to pins: one of them became so, or each one that is configured became as it is configured, or took its
-- configured direction again; a word of 256 * mask + levels was put to a port, or a pin's latch was inverted.
pub data Change : Type 0 where
  Set : (p : ℕ) → PinState → Change
  Configured : List (Option Pin) → Change
  Refreshed : List (Option Pin) → Change
  Put : (port word : ℕ) → Change
  Inverted : (p : ℕ) → Change

-- The module: uninitialised or not, and what was done to its pins since the reset, the last first.
pub record PortState : Type 0 where
  pub initialised : Bool
  pub changes : List Change

-- a pin after a reset: in, in the mode of the analog inputs, its latch low
abbrev pub untouched : PinState
untouched = record { direction = In; mode = Adc; latch = false }

-- after power on and after a reset: uninitialised, and nothing was done
abbrev pub first_state : PortState
first_state = record { initialised = false; changes = [] }

-- ---- one pin

-- as it is configured
abbrev pub configured : Pin → PinState
configured k = record { direction = k.direction; mode = k.initial_mode; latch = k.level_high }

-- as it is configured, where it is, and else as it was
abbrev pub initial : Option Pin → PinState → PinState
initial None x = x
initial (Some k) x = configured k

-- with its configured direction, where that may not change, and else as it was
abbrev pub refreshed : Option Pin → PinState → PinState
refreshed None x = x
refreshed (Some k) x = if k.direction_changeable then x else record x { direction = k.direction }

-- with the mode that is asked for, where it is one
abbrev pub with_mode : Option PortPinMode → PinState → PinState
with_mode None x = x
with_mode (Some m) x = record x { mode = m }

-- after a call about it
abbrev pub changed : PinCall → PinState → PinState
changed (SetPinDirection direction) x = record x { direction = direction }
changed (SetPinMode m) x = with_mode m x

abbrev pub is_out : PortPinDirection → Bool
is_out In = false
is_out Out = true

-- with this latch, where it is out
abbrev pub with_latch : Bool → PinState → PinState
with_latch high x = if is_out x.direction then record x { latch = high } else x

-- ---- ports: port q has the pins 8q to 8q + 7, the first one in bit 0

-- a word that is put to a port names the pin: it is one of the port's, and its bit of the mask is one
abbrev pub names_pin : (port word p : ℕ) → Bool
names_pin q word p = q == p / 8 && has_bit word (8 + p % 8)

-- ---- all pins

-- a pin that was so, after a change
abbrev pub after_change : Change → (ℕ → PinState) → ℕ → PinState
after_change (Set q x) f p = with_at f q x p
after_change (Configured ks) f p = initial (numbered ks p) (f p)
after_change (Refreshed ks) f p = refreshed (numbered ks p) (f p)
after_change (Put q word) f p = if names_pin q word p then with_latch (has_bit word (p % 8)) (f p) else f p
after_change (Inverted q) f p = if q == p then with_latch (not (f p).latch) (f p) else f p

abbrev pub after_changes : List Change → ℕ → PinState
after_changes [] p = untouched
after_changes (c ∷ cs) p = after_change c (λ q. after_changes cs q) p

-- the pin of a number
abbrev pub pin_at : PortState → ℕ → PinState
pin_at s p = after_changes s.changes p

-- after one more change
abbrev pub with_change : PortState → Change → PortState
with_change s c = record s { changes = c ∷ s.changes }

-- ---- a pin's level

-- the mode is that of the pulse outputs
abbrev pub is_pulse : PortPinMode → Bool
is_pulse Adc = false
is_pulse Dio = false
is_pulse Icu = false
is_pulse Pwm = true
is_pulse Spi = false

-- the outside level where the pin is in; where it is out, in the mode of the pulse outputs, and a pulse channel names it, that channel's output; else its latch
abbrev pub level_of : PinState → (outside : Bool) (pulse : Option Bool) → Bool
level_of x outside pulse = if is_out x.direction then (if is_pulse x.mode then unwrap_or pulse x.latch else x.latch) else outside

-- the level of the pin of a number, with the output of the pulse channel that names it
abbrev pub level_at : World → PortState → ℕ → (pulse : Option Bool) → Bool
level_at w s p pulse = level_of (pin_at s p) (w.levels p) pulse

-- ---- what a call does

-- without an error
abbrev pub work : PortTable → PortState → Call → PortState
work d s Init = record { initialised = true; changes = Configured d.pins ∷ s.changes }
work d s RefreshPortDirection = with_change s (Refreshed d.pins)
work d s (calls.Pin p call) = with_change s (Set p (changed call (pin_at s p)))

-- an error changes nothing
abbrev pub acts_by : PortTable → PortState → Call → Option ErrorName → Outcome PortState
acts_by d s call None = outcome (work d s call) tells_nothing
acts_by d s call (Some e) = outcome s (tells_error no_answer e)

-- what a call does, by its first error that holds
abbrev pub acts : PortTable → PortState → Call → Outcome PortState
acts d s call = acts_by d s call (error_by d call (not s.initialised))

-- ---- the machine

-- what happens: the module has no line and no unit
abbrev pub happens : PortTable → World → PortState → Happening Call → Option (Outcome PortState)
happens d w s (Acts call times) = Some (acts d s call)
happens d w s (Serves line received) = None
happens d w s (Starts u made_by received) = None
happens d w s (Aborts u) = None
happens d w s (Moves order) = Some (outcome s tells_nothing)
happens d w s (Restarts reason) = Some (outcome first_state tells_nothing)

-- The machine of the pins under a configuration. It leaves the peripheral rate alone.
abbrev pub port_machine : PortTable → Machine PortState Call
port_machine d = record {
  happens = happens d;
  ready = λ w s line. false;
  due = λ w s line. false;
  startable = λ w s u. false;
  line_waits = λ w s line. false;
  rate = λ s. 1;
  service_of = service_of;
  expires = λ w s. None;
  reporting = λ call. reporting d;
  polls = λ w s call. [];
}
