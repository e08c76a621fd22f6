-- How the pins' registers and the driver word stand for the machine's state, also while Port_Init writes them.
use Rattle.std.specs.Prelude.{◌≡◌, ℕ, ◌+◌, ◌*◌, ◌/◌, ◌-◌, ◌<◌, nat_lt, min, Bool, false, not, List, [], ◌∷◌, length, Option, Some, None, if◌then◌else◌}
use Rattle.chip_model.specs.Chip.{Chip, word_of}
use Rattle.chip_model.specs.Histories.{HasAll}
use Rattle.chip_blocks.specs.units.Pins as pins
use Rattle.mcal_base.specs.Bits.{bit_of}
use Rattle.mcal_base.specs.declared.config.port.PortPinMode.{PortPinMode}
use Rattle.run_model.specs.World.{World}
use Rattle.run_model.specs.Frame.{Called}
use Rattle.service_outline.specs.Services.{ReservedBy, SharedRefinement}
use Rattle.module_machines.specs.port.Bounds.{owns, port_setting}
use Rattle.module_machines.specs.port.Machine.{PortState, pin_at, is_out}
use Rattle.module_machines.specs.port.Table.{pin_of}
use Rattle.port_driver.specs.Writes.{wants, configured, rank_of}
use Rattle.module_machines.specs.declared.port.call.Call.{Call}
use Rattle.module_machines.specs.declared.port.call.Call.TheVariants.{Init}
use Rattle.module_machines.specs.declared.port.table.Pin.{Pin}
use Rattle.module_machines.specs.declared.port.table.PortTable.{PortTable}
use Rattle.port_driver.specs.declared.words.TheConstants.{STATE}
use Rattle.port_driver.specs.declared.writes.Side.TheVariants.{Levels, Directions, Fixed}

-- ---- what is held

-- how many of its writes Port_Init has made: of levels, of modes, and of directions
pub record Written : Type 0 where
  pub levels : ℕ
  pub modes : ℕ
  pub directions : ℕ

abbrev pub nothing_written : Written
nothing_written = record { levels = 0; modes = 0; directions = 0 }

-- after so many of all
abbrev pub written : PortTable → ℕ → Written
written d i = record { levels = min i 4; modes = min (i - 4) (configured d); directions = i - (4 + configured d) }

abbrev pub Reservations : Type 0
Reservations = List (ReservedBy Call Written)

abbrev pub written_in : Reservations → Written
written_in [] = nothing_written
written_in (h ∷ hs) = h.what

-- Port_Init alone holds anything, and beside it nothing of the module does
abbrev pub HeldRight : Reservations → Type 0
HeldRight [] = Unit {0}
HeldRight (h ∷ hs) = (h.by ≡ Called Init) × (hs ≡ [])

-- nothing is held
pub data Alone : Reservations → Type 0 where
  Is_alone : Alone []

-- ---- what has been written

-- which of the four writes by halves has the pin's bit, where it is to be so
abbrev pub turn : (p : ℕ) → Bool → ℕ
turn p high = 2 * (p / 32) + bit_of (not high)

-- a pin's bit after so many of the four, where it was this
abbrev pub put : Option Bool → (p made : ℕ) → (old : Bool) → Bool
put None p made old = old
put (Some high) p made old = if nat_lt (turn p high) made then high else old

-- a pin's mode after so many writes of modes, by its rank
abbrev pub put_mode : Option Pin → (rank made : ℕ) → (old : PortPinMode) → PortPinMode
put_mode None rank made old = old
put_mode (Some k) rank made old = if nat_lt rank made then k.initial_mode else old

-- ---- the agreement

-- the latches, the modes and the directions are the machine's, but for what has been written; of the directions that
-- may not change so many writes of a refresh are made
abbrev pub LatchesAgree : PortTable → (made : ℕ) → pins.Pins → PortState → Type 0
LatchesAgree d made b s = (p : ℕ) → p < 64 → pins.latch b p ≡ put (wants d Levels p) p made (pin_at s p).latch

abbrev pub ModesAgree : PortTable → (made : ℕ) → pins.Pins → PortState → Type 0
ModesAgree d made b s = (p : ℕ) → p < 64 → pins.mode b p ≡ put_mode (pin_of d p) (rank_of d p) made (pin_at s p).mode

abbrev pub DirectionsAgree : PortTable → (made refreshed : ℕ) → pins.Pins → PortState → Type 0
DirectionsAgree d made refreshed b s = (p : ℕ) → p < 64 → pins.is_out b p ≡ put (wants d Fixed p) p refreshed (put (wants d Directions p) p made (is_out (pin_at s p).direction))

-- the block has two halves of bits, and 64 modes
pub record IsWhole (b : pins.Pins) : Type 0 where
  pub out : length b.out ≡ 2
  pub latches : length b.latches ≡ 2
  pub modes : length b.modes ≡ 64

-- the pins and the word agree with the state and with what is held, but for what a refresh has under work
pub record PortRepresents (d : PortTable) (held : Reservations) (refreshed : ℕ) (chip : Chip) (w : World) (s : PortState) : Type 0 where
  pub right : HeldRight held
  pub all : HasAll chip
  pub whole : IsWhole chip.pins
  pub word : word_of chip STATE ≡ bit_of s.initialised
  pub latches : LatchesAgree d (written_in held).levels chip.pins s
  pub modes : ModesAgree d (written_in held).modes chip.pins s
  pub directions : DirectionsAgree d (written_in held).directions refreshed chip.pins s

-- what all services of the driver stand on
abbrev pub port_basis : PortTable → SharedRefinement PortState Call
port_basis d = record {
  setting = port_setting d;
  wired = λ chip. Unit {0};
  lines = λ l. false;
  watches = false;
  owns = λ o made. owns made;
  count = λ s. 0;
  later = λ w s order. s;
  -- how many writes of a refresh are made
  Lag = ℕ;
  settled = 0;
  Reservation = Written;
  represents = PortRepresents d;
  Footprint = Unit {0};
  foot = λ chip. tt;
}
