-- Lines, the bounds of frames, what frames may name, what stands in the pins, and what a run of the module is over.
use Rattle.std.specs.Prelude.{◌≡◌, ℕ, zero, suc, ◌+◌, ◌*◌, ◌/◌, ◌%◌, ◌<◌, ◌==◌, nat_lt, Bool, true, false, not, ◌&&◌, ◌||◌, sum_by, List, [], ◌∷◌, ◌++◌, length, Option, Some, None, is_some}
use Rattle.std.specs.List.{list_any}
use Rattle.chip_blocks.specs.units.Pins as pins
use Rattle.mcal_base.specs.Bits.{bit_of, has_bit}
use Rattle.mcal_base.specs.declared.module_name.ModuleName.{ModuleName}
use Rattle.mcal_base.specs.declared.module_name.ModuleName.TheVariants.{Port}
use Rattle.mcal_base.specs.declared.moves.Move.{Move}
use Rattle.mcal_base.specs.declared.moves.Move.TheVariants.{Read, Write, Load, Store}
use Rattle.mcal_base.specs.declared.register.Reg.{Reg}
use Rattle.mcal_base.specs.declared.register.Reg.TheVariants.{PinDirectionSet, PinDirectionClear, PinOutSet, PinOutClear, PinMode, PortPut, PinFlip}
use Rattle.run_model.specs.Causes.{is_exclusive}
use Rattle.run_model.specs.Frame.{Origin, Called, Entered}
use Rattle.run_model.specs.Moment.{Setting}
use Rattle.mcal_base.specs.There.{names_there}
use Rattle.module_machines.specs.port.Machine.{PinState, PortState, pin_at, first_state, is_out, port_machine}
use Rattle.module_machines.specs.port.Table.{pin_of}
use Rattle.module_machines.specs.declared.port.call.Call.{Call}
use Rattle.module_machines.specs.declared.port.call.Call.TheVariants.{Init, RefreshPortDirection}
use Rattle.module_machines.specs.declared.port.call.Call.TheVariants as calls
use Rattle.module_machines.specs.declared.port.table.Pin.{Pin}
use Rattle.module_machines.specs.declared.port.table.PortTable.{PortTable}
use Rattle.module_machines.specs.port.Classes.{class_of}

-- ---- lines

-- the module uses no line
abbrev pub level_of : (line : ℕ) → ℕ
level_of line = 1

abbrev pub owner_of : (line : ℕ) → ModuleName
owner_of line = Port

-- ---- bounds

-- how many pins are configured
abbrev pub counted : Option Pin → ℕ
counted k = bit_of (is_some k)

abbrev pub pin_count : PortTable → ℕ
pin_count d = sum_by counted d.pins

-- the most steps of a call's frame: of `Port_Init` 48 more for each configured pin
abbrev pub call_steps : PortTable → Call → ℕ
call_steps d Init = 64 + 48 * pin_count d
call_steps d _ = 64

abbrev pub steps_of : PortTable → Origin Call → ℕ
steps_of d (Called call) = call_steps d call
steps_of d (Entered line) = 64

-- the most moves of a frame's window
abbrev pub window_of : Origin Call → ℕ
window_of origin = 32

-- a register of the pins, also those that a guest names
abbrev pub is_register : Reg → Bool
is_register (PinDirectionSet half) = true
is_register (PinDirectionClear half) = true
is_register (PinOutSet half) = true
is_register (PinOutClear half) = true
is_register (PinMode p) = true
is_register (PortPut q) = true
is_register (PinFlip p) = true
is_register _ = false

-- a driver word of the module, which uses 64
abbrev pub is_own_word : ℕ → Bool
is_own_word k = not (nat_lt k 8192) && nat_lt k 8256

-- the move names a register or a word of the module
abbrev pub owns : Move → Bool
owns (Read r) = is_register r
owns (Write r v) = is_register r
owns (Load k) = is_own_word k
owns (Store k v) = is_own_word k
owns _ = false

-- the move is a guest's: it puts a word to a port, or inverts a latch
abbrev pub is_guests : Move → Bool
is_guests (Write (PortPut q) v) = true
is_guests (Read (PinFlip p)) = true
is_guests _ = false

-- the move names what is the module's and is there, and isn't a guest's
abbrev pub may : Move → Bool
may made = owns made && (not (is_guests made) && names_there made)

-- the move sets latches or clears them
abbrev pub writes_latches : Move → Bool
writes_latches (Write (PinOutSet half) v) = true
writes_latches (Write (PinOutClear half) v) = true
writes_latches _ = false

-- the frame is of `Port_Init`
abbrev pub is_of_init : Origin Call → Bool
is_of_init (Called Init) = true
is_of_init _ = false

-- a move that a frame of the module may make: one of `Port_Init` alone writes latches
abbrev pub port_may : Origin Call → Move → Bool
port_may origin made = may made && (is_of_init origin || not (writes_latches made))

-- ---- what a call owes

-- the move sets the pin's latch where it is to be high, and clears it where it is to be low
abbrev pub puts_latch : (high : Bool) → (p : ℕ) → Move → Bool
puts_latch high p (Write (PinOutSet half) v) = high && (half == p / 32 && has_bit v (p % 32))
puts_latch high p (Write (PinOutClear half) v) = not high && (half == p / 32 && has_bit v (p % 32))
puts_latch high p _ = false

abbrev pub latch_duty : (p : ℕ) → Option Pin → List (Move → Bool)
latch_duty p None = []
latch_duty p (Some k) = puts_latch k.level_high p ∷ []

-- the latch of each configured pin below n
unfoldable pub latch_duties : PortTable → (n : ℕ) → List (Move → Bool)
latch_duties d zero = []
latch_duties d (suc n) = latch_duty n (pin_of d n) ++ latch_duties d n

-- `Port_Init` writes the latch of each configured pin, in every call
abbrev pub must_by : PortTable → Call → List (Move → Bool)
must_by d Init = latch_duties d 64
must_by d RefreshPortDirection = []
must_by d (calls.Pin p call) = []

-- ---- the pins

-- the chip has a pin as the machine has it
pub record PinAgrees (b : pins.Pins) (p : ℕ) (x : PinState) : Type 0 where
  pub direction : pins.is_out b p ≡ is_out x.direction
  pub mode : pins.mode b p ≡ x.mode
  pub latch : pins.latch b p ≡ x.latch

-- all 64 pins
abbrev pub PinsAgree : pins.Pins → PortState → Type 0
PinsAgree b s = (p : ℕ) → p < 64 → PinAgrees b p (pin_at s p)

-- the frame is of a call about all pins, beside which no other of the module runs
abbrev pub is_alone : Origin Call → Bool
is_alone (Called call) = is_exclusive (class_of call).kind
is_alone (Entered line) = false

-- the pins are the machine's while no such frame is under way, and the block has the latches of both halves
abbrev pub PinsStand : pins.Pins → PortState → List (Origin Call) → Type 0
PinsStand b s origins = list_any is_alone origins ≡ false → PinsAgree b s × (length b.latches ≡ 2)

-- ---- the setting

-- what a run of the module is over
abbrev pub port_setting : PortTable → Setting PortState Call
port_setting d = record {
  machine = port_machine d;
  first = first_state;
  class_of = class_of;
  level_of = level_of;
  owner_of = owner_of;
  used = λ l. false;
  steps_of = steps_of d;
  window_of = window_of;
  may = port_may;
  halves = λ call. None;
  must = must_by d;
  fills = λ c. false;
  in_use = λ w s c. false;
  rest = λ chip w s. PinsAgree chip.pins s;
  unmasked = λ chip w s origins. PinsStand chip.pins s origins;
  shows = λ origin n chip s. Unit {0};
}
