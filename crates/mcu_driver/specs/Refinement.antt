-- What frames hold, and how words and registers stand for the machine's state.
use Rattle.std.specs.Prelude.{◌≡◌, ℕ, ◌+◌, ◌<◌, ◌≤◌, nat_lt, Bool, true, false, ◌&&◌, List, [], ◌∷◌, Option, Some, None, slice_index, if◌then◌else◌}
use Rattle.chip_model.specs.Chip.{Chip, word_of}
use Rattle.chip_model.specs.Histories.{HasAll}
use Rattle.chip_blocks.specs.units.Clock.{Clock}
use Rattle.chip_blocks.specs.declared.units.clock.Pll as chips
use Rattle.run_model.specs.World.{World}
use Rattle.run_model.specs.Frame.{Called}
use Rattle.service_outline.specs.Services.{ReservedBy, SharedRefinement}
use Rattle.module_machines.specs.mcu.Bounds.{owns, mcu_setting}
use Rattle.module_machines.specs.mcu.Machine.{Pll, McuState, ram_at}
use Rattle.module_machines.specs.mcu.Table.{section_of, is_within}
use Rattle.module_machines.specs.declared.mcu.call.Call.{Call}
use Rattle.module_machines.specs.declared.mcu.call.Call.TheVariants.{InitRamSection}
use Rattle.module_machines.specs.declared.mcu.table.McuTable.{McuTable}
use Rattle.module_machines.specs.declared.mcu.table.Section.{Section}
use Rattle.mcu_driver.specs.declared.words.TheConstants.{STATE, MODE}

-- ---- what is held

-- so many words of a section, from its first one on, have its default value already
pub record Part : Type 0 where
  pub section : ℕ
  pub upto : ℕ

abbrev pub Reservations : Type 0
Reservations = List (ReservedBy Call Part)

-- the word is one of the first so many of the section
abbrev pub is_done : Section → (upto k : ℕ) → Bool
is_done x i k = is_within x k && nat_lt k (x.base + i)

-- what a RAM word holds, where it held this but for one frame, and with all that is held
abbrev pub done_by : Option Section → (upto old k : ℕ) → ℕ
done_by None i old k = old
done_by (Some x) i old k = if is_done x i k then x.default_value else old

abbrev pub want : McuTable → Reservations → (ℕ → ℕ) → ℕ → ℕ
want d [] f k = f k
want d (h ∷ hs) f k = done_by (section_of d h.what.section) h.what.upto (want d hs f k) k

-- a section is held by the call that fills it, of an initialised module
abbrev pub AllRight : (on : Bool) → Reservations → Type 0
AllRight on [] = Unit {0}
AllRight on (h ∷ hs) = (h.by ≡ Called (InitRamSection h.what.section)) × (on ≡ true) × AllRight on hs

-- ---- the clock and the words

abbrev pub pll_of : Option Pll → Option chips.Pll
pll_of None = None
pll_of (Some p) = Some (record { multiplier = p.multiplier; started = p.started })

abbrev pub clock_of : World → McuState → Clock
clock_of w s = record { osc = w.osc; pll = pll_of s.pll; rate = s.rate; reason = s.reason }

-- neither the rate nor the multiplier is above 16
abbrev pub IsSlowPll : Option Pll → Type 0
IsSlowPll None = Unit {0}
IsSlowPll (Some p) = p.multiplier ≤ 16

abbrev pub state_word : Bool → ℕ
state_word false = 0
state_word true = 1

abbrev pub mode_word : Option ℕ → ℕ
mode_word None = 0
mode_word (Some m) = m

-- ---- the agreement

-- at every step, in windows too, the clock block is the machine's, and so are the RAM words but for those that frames are filling
pub record McuRepresents (d : McuTable) (held : Reservations) (chip : Chip) (w : World) (s : McuState) : Type 0 where
  pub right : AllRight s.initialised held
  pub all : HasAll chip
  pub clock : chip.clock ≡ clock_of w s
  pub rate : s.rate ≤ 16
  pub pll : IsSlowPll s.pll
  pub state : word_of chip STATE ≡ state_word s.initialised
  pub mode : word_of chip MODE ≡ mode_word s.mode
  pub ram : (k : ℕ) → k < 512 → slice_index chip.ram k ≡ want d held (ram_at s) k

-- what all services of the driver stand on; nothing is ever under work
abbrev pub mcu_basis : McuTable → SharedRefinement McuState Call
mcu_basis d = record {
  setting = mcu_setting d;
  wired = λ chip. Unit {0};
  lines = λ l. false;
  watches = false;
  owns = λ o made. owns made;
  count = λ s. 0;
  later = λ w s order. s;
  Lag = Unit {0};
  settled = tt;
  Reservation = Part;
  represents = λ held gap chip w s. McuRepresents d held chip w s;
  Footprint = Unit {0};
  foot = λ chip. tt;
}
