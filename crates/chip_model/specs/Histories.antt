-- What happens to a chip, and what of it leaves a part of the chip alone.
use Rattle.std.specs.Prelude.{ℕ, ◌≡◌, ◌≢◌, ◌<◌, ◌≤◌, ◌+◌, ◌++◌, ◌==◌, ◌&&◌, not, Bool, true, false, List, [], ◌∷◌, length, take, if◌then◌else◌}
use Rattle.mcal_base.specs.declared.TheConstants.{WORDS}
use Rattle.mcal_base.specs.declared.config.whole.Config.{Config}
use Rattle.mcal_base.specs.declared.directive.Order.{Order}
use Rattle.mcal_base.specs.declared.directive.Order.TheVariants.{Level, Miso, Detach, Fill}
use Rattle.mcal_base.specs.declared.directive.Reason.{Reason}
use Rattle.mcal_base.specs.declared.moves.Move.{Move}
use Rattle.mcal_base.specs.declared.moves.Move.TheVariants.{Write, Store, Mask, Unmask}
use Rattle.mcal_base.specs.declared.register.Reg.TheVariants.{ClockPll, ClockRate, SerialData, Ram}
use Rattle.chip_model.specs.Chip.{Chip, power_on, hung, chip_after, happened, reset_chip, source_length, incoming_at, has_device}

-- ---- histories

-- What happens to a chip: a move with the word that came in, a hardware event, or a reset.
pub data Happening : Type 0 where
  Made : Move → (received : ℕ) → Happening
  Hardware : Order → Happening
  WasReset : Reason → Happening

-- what it leaves
abbrev pub chip_step : Chip → Happening → Chip
chip_step c (Made made received) = chip_after c made received
chip_step c (Hardware order) = happened c order
chip_step c (WasReset reason) = reset_chip c reason

-- what a list of happenings leaves, the first one first
abbrev pub chip_after_all : Chip → List Happening → Chip
chip_after_all c [] = c
chip_after_all c (x ∷ xs) = chip_after_all (chip_step c x) xs

-- the chip as a history leaves it, from power on with so many devices
abbrev pub chip_of : Config → (room devices : ℕ) → List Happening → Chip
chip_of config room devices history = chip_after_all (hung devices (power_on config room)) history

-- ---- what holds of every chip that a history leaves

-- it has all its driver words, RAM words, pins, timers, analog inputs and serial units, and each source array is
-- within its room
pub record HasAll (c : Chip) : Type 0 where
  pub words : length c.words ≡ WORDS
  pub ram : length c.ram ≡ 512
  pub outside : length c.outside ≡ 64
  pub incoming : length c.incoming ≡ 2
  pub timers : length c.timers.timers ≡ 8
  pub inputs : length c.converters.levels.values ≡ 32
  pub sources : (channel : ℕ) → channel < 16 → source_length c channel ≤ 64

-- all blocks are at one peripheral time
pub record IsAtOneTime (c : Chip) : Type 0 where
  pub pulses : c.pulses.time ≡ c.timers.time
  pub captures : c.captures.time ≡ c.timers.time
  pub converters : c.converters.time ≡ c.timers.time
  pub serials : c.serials.time ≡ c.timers.time

-- fills the array of a channel that there is
abbrev pub FillsThere : Happening → Type 0
FillsThere (Hardware (Fill channel ws)) = channel < 16
FillsThere _ = Unit {0}

-- ---- what leaves a part alone

-- stores to other words only, fills no array, and is no reset
abbrev pub LeavesWord : ℕ → Happening → Type 0
LeavesWord k (Made (Store j value) received) = j ≢ k
LeavesWord k (Hardware (Fill channel ws)) = ⊥
LeavesWord k (WasReset reason) = ⊥
LeavesWord k _ = Unit {0}

-- writes to other RAM words only, and is no reset
abbrev pub LeavesRam : ℕ → Happening → Type 0
LeavesRam k (Made (Write (Ram j) value) received) = j ≢ k
LeavesRam k (WasReset reason) = ⊥
LeavesRam k _ = Unit {0}

-- neither opens nor closes the mask, and is no reset
abbrev pub LeavesMask : Happening → Type 0
LeavesMask (Made Mask received) = ⊥
LeavesMask (Made Unmask received) = ⊥
LeavesMask (WasReset reason) = ⊥
LeavesMask _ = Unit {0}

-- writes the multiplier or the rate of the clock
abbrev pub sets_rate : Move → Bool
sets_rate (Write ClockPll value) = true
sets_rate (Write ClockRate value) = true
sets_rate _ = false

-- sets the levels of other pins only; a reset leaves them
abbrev pub LeavesLevel : ℕ → Happening → Type 0
LeavesLevel p (Hardware (Level q v)) = q ≢ p
LeavesLevel p _ = Unit {0}

-- ---- words that come in on a serial unit

-- the words that a happening gives to a unit
abbrev pub given_by : ℕ → Happening → List ℕ
given_by u (Hardware (Miso k ws)) = if k == u then ws else []
given_by u _ = []

-- the word that waits on a unit and comes in by a happening: none comes in where a device answers
abbrev pub taken_by : ℕ → Chip → Happening → List ℕ
taken_by u c (Made (Write (SerialData k) value) received) = if not (has_device c k) && k == u then take 1 (incoming_at c u).waiting else []
taken_by u c _ = []

-- the words that a history gives to a unit, and those that come in, the first one first
abbrev pub given_to : ℕ → List Happening → List ℕ
given_to u [] = []
given_to u (x ∷ xs) = given_by u x ++ given_to u xs

abbrev pub taken_from : ℕ → Chip → List Happening → List ℕ
taken_from u c [] = []
taken_from u c (x ∷ xs) = taken_by u c x ++ taken_from u (chip_step c x) xs

-- ---- devices that come off

-- how many devices a happening asks to come off, and how many a history
abbrev pub detaches_by : Happening → ℕ
detaches_by (Hardware Detach) = 1
detaches_by _ = 0

abbrev pub detaches_in : List Happening → ℕ
detaches_in [] = 0
detaches_in (x ∷ xs) = detaches_by x + detaches_in xs
