-- Lines, the bounds of frames, what frames may name, what stands in RAM, and what a run of the module is over.
use Rattle.std.specs.Prelude.{◌≡◌, ℕ, ◌+◌, ◌*◌, ◌<◌, nat_lt, Bool, true, false, ◌&&◌, List, [], Option, Some, None, is_some, slice_index}
use Rattle.mcal_base.specs.Bits.{bit_of}
use Rattle.mcal_base.specs.declared.module_name.ModuleName.{ModuleName}
use Rattle.mcal_base.specs.declared.module_name.ModuleName.TheVariants.{Mcu}
use Rattle.mcal_base.specs.declared.moves.Move.{Move}
use Rattle.mcal_base.specs.declared.moves.Move.TheVariants.{Read, Write, Load, Store}
use Rattle.mcal_base.specs.declared.register.Reg.{Reg}
use Rattle.mcal_base.specs.declared.register.Reg.TheVariants.{ClockPll, ClockLock, ClockRate, ResetReason, ResetRequest, Ram}
use Rattle.run_model.specs.Frame.{Origin, Called, Entered}
use Rattle.run_model.specs.Moment.{Setting}
use Rattle.mcal_base.specs.There.{names_there}
use Rattle.module_machines.specs.mcu.Machine.{McuState, first_state, ram_at, mcu_machine}
use Rattle.module_machines.specs.mcu.Table.{multiplier_of, has_mode, section_of}
use Rattle.module_machines.specs.declared.mcu.call.Call.{Call}
use Rattle.module_machines.specs.declared.mcu.call.Call.TheVariants.{Init, InitRamSection}
use Rattle.module_machines.specs.declared.mcu.table.McuTable.{McuTable}
use Rattle.module_machines.specs.declared.mcu.table.Section.{Section}
use Rattle.module_machines.specs.mcu.Classes.{class_of}

-- ---- lines

-- the module uses no line
abbrev pub level_of : (line : ℕ) → ℕ
level_of line = 1

abbrev pub owner_of : (line : ℕ) → ModuleName
owner_of line = Mcu

-- ---- bounds

-- how many clock settings, modes and sections are configured with this number
abbrev pub counted : McuTable → ℕ → ℕ
counted d n = bit_of (is_some (multiplier_of d n)) + bit_of (has_mode d n) + bit_of (is_some (section_of d n))

-- the configured objects
abbrev pub object_count : McuTable → ℕ
object_count d = counted d 0 + counted d 1 + counted d 2 + counted d 3 + counted d 4 + counted d 5 + counted d 6 + counted d 7

-- the words of a section
abbrev pub size_of : Option Section → ℕ
size_of None = 0
size_of (Some x) = x.size

-- the most steps of a call's frame: of `Mcu_Init` 48 more for each configured object, and for a section 32 and 2 for each word
abbrev pub call_steps : McuTable → Call → ℕ
call_steps d Init = 64 + 48 * object_count d
call_steps d (InitRamSection n) = 32 + 2 * size_of (section_of d n)
call_steps d _ = 64

abbrev pub steps_of : McuTable → Origin Call → ℕ
steps_of d (Called call) = call_steps d call
steps_of d (Entered line) = 64

-- the most moves of a frame's window
abbrev pub window_of : Origin Call → ℕ
window_of origin = 32

-- a register of the clock, of resets or of RAM
abbrev pub is_register : Reg → Bool
is_register ClockPll = true
is_register ClockLock = true
is_register ClockRate = true
is_register ResetReason = true
is_register ResetRequest = true
is_register (Ram k) = true
is_register _ = false

-- a driver word of the module, which uses 64
abbrev pub is_own_word : ℕ → Bool
is_own_word k = nat_lt k 64

-- the move names a register or a word of the module
abbrev pub owns : Move → Bool
owns (Read r) = is_register r
owns (Write r v) = is_register r
owns (Load k) = is_own_word k
owns (Store k v) = is_own_word k
owns _ = false

-- a move that a frame of the module may make: it names what is the module's and is there
abbrev pub may : Move → Bool
may made = owns made && names_there made

-- ---- what stands in RAM

-- the chip's 512 RAM words are the machine's
abbrev pub RamAgrees : (words : List ℕ) → McuState → Type 0
RamAgrees words s = (k : ℕ) → k < 512 → slice_index words k ≡ ram_at s k

-- ---- the setting

-- what a run of the module is over
abbrev pub mcu_setting : McuTable → Setting McuState Call
mcu_setting d = record {
  machine = mcu_machine d;
  first = first_state;
  class_of = class_of;
  level_of = level_of;
  owner_of = owner_of;
  used = λ l. false;
  steps_of = steps_of d;
  window_of = window_of;
  may = λ o made. may made;
  halves = λ call. None;
  must = λ call. [];
  fills = λ c. false;
  in_use = λ w s c. false;
  rest = λ chip w s. RamAgrees chip.ram s;
  unmasked = λ chip w s origins. Unit {0};
  shows = λ origin n chip s. Unit {0};
}
