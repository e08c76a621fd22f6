-- What frames of the module may do, and what a run of the module is over.
use Rattle.std.specs.Prelude.{◌≡◌, ℕ, ◌+◌, ◌-◌, ◌*◌, ◌/◌, ◌%◌, ◌<◌, ◌==◌, nat_lt, Bool, true, false, ◌&&◌, ◌||◌, not, [], Option, Some, None, is_some, IsSome}
use Rattle.chip_model.specs.Chip.{Chip, word_of}
use Rattle.mcal_base.specs.Bits.{bit_of}
use Rattle.mcal_base.specs.Layout.{is_within, own_start, place_of}
use Rattle.mcal_base.specs.declared.layout.Array.TheVariants.{Stamps}
use Rattle.mcal_base.specs.declared.layout.TheConstants.{STAMPS}
use Rattle.mcal_base.specs.declared.module_name.ModuleName.{ModuleName}
use Rattle.mcal_base.specs.declared.module_name.ModuleName.TheVariants.{Icu}
use Rattle.mcal_base.specs.declared.moves.Move.{Move}
use Rattle.mcal_base.specs.declared.moves.Move.TheVariants.{Read, Write, Load, Store}
use Rattle.mcal_base.specs.declared.register.Reg.{Reg}
use Rattle.mcal_base.specs.declared.register.Reg.TheVariants.{EnableSet, EnableClear, CaptureCondition, CaptureMode, CaptureGateSet, CaptureGateClear, CaptureCountLow, CaptureCountHigh, CaptureZero, CaptureTimeLow, CaptureTimeHigh, CaptureInfo, CapturePop, CaptureFlush}
use Rattle.run_model.specs.Frame.{Origin, Called}
use Rattle.run_model.specs.Moment.{Halves, Setting}
use Rattle.mcal_base.specs.There.{names_there}
use Rattle.module_machines.specs.icu.Machine.{IcuState, first_state, icu_machine}
use Rattle.module_machines.specs.icu.Table.{channel_of, channel_of_line}
use Rattle.module_machines.specs.declared.icu.call.Call.{Call}
use Rattle.module_machines.specs.declared.icu.call.Call.TheVariants.{Init, DeInit, Channel}
use Rattle.module_machines.specs.declared.icu.call.ChannelCall.TheVariants.{GetEdgeNumbers}
use Rattle.module_machines.specs.declared.icu.table.Channel as configured
use Rattle.module_machines.specs.declared.icu.table.IcuTable.{IcuTable}
use Rattle.module_machines.specs.icu.Classes.{class_of}
use Rattle.module_machines.specs.icu.Shown.{stamp_at}

-- ---- lines

-- the level of a line, 1 where no configured channel uses it
abbrev pub level_by : Option configured.Channel → ℕ
level_by None = 1
level_by (Some k) = k.level

abbrev pub level_of : IcuTable → ℕ → ℕ
level_of d l = level_by (channel_of_line d l)

abbrev pub owner_of : ℕ → ModuleName
owner_of l = Icu

-- ---- steps and windows

-- the number of configured channels
abbrev pub counted : IcuTable → ℕ → ℕ
counted d c = bit_of (is_some (channel_of d c))

abbrev pub channel_count : IcuTable → ℕ
channel_count d = counted d 0 + counted d 1 + counted d 2 + counted d 3 + counted d 4 + counted d 5 + counted d 6 + counted d 7

-- the most steps of a frame: of a call about the whole module 48 more for each configured channel
abbrev pub whole_steps : IcuTable → ℕ
whole_steps d = 64 + 48 * channel_count d

abbrev pub steps_of : IcuTable → Origin Call → ℕ
steps_of d (Called Init) = whole_steps d
steps_of d (Called DeInit) = whole_steps d
steps_of d _ = 64

-- the most moves of a window
abbrev pub window_of : Origin Call → ℕ
window_of o = 32

-- the halves of the counter that a call reads
abbrev pub halves : Call → Option Halves
halves (Channel c GetEdgeNumbers) = Some (record { low = CaptureCountLow c; high = CaptureCountHigh c })
halves _ = None

-- ---- what a frame may name

-- a register of the capture channels
abbrev pub is_capture : Reg → Bool
is_capture (CaptureCondition c) = true
is_capture (CaptureMode c) = true
is_capture CaptureGateSet = true
is_capture CaptureGateClear = true
is_capture (CaptureCountLow c) = true
is_capture (CaptureCountHigh c) = true
is_capture (CaptureZero c) = true
is_capture (CaptureTimeLow c) = true
is_capture (CaptureTimeHigh c) = true
is_capture (CaptureInfo c) = true
is_capture (CapturePop c) = true
is_capture (CaptureFlush c) = true
is_capture _ = false

-- the value has bits of lines 16 to 23, and of no other
abbrev pub is_for_lines : ℕ → Bool
is_for_lines v = not (v == 0) && (v % 65536 == 0 && nat_lt v 16777216)

-- a register of the module, or a value for lines of the module alone
abbrev pub may_write : Reg → ℕ → Bool
may_write EnableSet v = is_for_lines v
may_write EnableClear v = is_for_lines v
may_write r v = is_capture r

-- a driver word of the module: it has 64, and 32 more for each configured channel
abbrev pub is_own_word : IcuTable → ℕ → Bool
is_own_word d k = is_within (own_start Icu) (64 + 32 * channel_count d) k

-- a place of the stamps of a configured channel
abbrev pub is_stamp : IcuTable → ℕ → Bool
is_stamp d k = not (nat_lt k STAMPS) && is_some (channel_of d ((k - STAMPS) / 64))

abbrev pub may_name : IcuTable → Move → Bool
may_name d (Read r) = is_capture r
may_name d (Write r v) = may_write r v
may_name d (Load k) = is_own_word d k || is_stamp d k
may_name d (Store k v) = is_own_word d k || is_stamp d k
may_name d _ = false

-- a move that a frame of the module may make: it names what is the module's and is there
abbrev pub icu_may : IcuTable → Move → Bool
icu_may d made = may_name d made && names_there made

-- ---- the stamps, which users see

-- the words of a channel's stamps are the machine's
abbrev pub HasStamps : Chip → IcuState → (channel : ℕ) → Type 0
HasStamps chip s c = (i : ℕ) → i < 64 → word_of chip (place_of (Stamps c) i) ≡ stamp_at s c i

-- ---- the setting

-- what a run of the module is over
abbrev pub icu_setting : IcuTable → Setting IcuState Call
icu_setting d = record {
  machine = icu_machine d;
  first = first_state;
  class_of = class_of;
  level_of = level_of d;
  owner_of = owner_of;
  used = λ l. is_some (channel_of_line d l);
  steps_of = steps_of d;
  window_of = window_of;
  may = λ o made. icu_may d made;
  halves = halves;
  must = λ call. [];
  fills = λ c. false;
  in_use = λ w s c. false;
  rest = λ chip w s. (c : ℕ) → IsSome (channel_of d c) → HasStamps chip s c;
  unmasked = λ chip w s origins. Unit {0};
  shows = λ origin n chip s. IsSome (channel_of d n.id) → HasStamps chip s n.id;
}
