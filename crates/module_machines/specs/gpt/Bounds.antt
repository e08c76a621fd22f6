-- The bounds of frames, what frames may name, and what a run of the module is over.
use Rattle.std.specs.Prelude.{ℕ, ◌+◌, ◌*◌, ◌%◌, ◌==◌, nat_lt, Bool, true, false, ◌&&◌, ◌||◌, not, [], Option, Some, None, is_some}
use Rattle.mcal_base.specs.Bits.{bit_of}
use Rattle.mcal_base.specs.declared.module_name.ModuleName.TheVariants.{Gpt}
use Rattle.mcal_base.specs.declared.moves.Move.{Move}
use Rattle.mcal_base.specs.declared.moves.Move.TheVariants.{Read, Write, Load, Store}
use Rattle.mcal_base.specs.declared.register.Reg.{Reg}
use Rattle.mcal_base.specs.declared.register.Reg.TheVariants.{EnableSet, EnableClear, TimerTarget, TimerPrescaler, TimerOneShot, TimerGateSet, TimerGateClear, TimerRun, TimerFlags, TimerZero, TimerLow, TimerHigh}
use Rattle.run_model.specs.Frame.{Origin, Called}
use Rattle.run_model.specs.Moment.{Halves, Setting}
use Rattle.mcal_base.specs.There.{names_there}
use Rattle.module_machines.specs.gpt.Machine.{GptState, first_state, gpt_machine}
use Rattle.module_machines.specs.gpt.Table.{channel_of}
use Rattle.module_machines.specs.gpt.Classes.{class_of}
use Rattle.module_machines.specs.declared.gpt.call.Call.{Call}
use Rattle.module_machines.specs.declared.gpt.call.Call.TheVariants.{Init, DeInit, Channel}
use Rattle.module_machines.specs.declared.gpt.call.ChannelCall.TheVariants.{GetTimeElapsed, GetTimeRemaining}
use Rattle.module_machines.specs.declared.gpt.table.Channel as configured
use Rattle.module_machines.specs.declared.gpt.table.GptTable.{GptTable}

-- the level of a channel's line
abbrev pub level_by : Option configured.Channel → ℕ
level_by None = 1
level_by (Some k) = k.level

-- a timer register
abbrev pub is_timer : Reg → Bool
is_timer (TimerTarget c) = true
is_timer (TimerPrescaler c) = true
is_timer TimerOneShot = true
is_timer TimerGateSet = true
is_timer TimerGateClear = true
is_timer TimerRun = true
is_timer TimerFlags = true
is_timer TimerZero = true
is_timer (TimerLow c) = true
is_timer (TimerHigh c) = true
is_timer _ = false

-- the value has a bit of a timer line, or one past those of a register
abbrev pub has_lines : ℕ → Bool
has_lines v = not (v % 256 == 0) || not (nat_lt v 4294967296)

-- a register of the module, or a value that names a line of the module
abbrev pub owns_written : Reg → ℕ → Bool
owns_written EnableSet v = has_lines v
owns_written EnableClear v = has_lines v
owns_written r v = is_timer r

-- a driver word of the module, which has 64
abbrev pub is_own_word : ℕ → Bool
is_own_word k = not (nat_lt k 16384) && nat_lt k 16448

-- the move names a register, a line or a word of the module
abbrev pub gpt_owns : Move → Bool
gpt_owns (Read r) = is_timer r
gpt_owns (Write r v) = owns_written r v
gpt_owns (Load k) = is_own_word k
gpt_owns (Store k v) = is_own_word k
gpt_owns _ = false

-- the value has bits of timer lines, and of no other
abbrev pub is_for_lines : ℕ → Bool
is_for_lines v = not (v == 0) && nat_lt v 256

-- a register of the module, or a value for lines of the module alone
abbrev pub may_write : Reg → ℕ → Bool
may_write EnableSet v = is_for_lines v
may_write EnableClear v = is_for_lines v
may_write r v = is_timer r

abbrev pub may_name : Move → Bool
may_name (Write r v) = may_write r v
may_name made = gpt_owns made

-- a move that a frame of the module may make: it names what is the module's and is there
abbrev pub gpt_may : Move → Bool
gpt_may made = may_name made && names_there made

-- the halves of the counter that a call reads
abbrev pub halves : Call → Option Halves
halves (Channel c GetTimeElapsed) = Some (record { low = TimerLow c; high = TimerHigh c })
halves (Channel c GetTimeRemaining) = Some (record { low = TimerLow c; high = TimerHigh c })
halves _ = None

-- the number of configured channels
abbrev pub counted : GptTable → ℕ → ℕ
counted d c = bit_of (is_some (channel_of d c))

abbrev pub channel_count : GptTable → ℕ
channel_count d = counted d 0 + counted d 1 + counted d 2 + counted d 3 + counted d 4 + counted d 5 + counted d 6 + counted d 7

-- the most steps of a frame: of a call about the whole module 48 more for each configured channel
abbrev pub whole_steps : GptTable → ℕ
whole_steps d = 64 + 48 * channel_count d

abbrev pub gpt_steps : GptTable → Origin Call → ℕ
gpt_steps d (Called Init) = whole_steps d
gpt_steps d (Called DeInit) = whole_steps d
gpt_steps d _ = 64

-- what a run of the module is over
abbrev pub gpt_setting : GptTable → Setting GptState Call
gpt_setting d = record {
  machine = gpt_machine d;
  first = first_state;
  class_of = class_of;
  level_of = λ l. level_by (channel_of d l);
  owner_of = λ l. Gpt;
  used = λ l. is_some (channel_of d l);
  steps_of = gpt_steps d;
  window_of = λ o. 32;
  may = λ o made. gpt_may made;
  halves = halves;
  must = λ call. [];
  fills = λ c. false;
  in_use = λ w s c. false;
  rest = λ chip w s. Unit {0};
  unmasked = λ chip w s origins. Unit {0};
  shows = λ origin n chip s. Unit {0};
}
