-- How words and registers stand for the machine's state.
use Rattle.std.specs.Prelude.{◌≡◌, ℕ, ◌<◌, ◌^◌, ◌==◌, nat_lt, Bool, true, false, not, Option, Some, None}
use Rattle.chip_model.specs.Chip.{Chip, word_of}
use Rattle.chip_blocks.specs.timers.Timers.{Timers, timer_at, expired_between}
use Rattle.chip_blocks.specs.declared.timers.timer.Count.{Count}
use Rattle.chip_blocks.specs.declared.timers.timer.Count.TheVariants.{Still, Since}
use Rattle.chip_blocks.specs.declared.timers.timer.Timer.{Timer}
use Rattle.mcal_base.specs.Bits.{has_bit}
use Rattle.run_model.specs.World.{World}
use Rattle.run_model.specs.Outside.{StandsIn}
use Rattle.service_outline.specs.Outline.{Refinement}
use Rattle.module_machines.specs.gpt.Machine.{Course, Never, Running, Stopped, Timing, Mode, Off, Normal, Sleep, is_off, GptState, channel_at, untouched, prescaler_of, target_of}
use Rattle.module_machines.specs.gpt.Table.{channel_of, one_shot_of}
use Rattle.gpt_driver.specs.Words.{target_word, switches_word, word_of as packed}
use Rattle.module_machines.specs.declared.gpt.call.Call.{Call}
use Rattle.module_machines.specs.declared.gpt.table.Channel as configured
use Rattle.module_machines.specs.declared.gpt.table.GptTable.{GptTable}
use Rattle.gpt_driver.specs.declared.words.TheConstants.{STATE}
use Rattle.module_machines.specs.gpt.Bounds.{gpt_owns, gpt_setting}

-- ---- what the top frame may have under work

-- what is not yet, or no longer, as the machine has it: timers by channel, words by number, and what all enable bits are, where that isn't what they are to be
pub record Lag : Type 0 where
  pub block : ℕ → Bool
  pub words : ℕ → Bool
  pub lines : Option Bool

abbrev pub none : ℕ → Bool
none k = false

abbrev pub only : ℕ → ℕ → Bool
only j k = k == j

-- nothing is under work, one channel's timer is, one word is behind
abbrev pub settled : Lag
settled = record { block = none; words = none; lines = None }

abbrev pub open_at : ℕ → Lag
open_at c = record settled { block = only c }

abbrev pub behind : ℕ → Lag
behind j = record settled { words = only j }

-- ---- the timer block

-- the counter of a channel
abbrev pub counts : Option configured.Channel → Course → Count
counts k Never = Still 0
counts k (Running s v) = Since (record { start = s; target = v; prescaler = prescaler_of k; one_shot = one_shot_of k })
counts k (Stopped e v) = Still e

-- values fit a register; a channel that was started has a target and a prescaler, and its one-shot bit is as configured
abbrev pub IsSet : Option configured.Channel → (one_shot : Bool) → Course → Type 0
IsSet k bit Never = Unit {0}
IsSet k bit (Running s v) = (0 < v) × (v < 2 ^ 32) × (0 < prescaler_of k) × (bit ≡ one_shot_of k)
IsSet k bit (Stopped e v) = e < 2 ^ 32

-- a timer counts as the machine has it, and the expiries since its flag was cleared are those since the mark was dropped
pub record TimerAgrees (k : Option configured.Channel) (bit : Bool) (t : Timer) (x : Timing) : Type 0 where
  pub count : t.count ≡ counts k x.course
  pub kept : t.kept ≡ false
  pub flag : (now : ℕ) → expired_between t.count t.watched now ≡ expired_between t.count x.dropped now
  pub set : IsSet k bit x.course

abbrev pub BlockAgrees : GptTable → (opened : ℕ → Bool) → Timers → GptState → Type 0
BlockAgrees d opened b s = (c : ℕ) → c < 8 → opened c ≡ false → TimerAgrees (channel_of d c) (has_bit b.one_shot c) (timer_at b c) (channel_at s c)

-- ---- the words

-- the words that the module uses: its number, that it is there, and what stands in it
pub data Word : Type 0 where
  TheState : Word
  TargetOf : ℕ → Word
  SwitchesOf : ℕ → Word

abbrev pub number_of : Word → ℕ
number_of TheState = STATE
number_of (TargetOf c) = target_word c
number_of (SwitchesOf c) = switches_word c

abbrev pub IsWord : Word → Type 0
IsWord TheState = Unit {0}
IsWord (TargetOf c) = c < 8
IsWord (SwitchesOf c) = c < 8

abbrev pub state_word : Mode → ℕ
state_word Off = 0
state_word Normal = 1
state_word Sleep = 2

abbrev pub value_in : GptState → Word → ℕ
value_in s TheState = state_word s.mode
value_in s (TargetOf c) = target_of (channel_at s c).course
value_in s (SwitchesOf c) = packed (channel_at s c).switches

abbrev pub WordsAgree : (behind : ℕ → Bool) → Chip → GptState → Type 0
WordsAgree behind chip s = (x : Word) → IsWord x → behind (number_of x) ≡ false → word_of chip (number_of x) ≡ value_in s x

-- ---- the lines

-- the enable bits of all lines are set while the module is initialised, and clear while it isn't
abbrev pub all_are : Option Bool → Mode → Bool
all_are None m = not (is_off m)
all_are (Some b) m = b

abbrev pub LinesAgree : Option Bool → Mode → (enabled : ℕ) → Type 0
LinesAgree lines m enabled = (c : ℕ) → c < 8 → has_bit enabled c ≡ all_are lines m

-- ---- the agreement

-- the words and registers agree with the state, but for what is under work; an uninitialised module has touched no channel
pub record GptRepresents (d : GptTable) (gap : Lag) (chip : Chip) (w : World) (s : GptState) : Type 0 where
  pub outside : StandsIn chip w
  pub block : BlockAgrees d gap.block chip.timers s
  pub words : WordsAgree gap.words chip s
  pub lines : LinesAgree gap.lines s.mode chip.control.enabled
  pub clean : is_off s.mode ≡ true → (c : ℕ) → channel_at s c ≡ untouched

-- what all services of the driver stand on
abbrev pub gpt_ground : GptTable → Refinement GptState Call
gpt_ground d = record {
  setting = gpt_setting d;
  wired = λ chip. Unit {0};
  lines = λ l. nat_lt l 8;
  watches = false;
  owns = λ o made. gpt_owns made;
  count = λ s. 0;
  later = λ w s order. s;
  Lag = Lag;
  settled = settled;
  represents = GptRepresents d;
  -- the timer block but for its time
  Footprint = Timers;
  foot = λ chip. record chip.timers { time = 0 };
}
