-- What frames of the module may do, and what a run of the module is over.
use Rattle.std.specs.Prelude.{◌≡◌, ℕ, zero, suc, List, [], ◌∷◌, ◌++◌, ◌+◌, ◌*◌, ◌%◌, ◌<◌, ◌==◌, nat_lt, Bool, true, false, ◌&&◌, not, Option, Some, None, is_some}
use Rattle.chip_blocks.specs.pulses.Pulses as pulses
use Rattle.mcal_base.specs.Bits.{bit_of}
use Rattle.mcal_base.specs.declared.module_name.ModuleName.{ModuleName}
use Rattle.mcal_base.specs.declared.module_name.ModuleName.TheVariants.{Pwm}
use Rattle.mcal_base.specs.declared.moves.Move.{Move}
use Rattle.mcal_base.specs.declared.moves.Move.TheVariants.{Read, Write, Load, Store}
use Rattle.mcal_base.specs.declared.register.Reg.{Reg}
use Rattle.mcal_base.specs.declared.register.Reg.TheVariants.{EnableSet, EnableClear, PulsePeriod, PulseDuty, PulsePolarity, PulseCommit, PulseIdle, PulseOut, PulseEdges, PulseFlags}
use Rattle.run_model.specs.Frame.{Origin, Called}
use Rattle.run_model.specs.World.{World}
use Rattle.run_model.specs.Moment.{Setting}
use Rattle.mcal_base.specs.There.{names_there}
use Rattle.module_machines.specs.pwm.Machine.{PwmState, first_state, level_at, pwm_machine}
use Rattle.module_machines.specs.pwm.Table.{channel_of, channel_of_line}
use Rattle.module_machines.specs.declared.pwm.call.Call.{Call}
use Rattle.module_machines.specs.declared.pwm.call.Call.TheVariants.{Init, DeInit, GetOutputState, Channel}
use Rattle.module_machines.specs.declared.pwm.table.Channel as configured
use Rattle.module_machines.specs.declared.pwm.table.PwmTable.{PwmTable}
use Rattle.module_machines.specs.pwm.Classes.{class_of}

-- ---- lines

-- the level of a line, 1 where no configured channel uses it
abbrev pub level_by : Option configured.Channel → ℕ
level_by None = 1
level_by (Some k) = k.level

abbrev pub level_of : PwmTable → ℕ → ℕ
level_of d l = level_by (channel_of_line d l)

abbrev pub owner_of : ℕ → ModuleName
owner_of l = Pwm

-- ---- steps and windows

-- the number of configured channels
abbrev pub counted : PwmTable → ℕ → ℕ
counted d c = bit_of (is_some (channel_of d c))

abbrev pub channel_count : PwmTable → ℕ
channel_count d = counted d 0 + counted d 1 + counted d 2 + counted d 3 + counted d 4 + counted d 5 + counted d 6 + counted d 7

-- the most steps of a frame: of `Pwm_Init` and of `Pwm_DeInit` 48 more for each configured channel
abbrev pub whole_steps : PwmTable → ℕ
whole_steps d = 64 + 48 * channel_count d

abbrev pub steps_of : PwmTable → Origin Call → ℕ
steps_of d (Called Init) = whole_steps d
steps_of d (Called DeInit) = whole_steps d
steps_of d _ = 64

-- the most moves of a window
abbrev pub window_of : Origin Call → ℕ
window_of o = 32

-- ---- what a frame may name

-- a register of the pulse units
abbrev pub is_pulse : Reg → Bool
is_pulse (PulsePeriod c) = true
is_pulse (PulseDuty c) = true
is_pulse (PulsePolarity c) = true
is_pulse (PulseCommit c) = true
is_pulse (PulseIdle c) = true
is_pulse (PulseOut c) = true
is_pulse PulseEdges = true
is_pulse PulseFlags = true
is_pulse _ = false

-- the value has bits of lines 8 to 15, and of no other
abbrev pub is_for_lines : ℕ → Bool
is_for_lines v = not (v == 0) && (v % 256 == 0 && nat_lt v 65536)

-- a register of the module, or a value for lines of the module alone
abbrev pub may_write : Reg → ℕ → Bool
may_write EnableSet v = is_for_lines v
may_write EnableClear v = is_for_lines v
may_write r v = is_pulse r

-- a driver word of the module, which uses 64
abbrev pub is_own_word : ℕ → Bool
is_own_word k = not (nat_lt k 24576) && nat_lt k 24640

abbrev pub may_name : Move → Bool
may_name (Read r) = is_pulse r
may_name (Write r v) = may_write r v
may_name (Load k) = is_own_word k
may_name (Store k v) = is_own_word k
may_name _ = false

-- a move that a frame of the module may make: it names what is the module's and is there
abbrev pub pwm_may : Move → Bool
pwm_may made = may_name made && names_there made

-- ---- what a call owes

-- the move commits the output of this channel, and idles it
abbrev pub commits_at : (c : ℕ) → Move → Bool
commits_at c (Write (PulseCommit k) v) = k == c
commits_at c _ = false

abbrev pub idles_at : (c : ℕ) → Move → Bool
idles_at c (Write (PulseIdle k) v) = k == c
idles_at c _ = false

abbrev pub duty_of : (kind : ℕ → Move → Bool) → (c : ℕ) → Option configured.Channel → List (Move → Bool)
duty_of kind c None = []
duty_of kind c (Some k) = kind c ∷ []

-- such a write of each configured channel below n
unfoldable pub duties : PwmTable → (kind : ℕ → Move → Bool) → (n : ℕ) → List (Move → Bool)
duties d kind zero = []
duties d kind (suc n) = duty_of kind n (channel_of d n) ++ duties d kind n

-- `Pwm_Init` commits the output of each configured channel, and `Pwm_DeInit` idles it
abbrev pub must_by : PwmTable → Call → List (Move → Bool)
must_by d Init = duties d commits_at 8
must_by d DeInit = duties d idles_at 8
must_by d (GetOutputState c) = []
must_by d (Channel c call) = []

-- ---- the outputs

-- the outputs of all eight pulse units are the machine's
abbrev pub OutputsAgree : PwmTable → pulses.Pulses → World → PwmState → Type 0
OutputsAgree d b w s = (c : ℕ) → c < 8 → pulses.level_at b c ≡ level_at d w s c

-- ---- the setting

-- what a run of the module is over
abbrev pub pwm_setting : PwmTable → Setting PwmState Call
pwm_setting d = record {
  machine = pwm_machine d;
  first = first_state;
  class_of = class_of;
  level_of = level_of d;
  owner_of = owner_of;
  used = λ l. is_some (channel_of_line d l);
  steps_of = steps_of d;
  window_of = window_of;
  may = λ o made. pwm_may made;
  halves = λ call. None;
  must = must_by d;
  fills = λ c. false;
  in_use = λ w s c. false;
  rest = λ chip w s. Unit {0};
  unmasked = λ chip w s origins. OutputsAgree d chip.pulses w s;
  shows = λ origin n chip s. Unit {0};
}
