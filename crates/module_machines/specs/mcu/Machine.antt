-- Clock, RAM and resets as the standard has them: what each call does.
use Rattle.std.specs.Prelude.{ℕ, ◌+◌, nat_le, Bool, true, false, not, if◌then◌else◌, List, [], ◌∷◌, Option, Some, None}
use Rattle.mcal_base.specs.declared.answer_name.AnswerName.{AnswerName}
use Rattle.mcal_base.specs.declared.answer_name.AnswerName.TheVariants.{EOk, McuPllLocked, McuPllUnlocked, McuPowerOnReset, McuWatchdogReset, McuSwReset}
use Rattle.mcal_base.specs.declared.directive.Reason.{Reason}
use Rattle.mcal_base.specs.declared.directive.Reason.TheVariants.{PowerOn, Watchdog, Software}
use Rattle.mcal_base.specs.declared.error_name.ErrorName.{ErrorName}
use Rattle.run_model.specs.World.{World}
use Rattle.run_model.specs.Machine.{Happening, Acts, Serves, Starts, Aborts, Moves, Restarts, Outcome, Machine, tells_nothing, outcome, answers, named, tells_error}
use Rattle.module_machines.specs.mcu.Checks.{service_of, error_by, answer_refused, reporting}
use Rattle.module_machines.specs.mcu.Table.{multiplier_of, section_of, is_within}
use Rattle.module_machines.specs.declared.mcu.call.Call.{Call}
use Rattle.module_machines.specs.declared.mcu.call.Call.TheVariants.{Init, InitRamSection, Clock, GetPllStatus, GetResetReason, PerformReset, SetMode}
use Rattle.module_machines.specs.declared.mcu.call.ClockCall.TheVariants.{InitClock, DistributePllClock}
use Rattle.module_machines.specs.declared.mcu.table.McuTable.{McuTable}
use Rattle.module_machines.specs.declared.mcu.table.Section.{Section}

-- A PLL that was started: its multiplier, and the time of the oscillator at its start.
pub record Pll : Type 0 where
  pub multiplier : ℕ
  pub started : ℕ

-- The module.
pub record McuState : Type 0 where
  pub initialised : Bool
  -- the peripheral ticks of a tick of the oscillator
  pub rate : ℕ
  -- the PLL, where it was started since the reset
  pub pll : Option Pll
  -- why the chip was reset last
  pub reason : Reason
  -- the mode, where one was set since the reset; it is kept, and asked by nobody
  pub mode : Option ℕ
  -- the sections that were filled since the reset, the newest first
  pub fills : List Section

-- after a reset for this reason: uninitialised, the rate 1, the PLL not started, all RAM words 0
abbrev pub after_reset : Reason → McuState
after_reset reason = record { initialised = false; rate = 1; pll = None; reason = reason; mode = None; fills = [] }

-- at power on
abbrev pub first_state : McuState
first_state = after_reset PowerOn

-- ---- clock, RAM and reason

-- the PLL is locked where it was started at least 100 ticks of the oscillator ago
abbrev pub is_locked : World → Option Pll → Bool
is_locked w None = false
is_locked w (Some p) = nat_le (p.started + 100) w.osc

-- the PLL starts with this multiplier, and the rate is 1
abbrev pub clocked : World → Option ℕ → McuState → McuState
clocked w None s = s
clocked w (Some m) s = record s { rate = 1; pll = Some (record { multiplier = m; started = w.osc }) }

-- the rate is the multiplier of the PLL
abbrev pub distributed : Option Pll → McuState → McuState
distributed None s = s
distributed (Some p) s = record s { rate = p.multiplier }

-- a RAM word: the default value of the section that was filled last of those that have it, and 0 where none was
abbrev pub word_in : List Section → ℕ → ℕ
word_in [] k = 0
word_in (x ∷ xs) k = if is_within x k then x.default_value else word_in xs k

abbrev pub ram_at : McuState → ℕ → ℕ
ram_at s k = word_in s.fills k

-- a section is filled with its default value
abbrev pub fills_with : Option Section → List Section → List Section
fills_with None xs = xs
fills_with (Some x) xs = x ∷ xs

abbrev pub filled : Option Section → McuState → McuState
filled x s = record s { fills = fills_with x s.fills }

-- the answer for a reason of a reset
abbrev pub reason_name : Reason → AnswerName
reason_name PowerOn = McuPowerOnReset
reason_name Watchdog = McuWatchdogReset
reason_name Software = McuSwReset

abbrev pub status_name : (locked : Bool) → AnswerName
status_name true = McuPllLocked
status_name false = McuPllUnlocked

-- ---- what a call does

-- without an error; a call that asks for a reset changes nothing itself, since the reset follows at once
abbrev pub work : McuTable → World → McuState → Call → Outcome McuState
work d w s Init = outcome (record s { initialised = true }) tells_nothing
work d w s (InitRamSection n) = outcome (filled (section_of d n) s) (answers (named EOk))
work d w s (Clock (InitClock n)) = outcome (clocked w (multiplier_of d n) s) (answers (named EOk))
work d w s (Clock DistributePllClock) = outcome (distributed s.pll s) (answers (named EOk))
work d w s GetPllStatus = outcome s (answers (named (status_name (is_locked w s.pll))))
work d w s GetResetReason = outcome s (answers (named (reason_name s.reason)))
work d w s PerformReset = outcome s tells_nothing
work d w s (SetMode m) = outcome (record s { mode = Some m }) tells_nothing

-- an error changes nothing
abbrev pub acts_by : McuTable → World → McuState → Call → Option ErrorName → Outcome McuState
acts_by d w s call None = work d w s call
acts_by d w s call (Some e) = outcome s (tells_error (answer_refused call) e)

-- what a call does, by its first error that holds
abbrev pub acts : McuTable → World → McuState → Call → Outcome McuState
acts d w s call = acts_by d w s call (error_by d call (not s.initialised) (not (is_locked w s.pll)))

-- ---- the machine

-- what happens: the module has no line and no unit
abbrev pub happens : McuTable → World → McuState → Happening Call → Option (Outcome McuState)
happens d w s (Acts call times) = Some (acts d w s call)
happens d w s (Serves line received) = None
happens d w s (Starts u made_by received) = None
happens d w s (Aborts u) = None
happens d w s (Moves order) = Some (outcome s tells_nothing)
happens d w s (Restarts reason) = Some (outcome (after_reset reason) tells_nothing)

-- The machine of clock, RAM and resets under a configuration. It alone sets the peripheral rate.
abbrev pub mcu_machine : McuTable → Machine McuState Call
mcu_machine d = record {
  happens = happens d;
  ready = λ w s line. false;
  due = λ w s line. false;
  startable = λ w s u. false;
  line_waits = λ w s line. false;
  rate = λ s. s.rate;
  service_of = service_of;
  expires = λ w s. None;
  reporting = λ call. reporting d;
  polls = λ w s call. [];
}
