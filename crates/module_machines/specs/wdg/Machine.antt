-- The watchdog as the standard has it, by times: what each call does, and when its time ends.
use Rattle.std.specs.Prelude.{ℕ, ◌+◌, ◌-◌, ◌*◌, max, Bool, true, false, not, [], Option, Some, None, is_some, option_map}
use Rattle.mcal_base.specs.declared.answer_name.AnswerName.TheVariants.{EOk, ENotOk}
use Rattle.mcal_base.specs.declared.config.wdg.WdgMode.{WdgMode}
use Rattle.mcal_base.specs.declared.config.wdg.WdgMode.TheVariants.{Off, Slow, Fast}
use Rattle.mcal_base.specs.declared.error_name.ErrorName.{ErrorName}
use Rattle.run_model.specs.World.{World}
use Rattle.run_model.specs.Machine.{Happening, Acts, Serves, Starts, Aborts, Moves, Restarts, Outcome, Machine, tells_nothing, outcome, named, answers, tells_error}
use Rattle.module_machines.specs.wdg.Checks.{service_of, error_by, answer_refused, reporting}
use Rattle.module_machines.specs.wdg.Table.{allows}
use Rattle.module_machines.specs.declared.wdg.call.Call.{Call}
use Rattle.module_machines.specs.declared.wdg.call.Call.TheVariants.{Init, SetMode, SetTriggerCondition}
use Rattle.module_machines.specs.declared.wdg.table.WdgTable.{WdgTable}

-- The module.
pub record WdgState : Type 0 where
  -- the mode, none while the module is uninitialised
  pub mode : Option WdgMode
  -- the timeout, in units of the mode
  pub timeout : ℕ
  -- the time of the oscillator at which the watchdog's time ends, where it runs
  pub deadline : Option ℕ

-- after power on and after a reset: uninitialised, and no time runs
abbrev pub first_state : WdgState
first_state = record { mode = None; timeout = 0; deadline = None }

-- the ticks of the oscillator of a unit; in the off mode no time runs
abbrev pub unit_of : WdgMode → Option ℕ
unit_of Off = None
unit_of Slow = Some 16
unit_of Fast = Some 1

-- the watchdog's time ends when the timeout is over, and at least one tick from now
abbrev pub deadline_by : (osc timeout : ℕ) → Option ℕ → Option ℕ
deadline_by osc timeout None = None
deadline_by osc timeout (Some unit) = Some (osc + max 1 (timeout * unit))

-- the watchdog's time begins anew, in a mode and with a timeout
abbrev pub started : World → WdgMode → ℕ → WdgState
started w m timeout = record { mode = Some m; timeout = timeout; deadline = deadline_by w.osc timeout (unit_of m) }

-- ---- what a call does

-- without an error; the off mode that isn't allowed changes nothing, and is answered so
abbrev pub set_mode : World → WdgState → WdgMode → (allowed : Bool) → Outcome WdgState
set_mode w s m true = outcome (started w m s.timeout) (answers (named EOk))
set_mode w s m false = outcome s (answers (named ENotOk))

abbrev pub set_timeout : World → WdgState → ℕ → Option WdgMode → Outcome WdgState
set_timeout w s n None = outcome s tells_nothing
set_timeout w s n (Some m) = outcome (started w m n) tells_nothing

abbrev pub work : WdgTable → World → WdgState → Call → Outcome WdgState
work d w s Init = outcome (started w d.initial.mode d.initial.timeout) tells_nothing
work d w s (SetMode None) = outcome s tells_nothing
work d w s (SetMode (Some m)) = set_mode w s m (allows d m)
work d w s (SetTriggerCondition n) = set_timeout w s n s.mode

-- an error changes nothing
abbrev pub acts_by : WdgTable → World → WdgState → Call → Option ErrorName → Outcome WdgState
acts_by d w s call None = work d w s call
acts_by d w s call (Some e) = outcome s (tells_error (answer_refused call) e)

-- what a call does, by its first error that holds
abbrev pub acts : WdgTable → World → WdgState → Call → Outcome WdgState
acts d w s call = acts_by d w s call (error_by d call (not (is_some s.mode)))

-- ---- the machine

-- what happens: the module has no line and no unit
abbrev pub happens : WdgTable → World → WdgState → Happening Call → Option (Outcome WdgState)
happens d w s (Acts call times) = Some (acts d w s call)
happens d w s (Serves line received) = None
happens d w s (Starts u made_by received) = None
happens d w s (Aborts u) = None
happens d w s (Moves order) = Some (outcome s tells_nothing)
happens d w s (Restarts reason) = Some (outcome first_state tells_nothing)

-- the ticks of the oscillator that are left until the deadline
abbrev pub expires : World → WdgState → Option ℕ
expires w s = option_map (λ deadline. deadline - w.osc) s.deadline

-- The machine of the watchdog under a configuration. It leaves the peripheral rate alone.
abbrev pub wdg_machine : WdgTable → Machine WdgState Call
wdg_machine d = record {
  happens = happens d;
  ready = λ w s line. false;
  due = λ w s line. false;
  startable = λ w s u. false;
  line_waits = λ w s line. false;
  rate = λ s. 1;
  service_of = service_of;
  expires = expires;
  reporting = λ call. reporting d;
  polls = λ w s call. [];
}
