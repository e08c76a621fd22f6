-- The pulse outputs as the standard has them, by times: what each call and each serving does.
use Rattle.std.specs.Prelude.{ℕ, ◌==◌, Bool, true, false, not, ◌&&◌, ◌||◌, if◌then◌else◌, List, [], ◌∷◌, Option, Some, None, slice_index_or}
use Rattle.mcal_base.specs.declared.error_name.ErrorName.{ErrorName}
use Rattle.mcal_base.specs.declared.notice.NoticeKind.TheVariants.{PwmNotification}
use Rattle.run_model.specs.World.{World}
use Rattle.run_model.specs.Machine.{Happening, Acts, Serves, Starts, Aborts, Moves, Restarts, Told, Outcome, Machine, no_answer, tells_nothing, outcome, answers, tells_error}
use Rattle.module_machines.specs.pwm.Checks.{service_of, error_by, answer_refused, level_answer, reporting}
use Rattle.module_machines.specs.pwm.Output.{Output, Idle, Runs, absolute, level_of, with_new, turns, turns_between}
use Rattle.module_machines.specs.pwm.Table.{channel_of, channel_number, channel_of_line, polarity_of}
use Rattle.module_machines.specs.declared.pwm.call.Call.{Call}
use Rattle.module_machines.specs.declared.pwm.call.Call.TheVariants.{Init, DeInit, GetOutputState}
use Rattle.module_machines.specs.declared.pwm.call.Call.TheVariants as calls
use Rattle.module_machines.specs.declared.pwm.call.ChannelCall.{ChannelCall}
use Rattle.module_machines.specs.declared.pwm.call.ChannelCall.TheVariants.{SetDutyCycle, SetPeriodAndDuty, SetOutputToIdle, EnableNotification, DisableNotification}
use Rattle.module_machines.specs.declared.pwm.call.PwmEdge.{PwmEdge}
use Rattle.module_machines.specs.declared.pwm.table.Channel.{Channel}
use Rattle.module_machines.specs.declared.pwm.table.PwmTable.{PwmTable}

-- A channel.
pub record Pulse : Type 0 where
  -- what its output does, and since when that counts for the mark
  pub output : Output
  pub since : ℕ
  -- whether a notified change that came before that still counts
  pub turned : Bool
  -- the period last set
  pub period : ℕ
  -- the changes that are notified, none while the notification is off
  pub notified : Option PwmEdge

-- The module: whether it is initialised, and its channels by number; one that isn't there is silent.
pub record PwmState : Type 0 where
  pub initialised : Bool
  pub channels : List Pulse

-- a channel after a reset: idle at low
abbrev pub silent : Pulse
silent = record { output = Idle false; since = 0; turned = false; period = 0; notified = None }

-- after power on and after a reset
abbrev pub first_state : PwmState
first_state = record { initialised = false; channels = [] }

-- a channel, and all eight
abbrev pub pulse_at : PwmState → ℕ → Pulse
pulse_at s c = slice_index_or s.channels c silent

abbrev pub table : (ℕ → Pulse) → List Pulse
table f = f 0 ∷ f 1 ∷ f 2 ∷ f 3 ∷ f 4 ∷ f 5 ∷ f 6 ∷ f 7 ∷ []

-- the state with this channel
abbrev pub with_pulse : PwmState → ℕ → Pulse → PwmState
with_pulse s c p = record s { channels = table (λ k. if k == c then p else pulse_at s k) }

-- ---- a channel

-- the unserved mark: a notified change from before still counts, or the level changed so since
abbrev pub is_marked_by : Option PwmEdge → (polarity : Bool) → ℕ → Pulse → Bool
is_marked_by None polarity now p = false
is_marked_by (Some edge) polarity now p = p.turned || turns_between edge (level_of polarity p.output) p.since now

abbrev pub is_marked : Option Channel → ℕ → Pulse → Bool
is_marked k now p = is_marked_by p.notified (polarity_of k) now p

-- a change of the level is notified
abbrev pub is_notified : Option PwmEdge → (before after : Bool) → Bool
is_notified None before after = false
is_notified (Some edge) before after = turns edge before after

-- from now on its output does this; a mark stays, and the change that this makes may leave one
abbrev pub put_out : Option Channel → ℕ → Output → Pulse → Pulse
put_out k now o p = record p {
  output = o;
  since = now;
  turned = is_marked k now p || is_notified p.notified (level_of (polarity_of k) p.output now) (level_of (polarity_of k) o now);
}

-- what it did before now counts no longer
abbrev pub forgotten : ℕ → Pulse → Pulse
forgotten now p = record p { since = now; turned = false }

-- its output with this period and this duty
abbrev pub set_to : Option Channel → ℕ → (period duty : ℕ) → Pulse → Pulse
set_to k now period duty p = record (put_out k now (with_new now period (absolute period duty) p.output) p) { period = period }

-- the notification is switched, without a mark
abbrev pub switched : ℕ → Option PwmEdge → Pulse → Pulse
switched now edge p = record (forgotten now p) { notified = edge }

-- started at a time with its defaults, the notification off
abbrev pub started : Option Channel → (time : ℕ) → Pulse → Pulse
started None time p = p
started (Some k) time p = record {
  output = Runs (record { start = time; period = k.period_ticks; duty = absolute k.period_ticks k.duty_cycle_default });
  since = time;
  turned = false;
  period = k.period_ticks;
  notified = None;
}

-- set to its idle level, the notification off
abbrev pub ended : Option Channel → ℕ → Pulse → Pulse
ended None now p = p
ended (Some k) now p = switched now None (record p { output = Idle k.idle_high })

-- the level of its output
abbrev pub level_at : PwmTable → World → PwmState → ℕ → Bool
level_at d w s c = level_of (polarity_of (channel_of d c)) (pulse_at s c).output w.now

-- ---- what a call without an error does

abbrev pub channel_work : Option Channel → ℕ → ChannelCall → Pulse → Pulse
channel_work None now call p = p
channel_work (Some k) now (SetDutyCycle duty) p = set_to (Some k) now p.period duty p
channel_work (Some k) now (SetPeriodAndDuty period duty) p = set_to (Some k) now period duty p
channel_work (Some k) now SetOutputToIdle p = put_out (Some k) now (Idle k.idle_high) p
channel_work (Some k) now (EnableNotification edge) p = switched now (Some edge) p
channel_work (Some k) now DisableNotification p = switched now None p

-- a notice is told
abbrev pub notes : ℕ → Told
notes c = record { answer = no_answer; error = None; notices = record { kind = PwmNotification; id = c } ∷ [] }

-- each channel starts at the time that its commit has
abbrev pub work : PwmTable → World → PwmState → Call → (committed : ℕ → ℕ) → Outcome PwmState
work d w s Init committed = outcome (record { initialised = true; channels = table (λ c. started (channel_of d c) (committed c) (pulse_at s c)) }) tells_nothing
work d w s DeInit committed = outcome (record { initialised = false; channels = table (λ c. ended (channel_of d c) w.now (pulse_at s c)) }) tells_nothing
work d w s (GetOutputState c) committed = outcome s (answers (level_answer (level_at d w s c)))
work d w s (calls.Channel c call) committed = outcome (with_pulse s c (channel_work (channel_of d c) w.now call (pulse_at s c))) tells_nothing

-- an error changes nothing
abbrev pub acts_by : PwmTable → World → PwmState → Call → (committed : ℕ → ℕ) → Option ErrorName → Outcome PwmState
acts_by d w s call committed None = work d w s call committed
acts_by d w s call committed (Some e) = outcome s (tells_error (answer_refused call) e)

-- what a call does, by its first error that holds
abbrev pub acts : PwmTable → World → PwmState → Call → (committed : ℕ → ℕ) → Outcome PwmState
acts d w s call committed = acts_by d w s call committed (error_by d call (not s.initialised))

-- ---- what a serving does

-- a line is ready where the mark of its channel stands; an uninitialised module has none
abbrev pub ready_by : Option Channel → World → PwmState → (channel : ℕ) → Bool
ready_by None w s c = false
ready_by (Some k) w s c = s.initialised && is_marked (Some k) w.now (pulse_at s c)

abbrev pub ready : PwmTable → World → PwmState → (line : ℕ) → Bool
ready d w s l = ready_by (channel_of_line d l) w s (channel_number l)

-- the mark is dropped, and notified
abbrev pub served : World → PwmState → (channel : ℕ) → Outcome PwmState
served w s c = outcome (with_pulse s c (forgotten w.now (pulse_at s c))) (notes c)

-- ---- the machine

-- what happens
abbrev pub happens : PwmTable → World → PwmState → Happening Call → Option (Outcome PwmState)
happens d w s (Acts call committed) = Some (acts d w s call committed)
happens d w s (Serves l received) = if ready d w s l then Some (served w s (channel_number l)) else None
happens d w s (Starts u made_by received) = None
happens d w s (Aborts u) = None
happens d w s (Moves order) = Some (outcome s tells_nothing)
happens d w s (Restarts reason) = Some (outcome first_state tells_nothing)

-- The machine of the pulse outputs under a configuration. It leaves the peripheral rate alone.
abbrev pub pwm_machine : PwmTable → Machine PwmState Call
pwm_machine d = record {
  happens = happens d;
  ready = ready d;
  due = ready d;
  startable = λ w s u. false;
  line_waits = λ w s line. false;
  rate = λ s. 1;
  service_of = service_of;
  expires = λ w s. None;
  reporting = λ call. reporting d;
  polls = λ w s call. [];
}
