-- The timers as the standard has them, by times: what each call and each serving does.
use Rattle.std.specs.Prelude.{ℕ, ◌-◌, ◌==◌, nat_lt, Bool, true, false, ◌&&◌, not, if◌then◌else◌, List, [], ◌∷◌, Option, Some, None, slice_index_or}
use Rattle.std.specs.List.{list_any}
use Rattle.mcal_base.specs.det_errors.Reports.{Reporting}
use Rattle.mcal_base.specs.Expiry.{count_of, expiries, runs_on}
use Rattle.mcal_base.specs.declared.error_name.ErrorName.{ErrorName}
use Rattle.mcal_base.specs.declared.notice.NoticeKind.{NoticeKind}
use Rattle.mcal_base.specs.declared.notice.NoticeKind.TheVariants.{GptNotification, EcuMCheckWakeup, EcuMSetWakeupEvent}
use Rattle.run_model.specs.World.{World}
use Rattle.run_model.specs.Machine.{Happening, Acts, Serves, Starts, Aborts, Moves, Restarts, Told, Outcome, Machine, no_answer, tells_nothing, outcome, number}
use Rattle.module_machines.specs.gpt.Checks.{service_of, error_by, answer_refused}
use Rattle.module_machines.specs.gpt.Table.{channel_of, one_shot_of}
use Rattle.module_machines.specs.declared.gpt.call.Call.{Call}
use Rattle.module_machines.specs.declared.gpt.call.Call.TheVariants.{Init, DeInit, SetMode}
use Rattle.module_machines.specs.declared.gpt.call.Call.TheVariants as calls
use Rattle.module_machines.specs.declared.gpt.call.ChannelCall.TheVariants.{GetTimeElapsed, GetTimeRemaining, StartTimer, StopTimer}
use Rattle.module_machines.specs.declared.gpt.call.ChannelCall.TheVariants as asks
use Rattle.module_machines.specs.declared.gpt.call.Change.{Change}
use Rattle.module_machines.specs.declared.gpt.call.Change.TheVariants.{Notification, Wakeup, Check}
use Rattle.module_machines.specs.declared.gpt.call.GptMode.TheVariants as modes
use Rattle.module_machines.specs.declared.gpt.table.Channel.{Channel}
use Rattle.module_machines.specs.declared.gpt.table.GptTable.{GptTable}
use Rattle.module_machines.specs.declared.gpt.switches.Switches.{Switches}

-- what a channel is about; a running one-shot channel that has reached its target is expired
pub data Course : Type 0 where
  Never : Course
  Running : (start target : ℕ) → Course
  Stopped : (value target : ℕ) → Course

-- A channel.
pub record Timing : Type 0 where
  pub course : Course
  -- when its mark was last dropped
  pub dropped : ℕ
  pub switches : Switches

-- uninitialised, or the mode of an initialised module
pub data Mode : Type 0 where
  Off : Mode
  Normal : Mode
  Sleep : Mode

-- The module: its mode, uninitialised or not, and its channels by number; one that isn't there is untouched.
pub record GptState : Type 0 where
  pub mode : Mode
  pub channels : List Timing

-- a channel after Gpt_Init: never started, all switches off
abbrev pub untouched : Timing
untouched = record { course = Never; dropped = 0; switches = record { notification = false; wakeup = false; woken = false } }

-- no channel was touched
abbrev pub fresh_state : Mode → GptState
fresh_state m = record { mode = m; channels = [] }

-- after power on and after a reset
abbrev pub first_state : GptState
first_state = fresh_state Off

-- a channel, and all eight
abbrev pub channel_at : GptState → ℕ → Timing
channel_at s c = slice_index_or s.channels c untouched

abbrev pub table : (ℕ → Timing) → List Timing
table f = f 0 ∷ f 1 ∷ f 2 ∷ f 3 ∷ f 4 ∷ f 5 ∷ f 6 ∷ f 7 ∷ []

-- the module is uninitialised
abbrev pub is_off : Mode → Bool
is_off Off = true
is_off Normal = false
is_off Sleep = false

-- the module is in sleep mode
abbrev pub is_asleep : Mode → Bool
is_asleep Off = false
is_asleep Normal = false
is_asleep Sleep = true

-- ---- a channel, by its configuration and the time

-- the peripheral ticks of a count
abbrev pub prescaler_of : Option Channel → ℕ
prescaler_of None = 0
prescaler_of (Some k) = k.prescaler

-- the elapsed value
abbrev pub elapsed : Option Channel → ℕ → Course → ℕ
elapsed k now Never = 0
elapsed k now (Running s v) = count_of (one_shot_of k) s v (prescaler_of k) now
elapsed k now (Stopped e v) = e

-- the target of the last start, 0 where there was none
abbrev pub target_of : Course → ℕ
target_of Never = 0
target_of (Running s v) = v
target_of (Stopped e v) = v

-- what is left of it: nothing where the channel was never started or is expired
abbrev pub remaining : Option Channel → ℕ → Course → ℕ
remaining k now x = target_of x - elapsed k now x

-- it runs, and isn't expired
abbrev pub runs : Option Channel → ℕ → Course → Bool
runs k now Never = false
runs k now (Running s v) = runs_on (one_shot_of k) s v (prescaler_of k) now
runs k now (Stopped e v) = false

-- an expiry came after the first time, and not after the second
abbrev pub expired : Option Channel → (after now : ℕ) → Course → Bool
expired k after now Never = false
expired k after now (Running s v) = nat_lt (expiries (one_shot_of k) s v (prescaler_of k) after) (expiries (one_shot_of k) s v (prescaler_of k) now)
expired k after now (Stopped e v) = false

-- the mark of an expiry that wasn't served
abbrev pub is_marked : Option Channel → ℕ → Timing → Bool
is_marked k now t = expired k t.dropped now t.course

-- started anew, without a mark
abbrev pub started : ℕ → ℕ → Timing → Timing
started now v t = record t { course = Running now v; dropped = now }

-- stopped where it runs, and without a mark; else as it was
abbrev pub stopped : Option Channel → ℕ → Timing → Timing
stopped k now t = if runs k now t.course then record t { course = Stopped (elapsed k now t.course) (target_of t.course); dropped = now } else t

-- with its mark dropped
abbrev pub unmarked : ℕ → Timing → Timing
unmarked now t = record t { dropped = now }

-- in sleep mode only channels run whose wakeup is on, and no other keeps its mark
abbrev pub slept : Option Channel → ℕ → Timing → Timing
slept k now t = if t.switches.wakeup then t else unmarked now (stopped k now t)

-- ---- a channel's switches

-- what a service makes of them
abbrev pub changed : Change → Switches → Switches
changed (Notification on) x = record x { notification = on }
changed (Wakeup on) x = record x { wakeup = on }
changed Check x = record x { woken = false }

-- the service tells of a wakeup that came
abbrev pub tells_event : Change → Switches → Bool
tells_event Check x = x.woken
tells_event _ x = false

-- a serving wakes, and else it notifies
abbrev pub wakes : Mode → Switches → Bool
wakes m x = is_asleep m && x.wakeup

abbrev pub notifies : Mode → Switches → Bool
notifies m x = not (is_asleep m) && x.notification

-- ---- the module

-- the state with this channel, and with these switches of a channel
abbrev pub with_channel : GptState → ℕ → Timing → GptState
with_channel s c t = record s { channels = table (λ k. if k == c then t else channel_at s k) }

abbrev pub with_switches : GptState → ℕ → Switches → GptState
with_switches s c x = with_channel s c (record (channel_at s c) { switches = x })

-- the module falls asleep
abbrev pub slept_all : GptTable → World → GptState → GptState
slept_all d w s = record { mode = Sleep; channels = table (λ c. slept (channel_of d c) w.now (channel_at s c)) }

-- the numbers of all channels
abbrev pub all_channels : List ℕ
all_channels = 0 ∷ 1 ∷ 2 ∷ 3 ∷ 4 ∷ 5 ∷ 6 ∷ 7 ∷ []

-- the channel of this number runs
abbrev pub runs_at : GptTable → World → GptState → ℕ → Bool
runs_at d w s c = runs (channel_of d c) w.now (channel_at s c).course

-- what a call finds busy: its channel, and Gpt_DeInit any one
abbrev pub is_busy : GptTable → World → GptState → Call → Bool
is_busy d w s (calls.Channel c call) = runs_at d w s c
is_busy d w s _ = list_any (λ c. runs_at d w s c) all_channels

-- what is told: a number, or a notice if there is one
abbrev pub answers_number : ℕ → Told
answers_number n = record { answer = number n; error = None; notices = [] }

abbrev pub notes : Bool → NoticeKind → ℕ → Told
notes b kind c = record { answer = no_answer; error = None; notices = if b then (record { kind = kind; id = c }) ∷ [] else [] }

-- ---- what a call without an error does

-- the changes of a configured channel's switches
abbrev pub switches : Option Channel → GptState → ℕ → Change → Outcome GptState
switches None s c by = outcome s tells_nothing
switches (Some k) s c by = outcome (with_switches s c (changed by (channel_at s c).switches)) (notes (tells_event by (channel_at s c).switches) EcuMSetWakeupEvent c)

abbrev pub work : GptTable → World → GptState → Call → Outcome GptState
work d w s Init = outcome (fresh_state Normal) tells_nothing
work d w s DeInit = outcome first_state tells_nothing
work d w s (SetMode None) = outcome s tells_nothing
work d w s (SetMode (Some modes.Normal)) = outcome (record s { mode = Normal }) tells_nothing
work d w s (SetMode (Some modes.Sleep)) = outcome (slept_all d w s) tells_nothing
work d w s (calls.Channel c GetTimeElapsed) = outcome s (answers_number (elapsed (channel_of d c) w.now (channel_at s c).course))
work d w s (calls.Channel c GetTimeRemaining) = outcome s (answers_number (remaining (channel_of d c) w.now (channel_at s c).course))
work d w s (calls.Channel c (StartTimer v)) = outcome (with_channel s c (started w.now v (channel_at s c))) tells_nothing
work d w s (calls.Channel c StopTimer) = outcome (with_channel s c (stopped (channel_of d c) w.now (channel_at s c))) tells_nothing
work d w s (calls.Channel c (asks.Change by)) = switches (channel_of d c) s c by

-- an error changes nothing
abbrev pub acts_by : GptTable → World → GptState → Call → Option ErrorName → Outcome GptState
acts_by d w s call None = work d w s call
acts_by d w s call (Some e) = outcome s (record { answer = answer_refused call; error = Some e; notices = [] })

-- what a call does, by its first error that holds
abbrev pub acts : GptTable → World → GptState → Call → Outcome GptState
acts d w s call = acts_by d w s call (error_by d call (is_off s.mode) (is_asleep s.mode) (is_busy d w s call))

-- ---- what a serving does

-- a line's mark
abbrev pub ready : GptTable → World → GptState → ℕ → Bool
ready d w s c = nat_lt c 8 && is_marked (channel_of d c) w.now (channel_at s c)

-- the channel without its mark, and with its wakeup mark where it wakes
abbrev pub served_channel : (wakes : Bool) → ℕ → Timing → Timing
served_channel true now t = record t { dropped = now; switches = record t.switches { woken = true } }
served_channel false now t = unmarked now t

-- in sleep mode it wakes, and in normal mode it notifies; an uninitialised module has no mark
abbrev pub served_by : World → GptState → ℕ → (wakes notifies : Bool) → Outcome GptState
served_by w s c true n = outcome (with_channel s c (served_channel true w.now (channel_at s c))) (notes true EcuMCheckWakeup c)
served_by w s c false n = outcome (with_channel s c (served_channel false w.now (channel_at s c))) (notes n GptNotification c)

abbrev pub served : World → GptState → ℕ → Outcome GptState
served w s c = served_by w s c (wakes s.mode (channel_at s c).switches) (notifies s.mode (channel_at s c).switches)

-- ---- the machine

-- what happens
abbrev pub happens : GptTable → World → GptState → Happening Call → Option (Outcome GptState)
happens d w s (Acts call times) = Some (acts d w s call)
happens d w s (Serves c received) = if ready d w s c then Some (served w s c) else None
happens d w s (Starts u made_by received) = None
happens d w s (Aborts u) = None
happens d w s (Moves order) = Some (outcome s tells_nothing)
happens d w s (Restarts reason) = Some (outcome first_state tells_nothing)

-- how errors are reported
abbrev pub reporting : GptTable → Reporting
reporting d = record { detect = d.detect; classification = d.classification }

-- The machine of the timers under a configuration. It leaves the peripheral rate alone.
abbrev pub gpt_machine : GptTable → Machine GptState Call
gpt_machine d = record {
  happens = happens d;
  ready = ready d;
  due = ready d;
  startable = λ w s u. false;
  line_waits = λ w s line. false;
  rate = λ s. 1;
  service_of = service_of;
  expires = λ w s. None;
  reporting = λ call. reporting d;
  polls = λ w s call. [];
}
