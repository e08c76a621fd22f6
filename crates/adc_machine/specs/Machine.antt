-- The converter groups as the standard has them: what each call and each serving does.
use Rattle.std.specs.Prelude.{ℕ, ◌+◌, ◌-◌, ◌==◌, nat_lt, Bool, true, false, ◌&&◌, ◌||◌, not, cond, List, [], ◌∷◌, ◌++◌, length, min, Option, Some, None, is_some}
use Rattle.std.specs.List.{list_any}
use Rattle.mcal_base.specs.det_errors.Reports.{Reporting}
use Rattle.mcal_base.specs.declared.answer_name.AnswerName.TheVariants.{EOk, ENotOk}
use Rattle.mcal_base.specs.declared.directive.Order.{Order}
use Rattle.mcal_base.specs.declared.directive.Order.TheVariants as orders
use Rattle.mcal_base.specs.declared.error_name.ErrorName.{ErrorName}
use Rattle.mcal_base.specs.declared.notice.Notice.{Notice}
use Rattle.mcal_base.specs.declared.notice.NoticeKind.TheVariants.{AdcNotification}
use Rattle.run_model.specs.World.{World}
use Rattle.run_model.specs.Machine.{Happening, Acts, Serves, Starts, Aborts, Moves, Restarts, Outcome, Machine, no_answer, tells_nothing, outcome, answers, named, named_with, numbers, tells_error}
use Rattle.adc_machine.specs.Table.{group_of, all_groups, by_group}
use Rattle.adc_machine.specs.Checks.{Circumstances, service_of, error_by, zero_null, answer_refused}
use Rattle.adc_machine.specs.Groups.{Status, Idle, Busy, Completed, StreamCompleted, GroupState, Round, untouched, is_continuous, samples_of, values_of, is_finished, name_of, is_idle, status_after, status_read, ends_with_stream, is_full, newest, place_in, with_round_of, held_in}
use Rattle.adc_machine.specs.Turns.{AdcState, first_state, group_at, round_at, with_group, with_round, with_waiting, requested, has_turn, without_turn, is_on, number_of, starts, started, aborts, aborted}
use Rattle.adc_machine.specs.Triggers.{mark_at, pulsed, with_trigger_off, served_trigger}
use Rattle.adc_machine.specs.declared.call.Call.{Call}
use Rattle.adc_machine.specs.declared.call.Call.TheVariants.{Init, DeInit}
use Rattle.adc_machine.specs.declared.call.Call.TheVariants as calls
use Rattle.adc_machine.specs.declared.call.GroupCall.{GroupCall}
use Rattle.adc_machine.specs.declared.call.GroupCall.TheVariants.{SetupResultBuffer, StartGroupConversion, StopGroupConversion, ReadGroup, EnableHardwareTrigger, DisableHardwareTrigger, Notification, GetGroupStatus, GetStreamLastPointer}
use Rattle.adc_machine.specs.declared.call.ResultBuffer.{ResultBuffer}
use Rattle.adc_machine.specs.declared.table.AdcTable.{AdcTable}
use Rattle.adc_machine.specs.declared.table.Group as configured

-- ---- what a call finds busy

-- a group is under way while it is busy or completed, and where its stream is completed while it has a turn or an enabled trigger
abbrev pub under_way_by : Status → (turn trigger : Bool) → Bool
under_way_by Idle turn trigger = false
under_way_by Busy turn trigger = true
under_way_by Completed turn trigger = true
under_way_by StreamCompleted turn trigger = turn || trigger

abbrev pub is_under_way : AdcState → ℕ → Bool
is_under_way s g = under_way_by (group_at s g).status (has_turn s g) (group_at s g).trigger

-- requests neither queue nor have priorities: a unit takes one group at a time
abbrev pub takes_one : AdcTable → Bool
takes_one d = not d.priorities && not d.queuing

-- a group of the same unit is under way
abbrev pub is_unit_taken : AdcTable → AdcState → Option configured.Group → Bool
is_unit_taken d s None = false
is_unit_taken d s (Some k) = list_any (λ h. is_on k.unit (group_of d h) && is_under_way s h) all_groups

-- the group can't be started: it is under way, or its unit takes one group at a time and one is under way
abbrev pub is_start_busy : AdcTable → AdcState → ℕ → Bool
is_start_busy d s g = is_under_way s g || (takes_one d && is_unit_taken d s (group_of d g))

abbrev pub is_group_busy : AdcTable → AdcState → ℕ → GroupCall → Bool
is_group_busy d s g (SetupResultBuffer b) = not (is_idle (group_at s g).status)
is_group_busy d s g _ = is_start_busy d s g

abbrev pub is_busy : AdcTable → AdcState → Call → Bool
is_busy d s (calls.Group g call) = is_group_busy d s g call
is_busy d s _ = list_any (is_under_way s) all_groups

-- ---- what a call finds

abbrev pub circumstances_of : GroupState → (uninitialised busy : Bool) → Circumstances
circumstances_of x uninitialised busy = record { uninitialised = uninitialised; unbuffered = not (is_some x.chosen); idle = is_idle x.status; busy = busy }

abbrev pub circumstances : AdcTable → AdcState → Call → Circumstances
circumstances d s (calls.Group g call) = circumstances_of (group_at s g) (not s.initialised) (is_busy d s (calls.Group g call))
circumstances d s call = circumstances_of untouched (not s.initialised) (is_busy d s call)

-- ---- what is told

-- the notice of a group, where it is on
abbrev pub notes : Bool → ℕ → List Notice
notes on g = cond on (record { kind = AdcNotification; id = g } ∷ []) []

-- ---- what a call without an error does

-- initialised, with every group untouched; stored results stay
abbrev pub fresh : AdcState → AdcState
fresh s = record s { initialised = true; groups = []; units = []; marks = [] }

-- uninitialised, without marks and requests; stored results and the choices of buffers stay
abbrev pub closed : AdcState → AdcState
closed s = record s { initialised = false; groups = by_group (λ g. record untouched { chosen = (group_at s g).chosen }); units = []; marks = [] }

-- the group begins a stream
abbrev pub begun_stream : AdcState → ℕ → (trigger : Bool) → AdcState
begun_stream s g trigger = with_group s g (record (group_at s g) { status = Busy; rounds = []; trigger = trigger })

-- the group is idle, without a turn or a notification, and its trigger is off
abbrev pub stopped : AdcTable → AdcState → ℕ → AdcState
stopped d s g =
    let quiet : AdcState = with_group s g (record (group_at s g) { status = Idle; notification = false }) in
    with_trigger_off d (without_turn quiet g) g

-- the newest round was read
abbrev pub read_from : AdcTable → AdcState → ℕ → AdcState
read_from d s g = with_group s g (record (group_at s g) { status = status_read (ends_with_stream (group_of d g)) (group_at s g).status })

-- the newest round, unless the group is busy
abbrev pub reads : AdcTable → AdcState → ℕ → Status → Outcome AdcState
reads d s g Busy = outcome s (answers (named ENotOk))
reads d s g _ = outcome (read_from d s g) (answers (named_with EOk (newest (group_at s g).rounds)))

-- the number of rounds that the buffer holds and the place of the newest one, unless the group is busy
abbrev pub points : AdcTable → AdcState → ℕ → Status → Outcome AdcState
points d s g Busy = outcome s (answers (zero_null))
points d s g _ =
    let rounds : ℕ = length (group_at s g).rounds in
    outcome (read_from d s g) (answers (numbers (min rounds (samples_of (group_of d g)) ∷ place_in (group_of d g) (rounds - 1) ∷ [])))

abbrev pub group_work : AdcTable → AdcState → ℕ → GroupCall → Outcome AdcState
group_work d s g (SetupResultBuffer b) = outcome (with_group s g (record (group_at s g) { chosen = b })) (answers (named EOk))
group_work d s g StartGroupConversion = outcome (requested (begun_stream s g false) g) tells_nothing
group_work d s g EnableHardwareTrigger = outcome (begun_stream s g true) tells_nothing
group_work d s g StopGroupConversion = outcome (stopped d s g) tells_nothing
group_work d s g DisableHardwareTrigger = outcome (stopped d s g) tells_nothing
group_work d s g ReadGroup = reads d s g (group_at s g).status
group_work d s g (Notification on) = outcome (with_group s g (record (group_at s g) { notification = on })) tells_nothing
group_work d s g GetGroupStatus = outcome s (answers (named (name_of (group_at s g).status)))
group_work d s g GetStreamLastPointer = points d s g (group_at s g).status

abbrev pub work : AdcTable → AdcState → Call → Outcome AdcState
work d s Init = outcome (fresh s) tells_nothing
work d s DeInit = outcome (closed s) tells_nothing
work d s (calls.Group g call) = group_work d s g call

-- an error changes nothing
abbrev pub acts_by : AdcTable → AdcState → Call → Option ErrorName → Outcome AdcState
acts_by d s call None = work d s call
acts_by d s call (Some e) = outcome s (tells_error (answer_refused call) e)

-- what a call does, by its first error that holds
abbrev pub acts : AdcTable → AdcState → Call → Outcome AdcState
acts d s call = acts_by d s call (error_by d call (circumstances d s call))

-- ---- what a serving does

-- a unit's round is finished
abbrev pub is_done : AdcTable → World → Option Round → Bool
is_done d w None = false
is_done d w (Some r) = is_finished w (group_of d r.group) r

-- a line of a unit, and a line of a trigger input
abbrev pub is_unit_line : ℕ → Bool
is_unit_line l = l == 24 || l == 25

abbrev pub is_trigger_line : ℕ → Bool
is_trigger_line l = not (nat_lt l 28) && nat_lt l 32

-- a unit's line waits for its finished round, and a trigger's line for its mark; an uninitialised module has neither
abbrev pub ready : AdcTable → World → AdcState → ℕ → Bool
ready d w s l = s.initialised && cond (is_unit_line l) (is_done d w (round_at s (l - 24))) (is_trigger_line l && mark_at s (l - 28))

-- the group with one more round
abbrev pub with_values : Option configured.Group → GroupState → List ℕ → GroupState
with_values k x values = record x { status = status_after (place_in k (length x.rounds) + 1 == samples_of k) x.status; rounds = x.rounds ++ values ∷ [] }

-- what comes of a group's turn after a round: a full linear stream takes no further one and has its trigger off, a continuous group waits again with its number, and any other group has none
abbrev pub after_round : AdcTable → AdcState → ℕ → (number : ℕ) → (full continuous : Bool) → AdcState
after_round d s g number true continuous = with_trigger_off d s g
after_round d s g number false true = with_waiting s g (Some (record { number = number; kept = [] }))
after_round d s g number false false = s

-- the round is stored, the unit is free, and the group has the round
abbrev pub served_values : AdcTable → AdcState → (unit : ℕ) → Round → List ℕ → AdcState
served_values d s u r values =
    let k : Option configured.Group = group_of d r.group in
    let x : GroupState = group_at s r.group in
    let stored : AdcState = record (with_group (with_round s u None) r.group (with_values k x values)) { results = with_round_of k (length x.rounds) r.group x.chosen values s.results } in
    after_round d stored r.group r.request.number (is_full k (length x.rounds + 1)) (is_continuous k)

-- the notification is given where it is on
abbrev pub served_round : AdcTable → World → AdcState → (unit : ℕ) → Option Round → Outcome AdcState
served_round d w s u None = outcome s tells_nothing
served_round d w s u (Some r) = outcome (served_values d s u r (values_of w (group_of d r.group) r)) (record { answer = no_answer; error = None; notices = notes (group_at s r.group).notification r.group })

abbrev pub served : AdcTable → World → AdcState → ℕ → Outcome AdcState
served d w s l = cond (is_unit_line l) (served_round d w s (l - 24) (round_at s (l - 24))) (outcome (served_trigger d s (l - 28)) tells_nothing)

-- ---- the machine

-- what a unit starts and aborts, where it may
abbrev pub starting : World → AdcState → (unit : ℕ) → Option ℕ → Option (Outcome AdcState)
starting w s u None = None
starting w s u (Some g) = Some (outcome (started w s u g) tells_nothing)

abbrev pub aborting : AdcTable → World → AdcState → (unit : ℕ) → Option Round → Option (Outcome AdcState)
aborting d w s u None = None
aborting d w s u (Some r) = Some (outcome (aborted d w s u r) tells_nothing)

abbrev pub starts_on : AdcTable → World → AdcState → Option ℕ → Option (Outcome AdcState)
starts_on d w s None = None
starts_on d w s (Some u) = starting w s u (starts d s u)

abbrev pub aborts_on : AdcTable → World → AdcState → Option ℕ → Option (Outcome AdcState)
aborts_on d w s None = None
aborts_on d w s (Some u) = aborting d w s u (aborts d w s u)

-- a unit may start or abort
abbrev pub startable_on : AdcTable → World → AdcState → Option ℕ → Bool
startable_on d w s None = false
startable_on d w s (Some u) = is_some (starts d s u) || is_some (aborts d w s u)

-- a line is a unit's that may start or abort
abbrev pub line_waits : AdcTable → World → AdcState → (line : ℕ) → Bool
line_waits d w s l = is_unit_line l && startable_on d w s (Some (l - 24))

-- a pulse on a trigger input, and nothing else that the hardware does
abbrev pub moved : AdcTable → AdcState → Order → AdcState
moved d s (orders.Trigger i) = pulsed d s i
moved d s _ = s

-- what happens
abbrev pub happens : AdcTable → World → AdcState → Happening Call → Option (Outcome AdcState)
happens d w s (Acts call times) = Some (acts d s call)
happens d w s (Serves l received) = cond (ready d w s l) (Some (served d w s l)) None
happens d w s (Starts u made_by received) = starts_on d w s (number_of u)
happens d w s (Aborts u) = aborts_on d w s (number_of u)
happens d w s (Moves order) = Some (outcome (moved d s order) tells_nothing)
happens d w s (Restarts reason) = Some (outcome first_state tells_nothing)

-- how errors are reported
abbrev pub reporting : AdcTable → Reporting
reporting d = record { detect = d.detect; classification = d.classification }

-- The machine of the converter groups under a configuration. It leaves the peripheral rate alone.
abbrev pub adc_machine : AdcTable → Machine AdcState Call
adc_machine d = record {
  happens = happens d;
  ready = ready d;
  due = ready d;
  startable = λ w s u. startable_on d w s (number_of u);
  line_waits = line_waits d;
  rate = λ s. 1;
  service_of = service_of;
  expires = λ w s. None;
  reporting = λ call. reporting d;
  polls = λ w s call. [];
}

-- ---- what is shown

-- what a place of a group's buffer holds
abbrev pub place_value : AdcState → (group : ℕ) → ResultBuffer → (place : ℕ) → ℕ
place_value s g b p = held_in s.results g b p

-- the buffer of a group that is shown: the one that was set up last
abbrev pub chosen_buffer : AdcState → ℕ → Option ResultBuffer
chosen_buffer s g = (group_at s g).chosen
