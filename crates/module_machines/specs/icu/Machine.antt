-- The capture channels as the standard has them: what each edge, each call and each serving does.
use Rattle.std.specs.Prelude.{ℕ, ◌+◌, ◌%◌, ◌^◌, ◌==◌, nat_lt, Bool, true, false, not, ◌&&◌, ◌||◌, if◌then◌else◌, List, [], ◌∷◌, ◌++◌, length, map, Option, Some, None, slice_index_or}
use Rattle.mcal_base.specs.declared.answer.Answer.{Answer}
use Rattle.mcal_base.specs.declared.config.icu.IcuMeasurementMode.TheVariants.{SignalEdgeDetect, EdgeCounter, Timestamp, SignalMeasurement}
use Rattle.mcal_base.specs.declared.config.icu.IcuMeasurementMode.{IcuMeasurementMode}
use Rattle.mcal_base.specs.declared.config.icu.IcuStartEdge.{IcuStartEdge}
use Rattle.mcal_base.specs.declared.config.icu.IcuStartEdge.TheVariants as edges
use Rattle.mcal_base.specs.declared.directive.Order.{Order}
use Rattle.mcal_base.specs.declared.directive.Order.TheVariants.{Level}
use Rattle.mcal_base.specs.declared.error_name.ErrorName.{ErrorName}
use Rattle.mcal_base.specs.declared.notice.Notice.{Notice}
use Rattle.mcal_base.specs.declared.notice.NoticeKind.{NoticeKind}
use Rattle.mcal_base.specs.declared.notice.NoticeKind.TheVariants.{IcuSignalNotification, IcuTimestampNotification}
use Rattle.run_model.specs.World.{World}
use Rattle.run_model.specs.Machine.{Happening, Acts, Serves, Starts, Aborts, Moves, Restarts, Outcome, Machine, no_answer, tells_nothing, outcome, answers, numbers, tells_error}
use Rattle.module_machines.specs.icu.Checks.{service_of, error_by, answer_refused, input_answer, reporting}
use Rattle.module_machines.specs.icu.Edges.{Edge, is_same, values, newest}
use Rattle.module_machines.specs.icu.Table.{channel_of, channel_number, channel_of_line, is_counter, is_measurement, is_linear, chooses}
use Rattle.module_machines.specs.declared.icu.call.Call.{Call}
use Rattle.module_machines.specs.declared.icu.call.Call.TheVariants.{Init, DeInit}
use Rattle.module_machines.specs.declared.icu.call.Call.TheVariants as calls
use Rattle.module_machines.specs.declared.icu.call.ChannelCall.{ChannelCall}
use Rattle.module_machines.specs.declared.icu.call.ChannelCall.TheVariants.{SetActivationCondition, EnableNotification, DisableNotification, GetInputState, EnableEdgeDetection, DisableEdgeDetection, ResetEdgeCount, EnableEdgeCount, DisableEdgeCount, GetEdgeNumbers, StartTimestamp, StopTimestamp, GetTimestampIndex, StartSignalMeasurement, StopSignalMeasurement, GetTimeElapsed, GetDutyCycleValues}
use Rattle.module_machines.specs.declared.icu.table.Channel.{Channel}
use Rattle.module_machines.specs.declared.icu.table.IcuTable.{IcuTable}

-- a start of timestamps: the size of the buffer, and after how many stamps each notice comes
pub record Start : Type 0 where
  pub size : ℕ
  pub interval : ℕ

-- a time that was stored at a place of the stamps
pub record Stamp : Type 0 where
  pub place : ℕ
  pub time : ℕ

-- A channel.
pub record Capture : Type 0 where
  -- it detects, counts, stamps or measures; its notification is on; the edges that are chosen
  pub on : Bool
  pub notification : Bool
  pub activation : IcuStartEdge
  -- the edges that wait, the oldest first, and whether one was lost since the last that was kept or since the last emptying
  pub waiting : List Edge
  pub lost : Bool
  -- the active mark, and the number of edges
  pub active : Bool
  pub count : ℕ
  -- the last start of timestamps since the reset
  pub start : Option Start
  -- the edges stamped or measured since the start, the first one first, and whether a value was asked for since the newest one; then none is left to hand out
  pub served : List Edge
  pub handed_out : Bool
  -- what was stored in the stamps since the reset, the newest first
  pub stored : List Stamp

-- The module: whether it is initialised, and its channels by number; one that isn't there is untouched.
pub record IcuState : Type 0 where
  pub initialised : Bool
  pub channels : List Capture

-- a channel after a reset
abbrev pub untouched : Capture
untouched = record { on = false; notification = false; activation = edges.Rising; waiting = []; lost = false; active = false; count = 0; start = None; served = []; handed_out = false; stored = [] }

-- after power on and after a reset
abbrev pub first_state : IcuState
first_state = record { initialised = false; channels = [] }

-- a channel, and all eight
abbrev pub capture_at : IcuState → ℕ → Capture
capture_at s c = slice_index_or s.channels c untouched

abbrev pub by_channel : (ℕ → Capture) → List Capture
by_channel f = f 0 ∷ f 1 ∷ f 2 ∷ f 3 ∷ f 4 ∷ f 5 ∷ f 6 ∷ f 7 ∷ []

-- the state with this channel
abbrev pub with_capture : IcuState → ℕ → Capture → IcuState
with_capture s c x = record s { channels = by_channel (λ k. if k == c then x else capture_at s k) }

-- ---- edges that come

-- an edge is queued where fewer than four wait, and is lost else; the next one that is queued is after a gap
abbrev pub edge_queued : ℕ → (rising : Bool) → Capture → Capture
edge_queued now rising x =
    if nat_lt (length x.waiting) 4
    then record x { waiting = x.waiting ++ record { time = now % 2 ^ 32; rising = rising; after_gap = x.lost } ∷ []; lost = false }
    else record x { lost = true }

-- a channel that is on takes an edge: a measurement each one, and another channel those that are chosen
abbrev pub is_taken : Channel → (rising : Bool) → Capture → Bool
is_taken k rising x = x.on && (is_measurement k.mode || chooses x.activation rising)

-- an edge that is taken is counted, or queued
abbrev pub edge_taken : Channel → ℕ → (rising : Bool) → Capture → Capture
edge_taken k now rising x =
    if not (is_taken k rising x) then x
    else if is_counter k.mode then record x { count = (x.count + 1) % 2 ^ 32 }
    else edge_queued now rising x

-- an edge of a pin comes to each channel of that pin
abbrev pub edge_at_pin : Option Channel → ℕ → (pin : ℕ) → (rising : Bool) → Capture → Capture
edge_at_pin None now pin rising x = x
edge_at_pin (Some k) now pin rising x = if k.pin == pin then edge_taken k now rising x else x

-- the outside level of a pin is set; where that changes it, an edge comes
abbrev pub moved : IcuTable → World → IcuState → Order → IcuState
moved d w s (Level pin high) =
    if is_same (w.levels pin) high then s
    else record s { channels = by_channel (λ c. edge_at_pin (channel_of d c) w.now pin high (capture_at s c)) }
moved d w s _ = s

-- ---- a channel

-- switched on or off, with no edge that waits
abbrev pub switched : Bool → Capture → Capture
switched on x = record x { on = on; waiting = []; lost = false }

-- started, with nothing served
abbrev pub started : Capture → Capture
started x = record (switched true x) { served = []; handed_out = false }

-- all off, with nothing counted or served; the stamps stay
abbrev pub cleared : Option Channel → Capture → Capture
cleared None x = x
cleared (Some k) x = record (switched false x) { notification = false; activation = k.start_edge; active = false; count = 0; served = []; handed_out = false }

-- the index after so many stamps since the start: a circular one begins anew at the size
abbrev pub index_by : Channel → Option Start → ℕ → ℕ
index_by k None stamps = 0
index_by k (Some a) stamps = if is_linear k.buffer then stamps else stamps % a.size

abbrev pub index : Channel → Capture → ℕ
index k x = index_by k x.start (length x.served)

-- a linear buffer is full with so many stamps
abbrev pub is_full : Channel → Option Start → ℕ → Bool
is_full k None stamps = false
is_full k (Some a) stamps = is_linear k.buffer && stamps == a.size

-- a notice comes with this stamp
abbrev pub is_notified : Option Start → ℕ → Bool
is_notified None stamps = false
is_notified (Some a) stamps = stamps % a.interval == 0

-- the time that stands at a place of the stamps, 0 where none was stored
abbrev pub stamp_in : List Stamp → ℕ → ℕ
stamp_in [] i = 0
stamp_in (x ∷ xs) i = if x.place == i then x.time else stamp_in xs i

-- what is handed out: the newest value where it wasn't yet, and else this
abbrev pub value_or : List ℕ → Option (List ℕ) → List ℕ
value_or none None = none
value_or none (Some v) = v

abbrev pub handed : List ℕ → Channel → Capture → List ℕ
handed none k x = if x.handed_out then none else value_or none (newest (values k x.served))

-- ---- what a call without an error does to its channel, and answers

abbrev pub channel_work : ChannelCall → Capture → Capture
channel_work (SetActivationCondition None) x = x
channel_work (SetActivationCondition (Some edge)) x = record x { activation = edge; active = false }
channel_work EnableNotification x = record x { notification = true }
channel_work DisableNotification x = record x { notification = false }
channel_work GetInputState x = record x { active = false }
channel_work EnableEdgeDetection x = switched true x
channel_work DisableEdgeDetection x = switched false x
channel_work ResetEdgeCount x = record x { count = 0 }
channel_work EnableEdgeCount x = switched true x
channel_work DisableEdgeCount x = switched false x
channel_work GetEdgeNumbers x = x
channel_work (StartTimestamp size interval) x = record (started x) { start = Some (record { size = size; interval = interval }) }
channel_work StopTimestamp x = switched false x
channel_work GetTimestampIndex x = x
channel_work StartSignalMeasurement x = started x
channel_work StopSignalMeasurement x = switched false x
channel_work GetTimeElapsed x = record x { handed_out = true }
channel_work GetDutyCycleValues x = record x { handed_out = true }

abbrev pub channel_answer : Channel → ChannelCall → Capture → Answer
channel_answer k GetInputState x = input_answer x.active
channel_answer k GetEdgeNumbers x = numbers (x.count ∷ [])
channel_answer k GetTimestampIndex x = numbers (index k x ∷ [])
channel_answer k GetTimeElapsed x = numbers (handed (0 ∷ []) k x)
channel_answer k GetDutyCycleValues x = numbers (handed (0 ∷ 0 ∷ []) k x)
channel_answer k _ x = no_answer

abbrev pub asked : Option Channel → IcuState → ℕ → ChannelCall → Outcome IcuState
asked None s c call = outcome s tells_nothing
asked (Some k) s c call = outcome (with_capture s c (channel_work call (capture_at s c))) (answers (channel_answer k call (capture_at s c)))

abbrev pub cleared_all : IcuTable → IcuState → (initialised : Bool) → IcuState
cleared_all d s initialised = record { initialised = initialised; channels = by_channel (λ c. cleared (channel_of d c) (capture_at s c)) }

abbrev pub work : IcuTable → IcuState → Call → Outcome IcuState
work d s Init = outcome (cleared_all d s true) tells_nothing
work d s DeInit = outcome (cleared_all d s false) tells_nothing
work d s (calls.Channel c call) = asked (channel_of d c) s c call

-- an error changes nothing
abbrev pub acts_by : IcuTable → IcuState → Call → Option ErrorName → Outcome IcuState
acts_by d s call None = work d s call
acts_by d s call (Some e) = outcome s (tells_error (answer_refused call) e)

-- the channel of a call is on
abbrev pub is_on : IcuState → Call → Bool
is_on s (calls.Channel c call) = (capture_at s c).on
is_on s _ = false

-- what a call does, by its first error that holds
abbrev pub acts : IcuTable → IcuState → Call → Outcome IcuState
acts d s call = acts_by d s call (error_by d call (not s.initialised) (is_on s call))

-- ---- what a serving does

-- the time is stored at the index; a linear buffer that becomes full stops
abbrev pub stamped : Channel → Edge → Capture → Capture
stamped k e x =
    let y : Capture = record x { served = x.served ++ e ∷ []; stored = record { place = index k x; time = e.time } ∷ x.stored } in
    if is_full k x.start (length x.served + 1) then switched false y else y

-- a value is complete with this edge
abbrev pub completes : Channel → List Edge → Edge → Bool
completes k es e = nat_lt (length (values k es)) (length (values k (es ++ e ∷ [])))

-- the edge is measured; a value that is complete sets the active mark, and may be handed out
abbrev pub measured : Channel → Edge → Capture → Capture
measured k e x =
    let y : Capture = record x { served = x.served ++ e ∷ [] } in
    if completes k x.served e then record y { active = true; handed_out = false } else y

-- what the oldest edge does to its channel
abbrev pub served_by : IcuMeasurementMode → Channel → Edge → Capture → Capture
served_by SignalEdgeDetect k e x = record x { active = true }
served_by EdgeCounter k e x = x
served_by Timestamp k e x = stamped k e x
served_by SignalMeasurement k e x = measured k e x

-- the notices that it gives
abbrev pub kinds_by : IcuMeasurementMode → Capture → List NoticeKind
kinds_by SignalEdgeDetect x = if x.notification then IcuSignalNotification ∷ [] else []
kinds_by EdgeCounter x = []
kinds_by Timestamp x = if x.notification && is_notified x.start (length x.served + 1) then IcuTimestampNotification ∷ [] else []
kinds_by SignalMeasurement x = []

abbrev pub notices_of : ℕ → List NoticeKind → List Notice
notices_of c kinds = map (λ kind. record { kind = kind; id = c }) kinds

-- the oldest edge of a channel is served
abbrev pub served_edge : Option Channel → IcuState → ℕ → List Edge → Outcome IcuState
served_edge (Some k) s c (e ∷ es) =
    let x : Capture = record (capture_at s c) { waiting = es } in
    outcome (with_capture s c (served_by k.mode k e x)) (record { answer = no_answer; error = None; notices = notices_of c (kinds_by k.mode x) })
served_edge _ s c _ = outcome s tells_nothing

abbrev pub served : IcuTable → IcuState → (channel : ℕ) → Outcome IcuState
served d s c = served_edge (channel_of d c) s c (capture_at s c).waiting

-- an edge waits
abbrev pub waits : List Edge → Bool
waits [] = false
waits (e ∷ es) = true

-- a line is ready where an edge waits on its channel; on an uninitialised module's none does
abbrev pub ready_by : Option Channel → IcuState → (channel : ℕ) → Bool
ready_by None s c = false
ready_by (Some k) s c = s.initialised && waits (capture_at s c).waiting

abbrev pub ready : IcuTable → World → IcuState → (line : ℕ) → Bool
ready d w s l = ready_by (channel_of_line d l) s (channel_number l)

-- ---- the machine

-- what happens
abbrev pub happens : IcuTable → World → IcuState → Happening Call → Option (Outcome IcuState)
happens d w s (Acts call committed) = Some (acts d s call)
happens d w s (Serves l received) = if ready d w s l then Some (served d s (channel_number l)) else None
happens d w s (Starts u made_by received) = None
happens d w s (Aborts u) = None
happens d w s (Moves order) = Some (outcome (moved d w s order) tells_nothing)
happens d w s (Restarts reason) = Some (outcome first_state tells_nothing)

-- The machine of the capture channels under a configuration. It leaves the peripheral rate alone.
abbrev pub icu_machine : IcuTable → Machine IcuState Call
icu_machine d = record {
  happens = happens d;
  ready = ready d;
  due = ready d;
  startable = λ w s u. false;
  line_waits = λ w s line. false;
  rate = λ s. 1;
  service_of = service_of;
  expires = λ w s. None;
  reporting = λ call. reporting d;
  polls = λ w s call. [];
}
