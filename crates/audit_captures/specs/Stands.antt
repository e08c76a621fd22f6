-- How what the program keeps stands for the machine's state, which keeps all edges that were served and all times that were stored.
use Rattle.std.specs.Prelude.{◌≡◌, ℕ, ◌+◌, ◌*◌, ◌<◌, ◌≤◌, Bool, true, false, List, [], ◌∷◌, ◌++◌, Option, Some, None, length, option_map, nat_lt, if◌then◌else◌, slice_index_or, slice_set}
use Rattle.module_machines.specs.icu.Edges as edges
use Rattle.module_machines.specs.icu.Edges.{begins_rising, ends_rising, values, newest}
use Rattle.module_machines.specs.icu.Machine as machine
use Rattle.module_machines.specs.icu.Machine.{IcuState, capture_at, stamp_in}
use Rattle.module_machines.specs.icu.Table.{channel_of}
use Rattle.module_machines.specs.declared.icu.call.ChannelCall.{ChannelCall}
use Rattle.module_machines.specs.declared.icu.call.ChannelCall.TheVariants.{StartTimestamp, StartSignalMeasurement}
use Rattle.module_machines.specs.declared.icu.table.Channel.{Channel}
use Rattle.module_machines.specs.declared.icu.table.IcuTable.{IcuTable}
use Rattle.mcal_base.specs.declared.config.icu.IcuMeasurementMode.{IcuMeasurementMode}
use Rattle.mcal_base.specs.declared.config.icu.IcuMeasurementMode.TheVariants.{Timestamp, SignalMeasurement}
use Rattle.mcal_base.specs.declared.config.icu.IcuSignalMeasurementProperty.{IcuSignalMeasurementProperty}
use Rattle.mcal_base.specs.declared.config.icu.IcuStartEdge.TheVariants.{Rising}
use Rattle.run_model.specs.Machine.{Outcome}
use Rattle.audit_captures.specs.Measures as seen
use Rattle.audit_captures.specs.Measures.{waiting, seen_of, seen_with, told_with, Nothing_seen, Start_seen, Next_seen}
use Rattle.audit_captures.specs.declared.capture.Capture as kept
use Rattle.audit_captures.specs.declared.capture.Start.{Start}
use Rattle.audit_captures.specs.declared.measure.OpenMeasure.{OpenMeasure}
use Rattle.audit_captures.specs.declared.measure.OpenMeasure.TheVariants.{Nothing, Start as Begun, Next}
use Rattle.audit_captures.specs.declared.measure.Value.{Value}
use Rattle.audit_captures.specs.declared.measure.Value.TheVariants.{Time, Duty}
use Rattle.audit_captures.specs.declared.queue.Edge.{Edge}
use Rattle.audit_captures.specs.declared.queue.Queue.{Queue}
use Rattle.audit_captures.specs.declared.queue.Queue.TheVariants.{Empty, One, Two, Three, Four}

-- ---- edges that wait

abbrev pub edge_of : Edge → edges.Edge
edge_of e = record { time = e.time; rising = e.rising; after_gap = e.after_gap }

abbrev pub edges_of : Queue → List edges.Edge
edges_of Empty = []
edges_of (One a) = edge_of a ∷ []
edges_of (Two a b) = edge_of a ∷ edge_of b ∷ []
edges_of (Three a b c) = edge_of a ∷ edge_of b ∷ edge_of c ∷ []
edges_of (Four a b c d) = edge_of a ∷ edge_of b ∷ edge_of c ∷ edge_of d ∷ []

-- the first of a list and the others
abbrev pub split : List edges.Edge → Option (edges.Edge × List edges.Edge)
split [] = None
split (e ∷ es) = Some (e, es)

abbrev pub split_of : Edge × Queue → edges.Edge × List edges.Edge
split_of p = (edge_of p.0, edges_of p.1)

-- ---- measures

abbrev pub seen_as : OpenMeasure → seen.OpenMeasure
seen_as Nothing = Nothing_seen
seen_as (Begun a) = Start_seen a
seen_as (Next a b) = Next_seen a b

abbrev pub value_as : Value → List ℕ
value_as (Time n) = n ∷ []
value_as (Duty a n) = a ∷ n ∷ []

-- what is seen of the newest measure that waits over served edges
abbrev pub seen_by : Option IcuSignalMeasurementProperty → Channel → List edges.Edge → seen.OpenMeasure
seen_by None k es = Nothing_seen
seen_by (Some p) k es = seen_of (newest (waiting (begins_rising p k) (ends_rising p k) es))

-- the same with one more edge, and the value that it completes
abbrev pub seen_after : Option IcuSignalMeasurementProperty → Channel → edges.Edge → seen.OpenMeasure → seen.OpenMeasure
seen_after None k e now = now
seen_after (Some p) k e now = seen_with (begins_rising p k) (ends_rising p k) e now

abbrev pub told_after : Option IcuSignalMeasurementProperty → Channel → edges.Edge → seen.OpenMeasure → Option (List ℕ)
told_after None k e now = None
told_after (Some p) k e now = told_with p (ends_rising p k) e now

-- ---- a channel

abbrev pub start_of : Start → machine.Start
start_of a = record { size = a.size; interval = a.interval }

-- the channel, with these edges served and these times stored
abbrev pub capture_of : kept.Capture → List edges.Edge → List machine.Stamp → machine.Capture
capture_of y es stored = record {
  on = y.on;
  notification = y.notification;
  activation = y.activation;
  waiting = edges_of y.waiting;
  lost = y.lost;
  active = y.active;
  count = y.count;
  start = option_map start_of y.start;
  served = es;
  handed_out = y.handed_out;
  stored = stored;
}

-- what is kept of the served edges of a configured channel: how many they are, what is seen, and the newest value
pub record Follows (k : Channel) (served : ℕ) (now : OpenMeasure) (last : Option Value) (es : List edges.Edge) : Type 0 where
  pub count : served ≡ length es
  pub seen : seen_as now ≡ seen_by k.measured k es
  pub value : option_map value_as last ≡ newest (values k es)

abbrev pub FollowsIf : Option Channel → kept.Capture → List edges.Edge → Type 0
FollowsIf None y es = Unit {0}
FollowsIf (Some k) y es = Follows k y.served y.seen y.value es

-- what is kept of the served edges is as it was, or nothing
pub record SameMeasures (y z : kept.Capture) : Type 0 where
  pub served : z.served ≡ y.served
  pub seen : z.seen ≡ y.seen
  pub value : z.value ≡ y.value

pub record NoMeasures (z : kept.Capture) : Type 0 where
  pub served : z.served ≡ 0
  pub seen : z.seen ≡ Nothing
  pub value : z.value ≡ None

-- the call starts its channel anew, with nothing served
abbrev pub restarts : ChannelCall → Bool
restarts (StartTimestamp size interval) = true
restarts StartSignalMeasurement = true
restarts _ = false

-- the edges, and what is kept of them, after what starts a channel anew or doesn't
abbrev pub left_served : (restarts : Bool) → List edges.Edge → List edges.Edge
left_served true es = []
left_served false es = es

abbrev pub LeavesMeasures : (restarts : Bool) → (y z : kept.Capture) → Type 0
LeavesMeasures true y z = NoMeasures z
LeavesMeasures false y z = SameMeasures y z

-- a serving in this mode keeps the edge, and in this mode its time
abbrev pub keeps_edge : IcuMeasurementMode → Bool
keeps_edge Timestamp = true
keeps_edge SignalMeasurement = true
keeps_edge _ = false

abbrev pub more_served : (keeps : Bool) → List edges.Edge → edges.Edge → List edges.Edge
more_served true es e = es ++ e ∷ []
more_served false es e = es

abbrev pub more_stored : (stamps : Bool) → (place : ℕ) → edges.Edge → List machine.Stamp → List machine.Stamp
more_stored true place e stored = record { place = place; time = e.time } ∷ stored
more_stored false place e stored = stored

-- it stands for a channel of the machine
pub record ChannelStands (k : Option Channel) (y : kept.Capture) (x : machine.Capture) : Type 0 where
  pub served : List edges.Edge
  pub stored : List machine.Stamp
  pub is : x ≡ capture_of y served stored
  pub follows : FollowsIf k y served

-- ---- the module

-- What is kept: the table, how many servings there were, whether the module is initialised, each channel, and the stamps, 64 a channel.
pub record CapturesKept : Type 0 where
  pub driver : IcuTable
  pub servings : ℕ
  pub initialised : Bool
  pub channels : List kept.Capture
  pub stamps : List ℕ

-- a channel after a reset
abbrev pub blank : kept.Capture
blank = record { on = false; notification = false; activation = Rising; waiting = Empty; lost = false; active = false; count = 0; start = None; served = 0; seen = Nothing; value = None; handed_out = false }

-- It stands for a state of the machine, which has at most eight channels.
pub record StandsFor (y : CapturesKept) (s : IcuState) : Type 0 where
  pub initialised : y.initialised ≡ s.initialised
  pub few : length s.channels ≤ 8
  pub channels : (c : ℕ) → c < 8 → ChannelStands (channel_of y.driver c) (slice_index_or y.channels c blank) (capture_at s c)
  pub stamps : (c i : ℕ) → c < 8 → i < 64 → slice_index_or y.stamps (64 * c + i) 0 ≡ stamp_in (capture_at s c).stored i

-- a channel served no more often than there were servings
abbrev pub ServedWithin : (servings : ℕ) → kept.Capture → Type 0
ServedWithin servings y = y.served ≤ servings

-- with another channel
abbrev pub with_kept : CapturesKept → ℕ → kept.Capture → CapturesKept
with_kept t c y = record t { channels = slice_set t.channels c y }

-- with a time at a place of a channel's stamps, where that is one of 64, and the channel stamps edges
abbrev pub stored_at : List ℕ → (channel place time : ℕ) → List ℕ
stored_at stamps c place time = if nat_lt place 64 then slice_set stamps (64 * c + place) time else stamps

abbrev pub stored_if : (stamps_edges : Bool) → List ℕ → (channel place time : ℕ) → List ℕ
stored_if true stamps c place time = stored_at stamps c place time
stored_if false stamps c place time = stamps

-- the serving of the oldest edge that waits, where one does
abbrev pub served_if : Option Channel → IcuState → (channel : ℕ) → List edges.Edge → Option (Outcome IcuState)
served_if k s c [] = None
served_if k s c (e ∷ es) = Some (machine.served_edge k s c (e ∷ es))

-- the serving of a line's channel, where the line is ready
abbrev pub served_on : (of_line of_number : Option Channel) → IcuState → (channel : ℕ) → Option (Outcome IcuState)
served_on a b s c = if machine.ready_by a s c then Some (machine.served_edge b s c (capture_at s c).waiting) else None
