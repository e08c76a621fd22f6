-- The times of a capture channel's edges and stamps have 32 bits, whatever happens.
use Rattle.std.proofs.Common.{ℕ, ◌+◌, ◌%◌, ◌^◌, Bool, true, false, List, [], ◌∷◌, ◌++◌, length, Option, Some, None, arith, mod-lt}
use Rattle.std.specs.Prelude.{nat_lt, not, ◌==◌, if◌then◌else◌}
use Rattle.mcal_base.specs.declared.config.icu.IcuMeasurementMode.{IcuMeasurementMode}
use Rattle.mcal_base.specs.declared.config.icu.IcuMeasurementMode.TheVariants.{SignalEdgeDetect, EdgeCounter, Timestamp, SignalMeasurement}
use Rattle.mcal_base.specs.declared.directive.Order.{Order}
use Rattle.mcal_base.specs.declared.directive.Order.TheVariants.{Level}
use Rattle.mcal_base.specs.declared.error_name.ErrorName.{ErrorName}
use Rattle.run_model.specs.Frame.{state_by}
use Rattle.run_model.specs.Machine.{Happening, Acts, Serves, Starts, Aborts, Moves, Restarts}
use Rattle.run_model.specs.World.{World}
use Rattle.module_machines.specs.icu.Bounds.{icu_setting}
use Rattle.module_machines.specs.icu.Checks.{error_by}
use Rattle.module_machines.specs.icu.Edges.{Edge, is_same}
use Rattle.module_machines.specs.icu.Machine.{IcuState, Capture, Stamp, untouched, capture_at, by_channel, with_capture, edge_queued, edge_taken, edge_at_pin, is_taken, moved, switched, cleared, cleared_all, channel_work, asked, work, acts_by, is_on, stamped, index, is_full, measured, completes, served_by, served_edge, served, ready, happens, stamp_in}
use Rattle.module_machines.specs.icu.Table.{channel_of, channel_number, is_counter}
use Rattle.module_machines.specs.declared.icu.call.Call.{Call}
use Rattle.module_machines.specs.declared.icu.call.Call.TheVariants as calls
use Rattle.module_machines.specs.declared.icu.call.ChannelCall.{ChannelCall}
use Rattle.module_machines.specs.declared.icu.call.ChannelCall.TheVariants.{SetActivationCondition, EnableNotification, DisableNotification, GetInputState, EnableEdgeDetection, DisableEdgeDetection, ResetEdgeCount, EnableEdgeCount, DisableEdgeCount, GetEdgeNumbers, StartTimestamp, StopTimestamp, GetTimestampIndex, StartSignalMeasurement, StopSignalMeasurement, GetTimeElapsed, GetDutyCycleValues}
use Rattle.module_machines.specs.declared.icu.table.Channel.{Channel}
use Rattle.module_machines.specs.declared.icu.table.IcuTable.{IcuTable}
use Rattle.bench_report.specs.Numbers.{IsNumber, Each}
use Rattle.trace_promises.proofs.Within.{each_append}
use Rattle.trace_promises.specs.Keeping.{WorldFits, HappeningFits, Keeps}
use Rattle.trace_promises.specs.Numbers.{EdgeFits, StampFits, CaptureFits, CapturesFit}
use Rattle.trace_promises.proofs.Lists.{chosen, at_place}

-- ---- eight channels

channels_fit : (f : ℕ → Capture) → ((c : ℕ) → CaptureFits (f c)) → Each CaptureFits (by_channel f)
channels_fit f h = (h 0, (h 1, (h 2, (h 3, (h 4, (h 5, (h 6, (h 7, tt))))))))

untouched_fits : CaptureFits untouched
untouched_fits = (tt, tt)

all_fit : (f : ℕ → Capture) (initialised : Bool) → ((c : ℕ) → CaptureFits (f c)) → CapturesFit (record { initialised = initialised; channels = by_channel f })
all_fit f initialised h c = at_place CaptureFits (by_channel f) c untouched (channels_fit f h) untouched_fits

with_fits : (s : IcuState) (c : ℕ) (x : Capture) → CapturesFit s → CaptureFits x → CapturesFit (with_capture s c x)
with_fits s c x h k = all_fit (λ n. if n == c then x else capture_at s n) s.initialised (λ n. chosen CaptureFits (n == c) x (capture_at s n) k (h n))

-- ---- edges

of_32 : (n : ℕ) → IsNumber (n % 2 ^ 32)
of_32 n = mod-lt n (omega arith)

queued_by : (b : Bool) (now : ℕ) (rising : Bool) (x : Capture) → CaptureFits x →
    CaptureFits (if b then record x { waiting = x.waiting ++ record { time = now % 2 ^ 32; rising = rising; after_gap = x.lost } ∷ []; lost = false } else record x { lost = true })
queued_by true now rising x h = (each_append EdgeFits x.waiting _ h.0 (of_32 now, tt), h.1)
queued_by false now rising x h = h

taken_by : (b q : Bool) (now : ℕ) (rising : Bool) (x : Capture) → CaptureFits x → CaptureFits (if b then x else if q then record x { count = (x.count + 1) % 2 ^ 32 } else edge_queued now rising x)
taken_by true q now rising x h = h
taken_by false true now rising x h = h
taken_by false false now rising x h = queued_by (nat_lt (length x.waiting) 4) now rising x h

edge_fits : (k : Option Channel) (now pin : ℕ) (rising : Bool) (x : Capture) → CaptureFits x → CaptureFits (edge_at_pin k now pin rising x)
edge_fits None now pin rising x h = h
edge_fits (Some k) now pin rising x h = chosen CaptureFits (k.pin == pin) (edge_taken k now rising x) x (taken_by (not (is_taken k rising x)) (is_counter k.mode) now rising x h) h

level_fits : (b : Bool) (d : IcuTable) (w : World) (s : IcuState) (pin : ℕ) (high : Bool) → CapturesFit s →
    CapturesFit (if b then s else record s { channels = by_channel (λ c. edge_at_pin (channel_of d c) w.now pin high (capture_at s c)) })
level_fits true d w s pin high h = h
level_fits false d w s pin high h = all_fit (λ c. edge_at_pin (channel_of d c) w.now pin high (capture_at s c)) s.initialised (λ c. edge_fits (channel_of d c) w.now pin high (capture_at s c) (h c))

moved_fits : (d : IcuTable) (w : World) (s : IcuState) (order : Order) → CapturesFit s → CapturesFit (moved d w s order)
moved_fits d w s (Level pin high) h = level_fits (is_same (w.levels pin) high) d w s pin high h
moved_fits d w s _ h = h

-- ---- calls

cleared_fits : (k : Option Channel) (x : Capture) → CaptureFits x → CaptureFits (cleared k x)
cleared_fits None x h = h
cleared_fits (Some k) x h = (tt, h.1)

work_fits : (call : ChannelCall) (x : Capture) → CaptureFits x → CaptureFits (channel_work call x)
work_fits (SetActivationCondition None) x h = h
work_fits (SetActivationCondition (Some edge)) x h = h
work_fits EnableNotification x h = h
work_fits DisableNotification x h = h
work_fits GetInputState x h = h
work_fits EnableEdgeDetection x h = (tt, h.1)
work_fits DisableEdgeDetection x h = (tt, h.1)
work_fits ResetEdgeCount x h = h
work_fits EnableEdgeCount x h = (tt, h.1)
work_fits DisableEdgeCount x h = (tt, h.1)
work_fits GetEdgeNumbers x h = h
work_fits (StartTimestamp size interval) x h = (tt, h.1)
work_fits StopTimestamp x h = (tt, h.1)
work_fits GetTimestampIndex x h = h
work_fits StartSignalMeasurement x h = (tt, h.1)
work_fits StopSignalMeasurement x h = (tt, h.1)
work_fits GetTimeElapsed x h = h
work_fits GetDutyCycleValues x h = h

asked_fits : (k : Option Channel) (s : IcuState) (c : ℕ) (call : ChannelCall) → CapturesFit s → CapturesFit (asked k s c call).state
asked_fits None s c call h = h
asked_fits (Some k) s c call h = with_fits s c (channel_work call (capture_at s c)) h (work_fits call (capture_at s c) (h c))

whole_fits : (d : IcuTable) (s : IcuState) (initialised : Bool) → CapturesFit s → CapturesFit (cleared_all d s initialised)
whole_fits d s initialised h = all_fit (λ c. cleared (channel_of d c) (capture_at s c)) initialised (λ c. cleared_fits (channel_of d c) (capture_at s c) (h c))

call_fits : (d : IcuTable) (s : IcuState) (call : Call) → CapturesFit s → CapturesFit (work d s call).state
call_fits d s calls.Init h = whole_fits d s true h
call_fits d s calls.DeInit h = whole_fits d s false h
call_fits d s (calls.Channel c call) h = asked_fits (channel_of d c) s c call h

act_fits : (d : IcuTable) (s : IcuState) (call : Call) (e : Option ErrorName) → CapturesFit s → CapturesFit (acts_by d s call e).state
act_fits d s call None h = call_fits d s call h
act_fits d s call (Some e) h = h

-- ---- servings

stamped_fits : (k : Channel) (e : Edge) (x : Capture) → EdgeFits e → CaptureFits x → CaptureFits (stamped k e x)
stamped_fits k e x lt h =
    let y : Capture = record x { served = x.served ++ e ∷ []; stored = record { place = index k x; time = e.time } ∷ x.stored } in
    chosen CaptureFits (is_full k x.start (length x.served + 1)) (switched false y) y (tt, (lt, h.1)) (h.0, (lt, h.1))

measured_fits : (k : Channel) (e : Edge) (x : Capture) → CaptureFits x → CaptureFits (measured k e x)
measured_fits k e x h =
    let y : Capture = record x { served = x.served ++ e ∷ [] } in
    chosen CaptureFits (completes k x.served e) (record y { active = true; handed_out = false }) y h h

mode_fits : (mode : IcuMeasurementMode) (k : Channel) (e : Edge) (x : Capture) → EdgeFits e → CaptureFits x → CaptureFits (served_by mode k e x)
mode_fits SignalEdgeDetect k e x lt h = h
mode_fits EdgeCounter k e x lt h = h
mode_fits Timestamp k e x lt h = stamped_fits k e x lt h
mode_fits SignalMeasurement k e x lt h = measured_fits k e x h

edges_fit : (k : Option Channel) (s : IcuState) (c : ℕ) (es : List Edge) → CapturesFit s → Each EdgeFits es → CapturesFit (served_edge k s c es).state
edges_fit (Some k) s c (e ∷ es) h p = with_fits s c _ h (mode_fits k.mode k e (record (capture_at s c) { waiting = es }) p.0 (p.1, (h c).1))
edges_fit (Some k) s c [] h p = h
edges_fit None s c es h p = h

serving_fits : (b : Bool) (d : IcuTable) (s : IcuState) (c : ℕ) → CapturesFit s → CapturesFit (state_by s (if b then Some (served d s c) else None))
serving_fits true d s c h = edges_fit (channel_of d c) s c (capture_at s c).waiting h (h c).0
serving_fits false d s c h = h

-- ---- the machine

stays : (d : IcuTable) (w : World) (s : IcuState) (x : Happening Call) → WorldFits w → HappeningFits x → CapturesFit s → CapturesFit (state_by s (happens d w s x))
stays d w s (Acts call committed) v f h = act_fits d s call (error_by d call (not s.initialised) (is_on s call)) h
stays d w s (Serves l received) v f h = serving_fits (ready d w s l) d s (channel_number l) h
stays d w s (Starts u made_by received) v f h = h
stays d w s (Aborts u) v f h = h
stays d w s (Moves order) v f h = moved_fits d w s order h
stays d w s (Restarts reason) v f h = λ c. at_place CaptureFits [] c untouched tt untouched_fits

pub captures_keep : (d : IcuTable) → Keeps (icu_setting d) CapturesFit
captures_keep d = record { first = λ c. at_place CaptureFits [] c untouched tt untouched_fits; stays = stays d }

-- what is shown
stamp_of : (xs : List Stamp) (i : ℕ) → Each StampFits xs → IsNumber (stamp_in xs i)
stamp_of [] i h = omega arith
stamp_of (x ∷ xs) i h = chosen IsNumber (x.place == i) x.time (stamp_in xs i) h.0 (stamp_of xs i h.1)

pub stamp_fits : (s : IcuState) (c i : ℕ) → CapturesFit s → IsNumber (stamp_in (capture_at s c).stored i)
stamp_fits s c i h = stamp_of (capture_at s c).stored i (h c).1
