-- Whatever happens, at most four edges wait on each channel.
use Rattle.std.proofs.Common.{◌≡◌, ℕ, ◌+◌, ◌%◌, ◌^◌, ◌<◌, ◌≤◌, ◌==◌, nat_lt, Bool, true, false, not, List, [], ◌∷◌, ◌++◌, length, Option, Some, None, refl, sym, ap, subst, arith, length-append}
use Rattle.std.specs.Prelude.{if◌then◌else◌, slice_index_or}
use Rattle.std.proofs.lemmas.Bool.Decides.{nat_tests}
use Rattle.mcal_base.specs.declared.config.icu.IcuMeasurementMode.{IcuMeasurementMode}
use Rattle.mcal_base.specs.declared.config.icu.IcuMeasurementMode.TheVariants.{SignalEdgeDetect, EdgeCounter, Timestamp, SignalMeasurement}
use Rattle.mcal_base.specs.declared.directive.Order.{Order}
use Rattle.mcal_base.specs.declared.directive.Order.TheVariants.{Level}
use Rattle.mcal_base.specs.declared.error_name.ErrorName.{ErrorName}
use Rattle.run_model.specs.World.{World}
use Rattle.run_model.specs.Machine.{Happening, Acts, Serves, Starts, Aborts, Moves, Restarts, Outcome, tells_nothing, outcome}
use Rattle.module_machines.specs.icu.Checks.{error_by}
use Rattle.module_machines.specs.icu.Edges.{Edge, is_same}
use Rattle.module_machines.specs.icu.Claims.{HasRoom}
use Rattle.module_machines.specs.icu.Machine.{IcuState, Capture, capture_at, by_channel, untouched, with_capture, first_state, edge_queued, is_taken, edge_taken, edge_at_pin, moved, switched, cleared, channel_work, asked, cleared_all, acts_by, acts, is_on, is_full, completes, served_by, served_edge, served, ready, happens, index}
use Rattle.module_machines.specs.icu.Table.{channel_of, channel_number, is_counter}
use Rattle.module_machines.specs.declared.icu.call.Call.{Call}
use Rattle.module_machines.specs.declared.icu.call.Call.TheVariants.{Init, DeInit, Channel}
use Rattle.module_machines.specs.declared.icu.call.ChannelCall.{ChannelCall}
use Rattle.module_machines.specs.declared.icu.call.ChannelCall.TheVariants as calls
use Rattle.module_machines.specs.declared.icu.table.Channel as configured
use Rattle.module_machines.specs.declared.icu.table.IcuTable.{IcuTable}
use Rattle.module_machines.specs.icu.laws.Channels.{by_channel_at, by_if}

-- at most four edges wait on a channel
abbrev Few : Capture → Type 0
Few x = length x.waiting ≤ 4

none_waits : 0 ≤ 4
none_waits = omega arith

-- ---- a channel

queued_few : (now : ℕ) (rising : Bool) (x : Capture) (q : Bool) → nat_lt (length x.waiting) 4 ≡ q → Few x
    → Few (if q then record x { waiting = x.waiting ++ record { time = now % 2 ^ 32; rising = rising; after_gap = x.lost } ∷ []; lost = false } else record x { lost = true })
queued_few now rising x true e h =
    let less : length x.waiting < 4 = is_less (length x.waiting) e in
    rw (length-append x.waiting (record { time = now % 2 ^ 32; rising = rising; after_gap = x.lost } ∷ [])) (omega (arith, less))
  where
    is_less : (n : ℕ) → nat_lt n 4 ≡ true → n < 4
    is_less n e = grind (arith, nat_tests)
queued_few now rising x false e h = h

taken_few : (k : configured.Channel) (now : ℕ) (rising : Bool) (x : Capture) → Few x → Few (edge_taken k now rising x)
taken_few k now rising x h =
    by_if Few (not (is_taken k rising x)) x (if is_counter k.mode then record x { count = (x.count + 1) % 2 ^ 32 } else edge_queued now rising x) h
    (by_if Few (is_counter k.mode) (record x { count = (x.count + 1) % 2 ^ 32 }) (edge_queued now rising x) h (queued_few now rising x (nat_lt (length x.waiting) 4) refl h))

at_pin_few : (k : Option configured.Channel) (now pin : ℕ) (rising : Bool) (x : Capture) → Few x → Few (edge_at_pin k now pin rising x)
at_pin_few None now pin rising x h = h
at_pin_few (Some k) now pin rising x h = by_if Few (k.pin == pin) (edge_taken k now rising x) x (taken_few k now rising x h) h

cleared_few : (k : Option configured.Channel) (x : Capture) → Few x → Few (cleared k x)
cleared_few None x h = h
cleared_few (Some k) x h = none_waits

work_few : (call : ChannelCall) (x : Capture) → Few x → Few (channel_work call x)
work_few (calls.SetActivationCondition None) x h = h
work_few (calls.SetActivationCondition (Some edge)) x h = h
work_few calls.EnableNotification x h = h
work_few calls.DisableNotification x h = h
work_few calls.GetInputState x h = h
work_few calls.EnableEdgeDetection x h = none_waits
work_few calls.DisableEdgeDetection x h = none_waits
work_few calls.ResetEdgeCount x h = h
work_few calls.EnableEdgeCount x h = none_waits
work_few calls.DisableEdgeCount x h = none_waits
work_few calls.GetEdgeNumbers x h = h
work_few (calls.StartTimestamp size interval) x h = none_waits
work_few calls.StopTimestamp x h = none_waits
work_few calls.GetTimestampIndex x h = h
work_few calls.StartSignalMeasurement x h = none_waits
work_few calls.StopSignalMeasurement x h = none_waits
work_few calls.GetTimeElapsed x h = h
work_few calls.GetDutyCycleValues x h = h

served_few : (m : IcuMeasurementMode) (k : configured.Channel) (e : Edge) (x : Capture) → Few x → Few (served_by m k e x)
served_few SignalEdgeDetect k e x h = h
served_few EdgeCounter k e x h = h
served_few Timestamp k e x h =
    let y : Capture = record x { served = x.served ++ e ∷ []; stored = record { place = index k x; time = e.time } ∷ x.stored } in
    by_if Few (is_full k x.start (length x.served + 1)) (switched false y) y none_waits h
served_few SignalMeasurement k e x h =
    let y : Capture = record x { served = x.served ++ e ∷ [] } in
    by_if Few (completes k x.served e) (record y { active = true; handed_out = false }) y h h

-- ---- the module

-- the channels of a table have room where each one has
by_channel_room : (s : IcuState) (f : ℕ → Capture) → s.channels ≡ by_channel f → ((c : ℕ) → c < 8 → Few (f c)) → HasRoom s
by_channel_room s f e each c lt = subst (λ xs. Few (slice_index_or xs c untouched)) (sym e) (subst Few (sym (by_channel_at f c lt)) (each c lt))

moved_room : (d : IcuTable) (w : World) (s : IcuState) (order : Order) → HasRoom s → HasRoom (moved d w s order)
moved_room d w s (Level pin high) room =
    by_if HasRoom (is_same (w.levels pin) high) s (record s { channels = by_channel (λ c. edge_at_pin (channel_of d c) w.now pin high (capture_at s c)) }) room
    (by_channel_room (record s { channels = by_channel (λ c. edge_at_pin (channel_of d c) w.now pin high (capture_at s c)) }) (λ c. edge_at_pin (channel_of d c) w.now pin high (capture_at s c)) refl
    (λ c lt. at_pin_few (channel_of d c) w.now pin high (capture_at s c) (room c lt)))
moved_room d w s order room = room

with_room : (s : IcuState) (c : ℕ) (x : Capture) → HasRoom s → Few x → HasRoom (with_capture s c x)
with_room s c x room few =
    by_channel_room (with_capture s c x) (λ k. if k == c then x else capture_at s k) refl (λ k lt. by_if Few (k == c) x (capture_at s k) few (room k lt))

cleared_room : (d : IcuTable) (s : IcuState) (initialised : Bool) → HasRoom s → HasRoom (cleared_all d s initialised)
cleared_room d s initialised room =
    by_channel_room (cleared_all d s initialised) (λ c. cleared (channel_of d c) (capture_at s c)) refl (λ c lt. cleared_few (channel_of d c) (capture_at s c) (room c lt))

pub within : (c : ℕ) → nat_lt c 8 ≡ true → c < 8
within c e = grind (arith, nat_tests)

-- no channel is configured past the eighth
pub none_there : (c : ℕ) (d : IcuTable) (k : configured.Channel) → nat_lt c 8 ≡ false → channel_of d c ≡ Some k → ⊥
none_there c d k e f =
    let none : channel_of d c ≡ None = ap (λ q. if q then slice_index_or d.channels c None else None) e in
    absurd (cc)

asked_room : (d : IcuTable) (s : IcuState) (c : ℕ) (call : ChannelCall) → HasRoom s → HasRoom (asked (channel_of d c) s c call).state
asked_room d s c call room = by (channel_of d c) (nat_lt c 8) refl refl
  where
    by : (k : Option configured.Channel) (q : Bool) → nat_lt c 8 ≡ q → channel_of d c ≡ k → HasRoom (asked k s c call).state
    by None q e f = room
    by (Some k) true e f = with_room s c (channel_work call (capture_at s c)) room (work_few call (capture_at s c) (room c (within c e)))
    by (Some k) false e f = absurd (none_there c d k e f)

served_room : (d : IcuTable) (s : IcuState) (c : ℕ) → HasRoom s → HasRoom (served d s c).state
served_room d s c room = by (channel_of d c) (nat_lt c 8) (capture_at s c).waiting refl refl refl
  where
    by : (k : Option configured.Channel) (q : Bool) (es : List Edge) → nat_lt c 8 ≡ q → channel_of d c ≡ k → (capture_at s c).waiting ≡ es → HasRoom (served_edge k s c es).state
    by None q es e f g = room
    by (Some k) q [] e f g = room
    by (Some k) true (x ∷ xs) e f g =
        let few : length (x ∷ xs) ≤ 4 = subst (λ ys. length ys ≤ 4) g (room c (within c e)) in
        let y : Capture = record (capture_at s c) { waiting = xs } in
        with_room s c (served_by k.mode k x y) room (served_few k.mode k x y (omega (arith, few)))
    by (Some k) false (x ∷ xs) e f g = absurd (none_there c d k e f)

acts_room : (d : IcuTable) (s : IcuState) (call : Call) (e : Option ErrorName) → HasRoom s → HasRoom (acts_by d s call e).state
acts_room d s call (Some e) room = room
acts_room d s Init None room = cleared_room d s true room
acts_room d s DeInit None room = cleared_room d s false room
acts_room d s (Channel c call) None room = asked_room d s c call room

first_room : HasRoom first_state
first_room c lt = none_waits

-- whatever happens
pub happens_room : (d : IcuTable) (w : World) (s : IcuState) (h : Happening Call) (out : Outcome IcuState) → HasRoom s → happens d w s h ≡ Some out → HasRoom out.state
happens_room d w s (Acts call committed) out room e =
    let at : acts d s call ≡ out = cc in
    subst (λ (o : Outcome IcuState). HasRoom o.state) at (acts_room d s call (error_by d call (not s.initialised) (is_on s call)) room)
happens_room d w s (Serves l received) out room e = by (ready d w s l) e
  where
    by : (q : Bool) → (if q then Some (served d s (channel_number l)) else None) ≡ Some out → HasRoom out.state
    by true f =
        let at : served d s (channel_number l) ≡ out = cc in
        subst (λ (o : Outcome IcuState). HasRoom o.state) at (served_room d s (channel_number l) room)
    by false f = absurd (cc)
happens_room d w s (Starts u made_by received) out room e = absurd (cc)
happens_room d w s (Aborts u) out room e = absurd (cc)
happens_room d w s (Moves order) out room e =
    let at : outcome (moved d w s order) tells_nothing ≡ out = cc in
    subst (λ (o : Outcome IcuState). HasRoom o.state) at (moved_room d w s order room)
happens_room d w s (Restarts reason) out room e =
    let at : outcome first_state tells_nothing ≡ out = cc in
    subst (λ (o : Outcome IcuState). HasRoom o.state) at first_room
