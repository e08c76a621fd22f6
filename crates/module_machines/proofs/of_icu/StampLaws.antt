-- No call and no edge changes a stamp.
use Rattle.std.proofs.Common.{◌≡◌, ℕ, ◌+◌, ◌%◌, ◌^◌, ◌<◌, ◌==◌, nat_lt, Bool, true, false, not, [], ◌∷◌, ◌++◌, length, Option, Some, None, refl, sym, ◌∙◌, ap}
use Rattle.std.specs.Prelude.{if◌then◌else◌, slice_index_or}
use Rattle.mcal_base.specs.facts.Numbers.{eq_is}
use Rattle.mcal_base.specs.declared.directive.Order.{Order}
use Rattle.mcal_base.specs.declared.directive.Order.TheVariants.{Level}
use Rattle.mcal_base.specs.declared.error_name.ErrorName.{ErrorName}
use Rattle.run_model.specs.World.{World}
use Rattle.module_machines.specs.icu.Checks.{error_by}
use Rattle.module_machines.specs.icu.Edges.{is_same}
use Rattle.module_machines.specs.icu.Machine.{IcuState, Capture, capture_at, by_channel, untouched, with_capture, edge_queued, is_taken, edge_taken, edge_at_pin, moved, cleared, channel_work, asked, cleared_all, acts_by, acts, is_on, stamp_in}
use Rattle.module_machines.specs.icu.Table.{channel_of, is_counter}
use Rattle.module_machines.specs.declared.icu.call.Call.{Call}
use Rattle.module_machines.specs.declared.icu.call.Call.TheVariants.{Init, DeInit, Channel}
use Rattle.module_machines.specs.declared.icu.call.ChannelCall.{ChannelCall}
use Rattle.module_machines.specs.declared.icu.call.ChannelCall.TheVariants as calls
use Rattle.module_machines.specs.declared.icu.table.Channel as configured
use Rattle.module_machines.specs.declared.icu.table.IcuTable.{IcuTable}
use Rattle.module_machines.specs.icu.laws.Channels.{by_channel_at, by_if}

-- a channel has the stamps that another had
abbrev SameStamps : Capture → Capture → Type 0
SameStamps x y = y.stored ≡ x.stored

-- ---- a channel

taken_same : (k : configured.Channel) (now : ℕ) (rising : Bool) (x : Capture) → SameStamps x (edge_taken k now rising x)
taken_same k now rising x =
    by_if (SameStamps x) (not (is_taken k rising x)) x (if is_counter k.mode then record x { count = (x.count + 1) % 2 ^ 32 } else edge_queued now rising x) refl
    (by_if (SameStamps x) (is_counter k.mode) (record x { count = (x.count + 1) % 2 ^ 32 }) (edge_queued now rising x) refl
    (by_if (SameStamps x) (nat_lt (length x.waiting) 4) (record x { waiting = x.waiting ++ record { time = now % 2 ^ 32; rising = rising; after_gap = x.lost } ∷ []; lost = false }) (record x { lost = true }) refl refl))

at_pin_same : (k : Option configured.Channel) (now pin : ℕ) (rising : Bool) (x : Capture) → SameStamps x (edge_at_pin k now pin rising x)
at_pin_same None now pin rising x = refl
at_pin_same (Some k) now pin rising x = by_if (SameStamps x) (k.pin == pin) (edge_taken k now rising x) x (taken_same k now rising x) refl

cleared_same : (k : Option configured.Channel) (x : Capture) → SameStamps x (cleared k x)
cleared_same None x = refl
cleared_same (Some k) x = refl

work_same : (call : ChannelCall) (x : Capture) → SameStamps x (channel_work call x)
work_same (calls.SetActivationCondition None) x = refl
work_same (calls.SetActivationCondition (Some edge)) x = refl
work_same _ x = refl

-- ---- the module

-- no channel's stamps are other ones
abbrev pub StampsStay : IcuState → IcuState → Type 0
StampsStay s t = (c i : ℕ) → c < 8 → stamp_in (capture_at t c).stored i ≡ stamp_in (capture_at s c).stored i

by_channel_same : (s t : IcuState) (f : ℕ → Capture) → t.channels ≡ by_channel f → ((c : ℕ) → SameStamps (capture_at s c) (f c)) → StampsStay s t
by_channel_same s t f e each c i lt =
    ap (λ xs. stamp_in (slice_index_or xs c untouched).stored i) e ∙ (ap (λ (x : Capture). stamp_in x.stored i) (by_channel_at f c lt) ∙ ap (λ xs. stamp_in xs i) (each c))

with_same : (s : IcuState) (c : ℕ) (x : Capture) → SameStamps (capture_at s c) x → StampsStay s (with_capture s c x)
with_same s c x same = by_channel_same s (with_capture s c x) (λ k. if k == c then x else capture_at s k) refl (λ k. by k (k == c) refl)
  where
    by : (k : ℕ) (q : Bool) → (k == c) ≡ q → SameStamps (capture_at s k) (if q then x else capture_at s k)
    by k true e = same ∙ ap (λ j. (capture_at s j).stored) (sym (eq_is k c e))
    by k false e = refl

pub moved_same : (d : IcuTable) (w : World) (s : IcuState) (order : Order) → StampsStay s (moved d w s order)
moved_same d w s (Level pin high) =
    by_if (StampsStay s) (is_same (w.levels pin) high) s (record s { channels = by_channel (λ c. edge_at_pin (channel_of d c) w.now pin high (capture_at s c)) }) (λ c i lt. refl)
    (by_channel_same s (record s { channels = by_channel (λ c. edge_at_pin (channel_of d c) w.now pin high (capture_at s c)) }) (λ c. edge_at_pin (channel_of d c) w.now pin high (capture_at s c)) refl
    (λ c. at_pin_same (channel_of d c) w.now pin high (capture_at s c)))
moved_same d w s order = λ c i lt. refl

asked_same : (k : Option configured.Channel) (s : IcuState) (c : ℕ) (call : ChannelCall) → StampsStay s (asked k s c call).state
asked_same None s c call = λ c i lt. refl
asked_same (Some k) s c call = with_same s c (channel_work call (capture_at s c)) (work_same call (capture_at s c))

acts_by_same : (d : IcuTable) (s : IcuState) (call : Call) (e : Option ErrorName) → StampsStay s (acts_by d s call e).state
acts_by_same d s call (Some e) = λ c i lt. refl
acts_by_same d s Init None = by_channel_same s (cleared_all d s true) (λ c. cleared (channel_of d c) (capture_at s c)) refl (λ c. cleared_same (channel_of d c) (capture_at s c))
acts_by_same d s DeInit None = by_channel_same s (cleared_all d s false) (λ c. cleared (channel_of d c) (capture_at s c)) refl (λ c. cleared_same (channel_of d c) (capture_at s c))
acts_by_same d s (Channel c call) None = asked_same (channel_of d c) s c call

pub acts_same : (d : IcuTable) (s : IcuState) (call : Call) → StampsStay s (acts d s call).state
acts_same d s call = acts_by_same d s call (error_by d call (not s.initialised) (is_on s call))
