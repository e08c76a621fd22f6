-- What calls do to their channel, and to all others.
use Rattle.std.proofs.Common.{◌≡◌, ◌≢◌, ℕ, ◌<◌, ◌%◌, ◌==◌, nat_lt, Bool, true, false, not, [], List, Option, Some, None, refl, sym, ◌∙◌, ap, subst}
use Rattle.std.specs.Prelude.{if◌then◌else◌}
use Rattle.std.proofs.Math.Nat.{zero-mod}
use Rattle.mcal_base.specs.facts.Numbers.{eq_other, eq_self}
use Rattle.mcal_base.specs.declared.config.icu.IcuSignalMeasurementProperty.{IcuSignalMeasurementProperty}
use Rattle.mcal_base.specs.declared.error_name.ErrorName.{ErrorName}
use Rattle.run_model.specs.Machine.{Outcome}
use Rattle.module_machines.specs.icu.Checks.{error_by}
use Rattle.module_machines.specs.icu.Edges.{newest, values_by}
use Rattle.module_machines.specs.icu.Claims.{IsCleared}
use Rattle.module_machines.specs.icu.Machine.{IcuState, Capture, Start, capture_at, with_capture, index_by, value_or, cleared, cleared_all, channel_work, asked, acts_by, acts, is_on}
use Rattle.module_machines.specs.icu.Table.{channel_of, is_linear}
use Rattle.module_machines.specs.declared.icu.call.Call.TheVariants.{Init, DeInit, Channel}
use Rattle.module_machines.specs.declared.icu.call.ChannelCall.{ChannelCall}
use Rattle.module_machines.specs.declared.icu.table.Channel as configured
use Rattle.module_machines.specs.declared.icu.table.IcuTable.{IcuTable}
use Rattle.module_machines.proofs.of_icu.RoomLaws.{none_there, within}
use Rattle.module_machines.specs.icu.laws.Channels.{by_channel_at, by_if}

-- a configured channel is one of the eight
pub below : (d : IcuTable) (c : ℕ) (k : configured.Channel) → channel_of d c ≡ Some k → c < 8
below d c k e = by (nat_lt c 8) refl
  where
    by : (q : Bool) → nat_lt c 8 ≡ q → c < 8
    by true f = within c f
    by false f = absurd (none_there c d k f e)

-- ---- one channel

-- a channel of the state with another one in its place
with_own : (s : IcuState) (c : ℕ) (x : Capture) → c < 8 → capture_at (with_capture s c x) c ≡ x
with_own s c x lt = by_channel_at (λ k. if k == c then x else capture_at s k) c lt ∙ ap (λ q. if q then x else capture_at s c) (eq_self c)

with_other : (s : IcuState) (c k : ℕ) (x : Capture) → k < 8 → k ≢ c → capture_at (with_capture s c x) k ≡ capture_at s k
with_other s c k x lt ne = by_channel_at (λ j. if j == c then x else capture_at s j) k lt ∙ ap (λ q. if q then x else capture_at s k) (eq_other k c ne)

own_by : (d : IcuTable) (s : IcuState) (c : ℕ) (k : configured.Channel) (call : ChannelCall) (o : Option ErrorName) → channel_of d c ≡ Some k
    → (acts_by d s (Channel c call) o).told.error ≡ None → capture_at (acts_by d s (Channel c call) o).state c ≡ channel_work call (capture_at s c)
own_by d s c k call (Some e) f g = absurd (cc)
own_by d s c k call None f g = ap (λ q. capture_at (asked q s c call).state c) f ∙ with_own s c (channel_work call (capture_at s c)) (below d c k f)

pub own_work : (d : IcuTable) (s : IcuState) (c : ℕ) (k : configured.Channel) (call : ChannelCall) → channel_of d c ≡ Some k
    → (acts d s (Channel c call)).told.error ≡ None → capture_at (acts d s (Channel c call)).state c ≡ channel_work call (capture_at s c)
own_work d s c k call f g = own_by d s c k call (error_by d (Channel c call) (not s.initialised) (is_on s (Channel c call))) f g

asked_other : (s : IcuState) (c other : ℕ) (call : ChannelCall) (o : Option configured.Channel) → other < 8 → other ≢ c → capture_at (asked o s c call).state other ≡ capture_at s other
asked_other s c other call None lt ne = refl
asked_other s c other call (Some k) lt ne = with_other s c other (channel_work call (capture_at s c)) lt ne

other_by : (d : IcuTable) (s : IcuState) (c other : ℕ) (call : ChannelCall) (o : Option ErrorName) → other < 8 → other ≢ c → capture_at (acts_by d s (Channel c call) o).state other ≡ capture_at s other
other_by d s c other call (Some e) lt ne = refl
other_by d s c other call None lt ne = asked_other s c other call (channel_of d c) lt ne

pub other_channel : (d : IcuTable) (s : IcuState) (c other : ℕ) (call : ChannelCall) → other < 8 → other ≢ c → capture_at (acts d s (Channel c call)).state other ≡ capture_at s other
other_channel d s c other call lt ne = other_by d s c other call (error_by d (Channel c call) (not s.initialised) (is_on s (Channel c call))) lt ne

-- ---- the whole module

begins_at : (k : configured.Channel) (a : Option Start) → index_by k a 0 ≡ 0
begins_at k None = refl
begins_at k (Some a) = by_if (λ n. n ≡ 0) (is_linear k.buffer) 0 (0 % a.size) refl (zero-mod a.size)

no_value : (k : configured.Channel) (p : Option IcuSignalMeasurementProperty) (none : List ℕ) → value_or none (newest (values_by p k [])) ≡ none
no_value k None none = refl
no_value k (Some p) none = refl

cleared_is : (k : configured.Channel) (x : Capture) → IsCleared k (cleared (Some k) x)
cleared_is k x = record { off = refl; quiet = refl; default = refl; empty = refl; unmarked = refl; uncounted = refl; begins = begins_at k x.start; nothing = λ none. no_value k k.measured none }

all_cleared : (d : IcuTable) (s : IcuState) (initialised : Bool) (c : ℕ) (k : configured.Channel) → channel_of d c ≡ Some k → IsCleared k (capture_at (cleared_all d s initialised) c)
all_cleared d s initialised c k e =
    let at : capture_at (cleared_all d s initialised) c ≡ cleared (Some k) (capture_at s c) = by_channel_at (λ i. cleared (channel_of d i) (capture_at s i)) c (below d c k e) ∙ ap (λ q. cleared q (capture_at s c)) e in
    subst (IsCleared k) (sym at) (cleared_is k (capture_at s c))

pub init_clears : (d : IcuTable) (s : IcuState) (c : ℕ) (k : configured.Channel) → s.initialised ≡ false → channel_of d c ≡ Some k → IsCleared k (capture_at (acts d s Init).state c)
init_clears d s c k e f =
    let at : acts d s Init ≡ acts_by d s Init None = ap (λ q. acts_by d s Init (error_by d Init (not q) false)) e in
    subst (λ (o : Outcome IcuState). IsCleared k (capture_at o.state c)) (sym at) (all_cleared d s true c k f)

pub deinit_clears : (d : IcuTable) (s : IcuState) (c : ℕ) (k : configured.Channel) → s.initialised ≡ true → channel_of d c ≡ Some k → IsCleared k (capture_at (acts d s DeInit).state c)
deinit_clears d s c k e f =
    let at : acts d s DeInit ≡ acts_by d s DeInit None = ap (λ q. acts_by d s DeInit (error_by d DeInit (not q) false)) e in
    subst (λ (o : Outcome IcuState). IsCleared k (capture_at o.state c)) (sym at) (all_cleared d s false c k f)
