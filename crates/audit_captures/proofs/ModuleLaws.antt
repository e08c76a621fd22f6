-- What stands for the module's state, with one channel changed, with all of them changed, and with a time stored.
use Rattle.std.proofs.Common.{◌≡◌, ◌≢◌, ◌⊎◌, inl, inr, ℕ, zero, suc, ◌+◌, ◌*◌, ◌<◌, ◌≤◌, nat_lt, length, arith, Bool, true, false, List, [], ◌∷◌, ◌∙◌, refl, sym, ap, subst, replicate, slice_index_or, slice_set}
use Rattle.std.specs.Prelude.{◌==◌, if◌then◌else◌, Option}
use Rattle.std.proofs.lemmas.List.{get_or_past, get_or-set_same, get_or-set_other}
use Rattle.std.proofs.lemmas.Grind.{get_or-set_at, common_steps}
use Rattle.std.proofs.lemmas.Bool.Decides.{nat_tests}
use Rattle.mcal_base.specs.facts.Numbers.{lt_is, lt_isnt, same_or_other}
use Rattle.module_machines.specs.icu.Edges as edges
use Rattle.module_machines.specs.icu.Machine as machine
use Rattle.module_machines.specs.icu.Machine.{IcuState, capture_at, with_capture, by_channel, stamp_in}
use Rattle.module_machines.specs.icu.Table.{channel_of}
use Rattle.module_machines.specs.icu.laws.Channels.{with_same, with_other, by_eight, by_channel_at}
use Rattle.audit_captures.specs.Stands.{CapturesKept, ChannelStands, blank, more_stored, stored_at, stored_if}
use Rattle.module_machines.specs.declared.icu.table.Channel.{Channel}
use Rattle.audit_captures.specs.declared.capture.Capture as kept
use Rattle.audit_captures.proofs.ChannelLaws.{no-follows}

-- each channel stands
abbrev pub AllStand : CapturesKept → IcuState → Type 0
AllStand t s = (c : ℕ) → c < 8 → ChannelStands (channel_of t.driver c) (slice_index_or t.channels c blank) (capture_at s c)

-- a channel is on in both, also one of a number that none has
pub on-same : (t : CapturesKept) (s : IcuState) (c : ℕ) → length t.channels ≡ 8 → length s.channels ≤ 8 → AllStand t s → (slice_index_or t.channels c blank).on ≡ (capture_at s c).on
on-same t s c size few h = by (nat_lt c 8) refl
  where
    by : (q : Bool) → nat_lt c 8 ≡ q → (slice_index_or t.channels c blank).on ≡ (capture_at s c).on
    by true e = sym (ap (λ (x : machine.Capture). x.on) (h c (lt_is c 8 e)).is)
    by false e =
        let past = lt_isnt c 8 e in
        ap (λ (y : kept.Capture). y.on) (get_or_past t.channels c blank (omega (arith, size, past)))
        ∙ sym (ap (λ (x : machine.Capture). x.on) (get_or_past s.channels c machine.untouched (omega (arith, few, past))))

-- ---- one channel

same_place : (t : CapturesKept) (s : IcuState) (c : ℕ) (y : kept.Capture) (x : machine.Capture) → length t.channels ≡ 8 → c < 8 → ChannelStands (channel_of t.driver c) y x
    → ChannelStands (channel_of t.driver c) (slice_index_or (slice_set t.channels c y) c blank) (capture_at (with_capture s c x) c)
same_place t s c y x size lt new =
    let there : c < length t.channels = subst (λ n. c < n) (sym size) lt in
    subst (λ z. ChannelStands (channel_of t.driver c) z (capture_at (with_capture s c x) c)) (sym (get_or-set_same t.channels c y blank there))
    (subst (λ z. ChannelStands (channel_of t.driver c) y z) (sym (with_same s c x lt)) new)

pub set-stands : (t : CapturesKept) (s : IcuState) (c : ℕ) (y : kept.Capture) (x : machine.Capture) → length t.channels ≡ 8 → c < 8 → AllStand t s → ChannelStands (channel_of t.driver c) y x
    → AllStand (record t { channels = slice_set t.channels c y }) (with_capture s c x)
set-stands t s c y x size lt h new j small = by (same_or_other j c)
  where
    by : (j ≡ c) ⊎ (j ≢ c) → ChannelStands (channel_of t.driver j) (slice_index_or (slice_set t.channels c y) j blank) (capture_at (with_capture s c x) j)
    by (inl e) = subst (λ i. ChannelStands (channel_of t.driver i) (slice_index_or (slice_set t.channels c y) i blank) (capture_at (with_capture s c x) i)) (sym e) (same_place t s c y x size lt new)
    by (inr ne) =
        subst (λ z. ChannelStands (channel_of t.driver j) z (capture_at (with_capture s c x) j)) (sym (get_or-set_other t.channels c j y blank ne))
        (subst (λ z. ChannelStands (channel_of t.driver j) (slice_index_or t.channels j blank) z) (sym (with_other s c j x small ne)) (h j small))

-- ---- the stamps

abbrev pub StampsStand : List ℕ → IcuState → Type 0
StampsStand stamps s = (c i : ℕ) → c < 8 → i < 64 → slice_index_or stamps (64 * c + i) 0 ≡ stamp_in (capture_at s c).stored i

-- of a state whose channels store the same
pub same-stamps : (stamps : List ℕ) (s r : IcuState) → ((c : ℕ) → c < 8 → (capture_at r c).stored ≡ (capture_at s c).stored) → StampsStand stamps s → StampsStand stamps r
same-stamps stamps s r same h c i lt small = h c i lt small ∙ ap (λ stored. stamp_in stored i) (sym (same c lt))

pub with-stored : (s : IcuState) (c : ℕ) (x : machine.Capture) → c < 8 → x.stored ≡ (capture_at s c).stored → (j : ℕ) → j < 8 → (capture_at (with_capture s c x) j).stored ≡ (capture_at s j).stored
with-stored s c x lt e j small = by (same_or_other j c)
  where
    by : (j ≡ c) ⊎ (j ≢ c) → (capture_at (with_capture s c x) j).stored ≡ (capture_at s j).stored
    by (inl f) = subst (λ i. (capture_at (with_capture s c x) i).stored ≡ (capture_at s i).stored) (sym f) (ap (λ (y : machine.Capture). y.stored) (with_same s c x lt) ∙ e)
    by (inr ne) = ap (λ (y : machine.Capture). y.stored) (with_other s c j x small ne)

-- ---- all channels

pub table-stands : (t : CapturesKept) (s : IcuState) (f : ℕ → machine.Capture) (y0 y1 y2 y3 y4 y5 y6 y7 : kept.Capture)
    → ChannelStands (channel_of t.driver 0) y0 (f 0) → ChannelStands (channel_of t.driver 1) y1 (f 1) → ChannelStands (channel_of t.driver 2) y2 (f 2) → ChannelStands (channel_of t.driver 3) y3 (f 3)
    → ChannelStands (channel_of t.driver 4) y4 (f 4) → ChannelStands (channel_of t.driver 5) y5 (f 5) → ChannelStands (channel_of t.driver 6) y6 (f 6) → ChannelStands (channel_of t.driver 7) y7 (f 7)
    → AllStand (record t { channels = y0 ∷ y1 ∷ y2 ∷ y3 ∷ y4 ∷ y5 ∷ y6 ∷ y7 ∷ [] }) (record s { channels = by_channel f })
table-stands t s f y0 y1 y2 y3 y4 y5 y6 y7 h0 h1 h2 h3 h4 h5 h6 h7 =
    by_eight (λ c. ChannelStands (channel_of t.driver c) (slice_index_or (y0 ∷ y1 ∷ y2 ∷ y3 ∷ y4 ∷ y5 ∷ y6 ∷ y7 ∷ []) c blank) (slice_index_or (by_channel f) c machine.untouched)) h0 h1 h2 h3 h4 h5 h6 h7

pub table-stored : (s : IcuState) (f : ℕ → machine.Capture) → ((c : ℕ) → (f c).stored ≡ (capture_at s c).stored) → (c : ℕ) → c < 8 → (capture_at (record s { channels = by_channel f }) c).stored ≡ (capture_at s c).stored
table-stored s f same c lt = ap (λ (y : machine.Capture). y.stored) (by_channel_at f c lt) ∙ same c

-- ---- a time is stored

stored_here : (stamps : List ℕ) (c place time i old : ℕ) → length stamps ≡ 512 → c < 8 → i < 64 → slice_index_or stamps (64 * c + i) 0 ≡ old → slice_index_or (stored_at stamps c place time) (64 * c + i) 0 ≡ (if place == i then time else old)
stored_here stamps c place time i old size lt small e = grind (arith, common_steps, nat_tests, get_or-set_at, get_or-set_other, e)

stored_elsewhere : (stamps : List ℕ) (c j place time i : ℕ) → length stamps ≡ 512 → c < 8 → i < 64 → j ≢ c → slice_index_or (stored_at stamps c place time) (64 * j + i) 0 ≡ slice_index_or stamps (64 * j + i) 0
stored_elsewhere stamps c j place time i size lt small ne = by (nat_lt place 64) refl
  where
    apart : place < 64 → 64 * j + i ≢ 64 * c + place
    apart less e = ne (omega (arith, e, less, small))

    by : (q : Bool) → nat_lt place 64 ≡ q → slice_index_or (if q then slice_set stamps (64 * c + place) time else stamps) (64 * j + i) 0 ≡ slice_index_or stamps (64 * j + i) 0
    by true f = get_or-set_other stamps (64 * c + place) (64 * j + i) time 0 (apart (lt_is place 64 f))
    by false f = refl

-- the times of a channel, with one more where it stamps edges
stamp_more : (b : Bool) (stamps : List ℕ) (c place time i : ℕ) (stored : List machine.Stamp) (e : edges.Edge) → e.time ≡ time → length stamps ≡ 512 → c < 8 → i < 64
    → slice_index_or stamps (64 * c + i) 0 ≡ stamp_in stored i → slice_index_or (stored_if b stamps c place time) (64 * c + i) 0 ≡ stamp_in (more_stored b place e stored) i
stamp_more true stamps c place time i stored e at size lt small h = stored_here stamps c place time i (stamp_in stored i) size lt small h ∙ ap (λ v. if place == i then v else stamp_in stored i) (sym at)
stamp_more false stamps c place time i stored e at size lt small h = h

other_stays : (b : Bool) (stamps : List ℕ) (c j place time i : ℕ) → length stamps ≡ 512 → c < 8 → i < 64 → j ≢ c → slice_index_or (stored_if b stamps c place time) (64 * j + i) 0 ≡ slice_index_or stamps (64 * j + i) 0
other_stays true stamps c j place time i size lt small ne = stored_elsewhere stamps c j place time i size lt small ne
other_stays false stamps c j place time i size lt small ne = refl

pub more-stamps : (b : Bool) (stamps : List ℕ) (s : IcuState) (c place time : ℕ) (stored : List machine.Stamp) (e : edges.Edge) (x : machine.Capture) → e.time ≡ time → length stamps ≡ 512 → c < 8
    → stored ≡ (capture_at s c).stored → x.stored ≡ more_stored b place e stored → StampsStand stamps s → StampsStand (stored_if b stamps c place time) (with_capture s c x)
more-stamps b stamps s c place time stored e x at size lt was is h j i small room = by (same_or_other j c)
  where
    by : (j ≡ c) ⊎ (j ≢ c) → slice_index_or (stored_if b stamps c place time) (64 * j + i) 0 ≡ stamp_in (capture_at (with_capture s c x) j).stored i
    by (inl f) = subst (λ n. slice_index_or (stored_if b stamps c place time) (64 * n + i) 0 ≡ stamp_in (capture_at (with_capture s c x) n).stored i) (sym f)
        (stamp_more b stamps c place time i stored e at size lt room (h c i lt room ∙ ap (λ ys. stamp_in ys i) (sym was))
        ∙ ap (λ ys. stamp_in ys i) (sym (ap (λ (y : machine.Capture). y.stored) (with_same s c x lt) ∙ is)))
    by (inr ne) = other_stays b stamps c j place time i size lt room ne ∙ (h j i small room ∙ ap (λ ys. stamp_in ys i) (sym (ap (λ (y : machine.Capture). y.stored) (with_other s c j x small ne))))

-- ---- after a reset

pub none-few : 0 ≤ 8
none-few = omega arith

same_item : {X : Type 0} (m p : ℕ) (x : X) → slice_index_or (replicate m x) p x ≡ x
same_item zero p x = refl
same_item (suc m) zero x = refl
same_item (suc m) (suc p) x = same_item m p x

pub no-stamps : (c i : ℕ) → slice_index_or (replicate 512 zero) (64 * c + i) zero ≡ zero
no-stamps c i = same_item 512 (64 * c + i) zero

pub blank-stands : (k : Option Channel) (c : ℕ) → ChannelStands k (slice_index_or (replicate 8 blank) c blank) machine.untouched
blank-stands k c = subst (λ z. ChannelStands k z machine.untouched) (sym (same_item 8 c blank)) (record { served = []; stored = []; is = refl; follows = no-follows k blank (record { served = refl; seen = refl; value = refl }) })
