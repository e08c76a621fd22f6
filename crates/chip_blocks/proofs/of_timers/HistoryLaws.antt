-- What a channel's counter and flag are after a history.
use Rattle.std.proofs.Common.{◌≡◌, ℕ, ◌<◌, ◌≤◌, ◌≢◌, Bool, true, false, ◌||◌, ◌==◌, nat_lt, List, [], ◌∷◌, refl, sym, ◌∙◌, ap, arith, ◌⊎◌, inl, inr}
use Rattle.std.specs.Prelude.{if◌then◌else◌}
use Rattle.std.specs.List.{AllByRecursion}
use Rattle.std.proofs.lemmas.Bool.Decides.{nat_tests}
use Rattle.mcal_base.specs.Bits.{has_bit}
use Rattle.mcal_base.specs.Expiry.{counts_since, count_of, runs_on}
use Rattle.mcal_base.proofs.ExpiryLaws.{counts_since-start, count_of-stopped, runs_on-start, runs_on-later}
use Rattle.std.proofs.Math.Nat.{zero-mod}
use Rattle.mcal_base.specs.facts.Truths.{or_false}
use Rattle.mcal_base.specs.facts.Numbers.{lt_itself, same_or_other}
use Rattle.mcal_base.specs.declared.register.Reg.TheVariants.{TimerTarget, TimerPrescaler, TimerOneShot, TimerGateSet, TimerGateClear, TimerFlags, TimerZero}
use Rattle.chip_blocks.specs.timers.Run.{Run, run_expiries, run_goes_on, restarted}
use Rattle.chip_blocks.specs.timers.Timers.{Timers, counter, count_at, counts_on, expired_between, gate_clear, zero_count, zeroed, flag_clear, is_running, is_flagged, timer_at, with_timer, acting, gate_set, after_write}
use Rattle.chip_blocks.specs.timers.Accesses.{Access, after, after_all, LeavesCount, LeavesFlag, HasChannel, Starts}
use Rattle.chip_blocks.specs.timers.Accesses as accesses
use Rattle.chip_blocks.specs.declared.timers.timer.Act.TheVariants.{Start, Stop, Zero, Clear}
use Rattle.chip_blocks.specs.declared.timers.timer.Count.{Count}
use Rattle.chip_blocks.specs.declared.timers.timer.Count.TheVariants.{Still, Since}
use Rattle.chip_blocks.specs.declared.timers.timer.Timer.{Timer}
use Rattle.chip_blocks.proofs.of_timers.TimerLaws.{timer_at-with_timer_same, timer_at-with_timer_other, timer_at-acted, timer_at-acted_on, timer_at-acted_off, length-after_read, length-after_write, timer_at-after_read, time-after_read, time-after_write}

-- ---- the channels stay

pub has_channel-after : (b : Timers) (c : ℕ) (x : Access) → HasChannel b c → HasChannel (after b x) c
has_channel-after b c (accesses.Reads r) h = record { all = length-after_read b r ∙ h.all; within = h.within }
has_channel-after b c (accesses.Writes r value) h = record { all = length-after_write b r value ∙ h.all; within = h.within }
has_channel-after b c (accesses.Passes n) h = record { all = h.all; within = h.within }

-- ---- what leaves a counter alone

-- what another change of a channel leaves of it, seen through a function
pub with_seen : {A : Type 0} (see : Timer → A) (b : Timers) (k c : ℕ) (t : Timer) → HasChannel b c → see t ≡ see (timer_at b k)
    → (c ≡ k) ⊎ (c ≢ k) → see (timer_at (with_timer b k t) c) ≡ see (timer_at b c)
with_seen see b k c t h e (inl at) = rw (← at) (ap see (timer_at-with_timer_same b c t h) ∙ rw (← at) at e)
with_seen see b k c t h e (inr ne) = ap see (timer_at-with_timer_other b k c t ne)

-- a choice of which both sides look the same
either_seen : {A : Type 0} (see : Timer → A) (q : Bool) (x y : Timer) → see x ≡ see y → see (if q then x else y) ≡ see y
either_seen see true x y e = e
either_seen see false x y e = refl

count_seen : Timer → Count
count_seen t = t.count

pub count-left : (b : Timers) (c : ℕ) (x : Access) → HasChannel b c → LeavesCount c x → (timer_at (after b x) c).count ≡ (timer_at b c).count
count-left b c (accesses.Reads r) h left = ap (λ (t : Timer). t.count) (timer_at-after_read b r c)
count-left b c (accesses.Passes n) h left = refl
count-left b c (accesses.Writes (TimerTarget k) value) h left =
    with_seen (λ t. t.count) b k c (record (timer_at b k) { target = value }) h refl (same_or_other c k)
count-left b c (accesses.Writes (TimerPrescaler k) value) h left =
    with_seen (λ t. t.count) b k c (record (timer_at b k) { prescaler = value }) h refl (same_or_other c k)
count-left b c (accesses.Writes TimerOneShot value) h left = refl
count-left b c (accesses.Writes TimerGateSet value) h left = ap (λ (t : Timer). t.count) (timer_at-acted_off Start b value c h left)
count-left b c (accesses.Writes TimerGateClear value) h left = ap (λ (t : Timer). t.count) (timer_at-acted_off Stop b value c h left)
count-left b c (accesses.Writes TimerZero value) h left = ap (λ (t : Timer). t.count) (timer_at-acted_off Zero b value c h left)
count-left b c (accesses.Writes TimerFlags value) h left =
    ap (λ (t : Timer). t.count) (timer_at-acted Clear b value c h)
    ∙ either_seen (λ t. t.count) (has_bit value c) (acting Clear (has_bit b.one_shot c) b.time (timer_at b c)) (timer_at b c) refl
count-left b c (accesses.Writes _ value) h left = refl

pub count-left_all : (b : Timers) (c : ℕ) (xs : List Access) → HasChannel b c → AllByRecursion (LeavesCount c) xs
    → (timer_at (after_all b xs) c).count ≡ (timer_at b c).count
count-left_all b c [] h left = refl
count-left_all b c (x ∷ xs) h left = count-left_all (after b x) c xs (has_channel-after b c x h) left.1 ∙ count-left b c x h left.0

-- ---- what leaves a flag alone

-- what a flag depends on
abbrev pub seen : Timer → Count × Bool × ℕ
seen t = (t.count, t.kept, t.watched)

pub seen-left : (b : Timers) (c : ℕ) (x : Access) → HasChannel b c → LeavesFlag c x → seen (timer_at (after b x) c) ≡ seen (timer_at b c)
seen-left b c (accesses.Reads r) h left = ap seen (timer_at-after_read b r c)
seen-left b c (accesses.Passes n) h left = refl
seen-left b c (accesses.Writes (TimerTarget k) value) h left =
    with_seen seen b k c (record (timer_at b k) { target = value }) h refl (same_or_other c k)
seen-left b c (accesses.Writes (TimerPrescaler k) value) h left =
    with_seen seen b k c (record (timer_at b k) { prescaler = value }) h refl (same_or_other c k)
seen-left b c (accesses.Writes TimerOneShot value) h left = refl
seen-left b c (accesses.Writes TimerGateSet value) h left = ap seen (timer_at-acted_off Start b value c h left)
seen-left b c (accesses.Writes TimerGateClear value) h left = ap seen (timer_at-acted_off Stop b value c h left)
seen-left b c (accesses.Writes TimerZero value) h left = ap seen (timer_at-acted_off Zero b value c h left)
seen-left b c (accesses.Writes TimerFlags value) h left = ap seen (timer_at-acted_off Clear b value c h left)
seen-left b c (accesses.Writes _ value) h left = refl

pub seen-left_all : (b : Timers) (c : ℕ) (xs : List Access) → HasChannel b c → AllByRecursion (LeavesFlag c) xs
    → seen (timer_at (after_all b xs) c) ≡ seen (timer_at b c)
seen-left_all b c [] h left = refl
seen-left_all b c (x ∷ xs) h left = seen-left_all (after b x) c xs (has_channel-after b c x h) left.1 ∙ seen-left b c x h left.0

-- ---- a start

nonzero_test : (v p : ℕ) → 0 < v → 0 < p → (v == 0 || p == 0) ≡ false
nonzero_test v p hv hp = grind (arith, nat_tests)

abbrev pub run_of : Timers → ℕ → Run
run_of b c = record { start = b.time; target = (timer_at b c).target; prescaler = (timer_at b c).prescaler; one_shot = has_bit b.one_shot c }

-- a chosen channel whose registers aren't 0 counts from there
pub gate_set-starts : (one_shot : Bool) (now : ℕ) (t : Timer) → 0 < t.target → 0 < t.prescaler
    → (gate_set one_shot now t).count ≡ Since (record { start = now; target = t.target; prescaler = t.prescaler; one_shot = one_shot })
gate_set-starts one_shot now t v p = rw (nonzero_test t.target t.prescaler v p) refl

pub count-started : (b : Timers) (c bits : ℕ) → Starts b c bits → (timer_at (after_write b TimerGateSet bits) c).count ≡ Since (run_of b c)
count-started b c bits h =
    ap (λ (t : Timer). t.count) (timer_at-acted_on Start b bits c h.there h.chosen)
    ∙ gate_set-starts (has_bit b.one_shot c) b.time (timer_at b c) h.target h.prescaler

pub counter-since_start : (b : Timers) (c bits : ℕ) (xs : List Access) → Starts b c bits → AllByRecursion (LeavesCount c) xs
    → counter (timer_at (after_all (after_write b TimerGateSet bits) xs) c) (after_all (after_write b TimerGateSet bits) xs).time
    ≡ count_of (has_bit b.one_shot c) b.time (timer_at b c).target (timer_at b c).prescaler (after_all (after_write b TimerGateSet bits) xs).time
counter-since_start b c bits xs h left =
    let b' : Timers = after_write b TimerGateSet bits in
    let there : HasChannel b' c = has_channel-after b c (accesses.Writes TimerGateSet bits) h.there in
    ap (λ (k : Count). count_at k (after_all b' xs).time) (count-left_all b' c xs there left ∙ count-started b c bits h)

-- ---- flags

-- nothing has expired since now
pub expired_between-now : (k : Count) (now : ℕ) → expired_between k now now ≡ false
expired_between-now (Still v) now = refl
expired_between-now (Since r) now = lt_itself (run_expiries r now)

-- after a clearing the flag stands where the counter then under way has expired since
pub flagged-since_clearing : (b : Timers) (c bits : ℕ) (xs : List Access) → HasChannel b c → has_bit bits c ≡ true → AllByRecursion (LeavesFlag c) xs
    → is_flagged (timer_at (after_all (after_write b TimerFlags bits) xs) c) (after_all (after_write b TimerFlags bits) xs).time
    ≡ expired_between (timer_at b c).count b.time (after_all (after_write b TimerFlags bits) xs).time
flagged-since_clearing b c bits xs h on left =
    let b' : Timers = after_write b TimerFlags bits in
    let there : HasChannel b' c = has_channel-after b c (accesses.Writes TimerFlags bits) h in
    ap (λ (s : Count × Bool × ℕ). s.1 || expired_between s.0 s.2 (after_all b' xs).time)
    (seen-left_all b' c xs there left ∙ ap seen (timer_at-acted_on Clear b bits c h on))

-- ---- what starting, stopping and zeroing do to a channel, at that time

started_flag : (q : Bool) (t started : Timer) (now : ℕ) → is_flagged started now ≡ is_flagged t now → is_flagged (if q then t else started) now ≡ is_flagged t now
started_flag true t started now e = refl
started_flag false t started now e = e

stopped_flag : (q : Bool) (t stopped : Timer) (now : ℕ) → is_flagged stopped now ≡ is_flagged t now → is_flagged (if q then stopped else t) now ≡ is_flagged t now
stopped_flag true t stopped now e = e
stopped_flag false t stopped now e = refl

-- a flag that is kept, with nothing expired since
pub flag-kept : (flag : Bool) (k : Count) (now : ℕ) → (flag || expired_between k now now) ≡ flag
flag-kept flag k now = ap (λ q. flag || q) (expired_between-now k now) ∙ or_false flag

pub flagged-gate_set : (one_shot : Bool) (now : ℕ) (t : Timer) → is_flagged (gate_set one_shot now t) now ≡ is_flagged t now
flagged-gate_set one_shot now t =
    let r : Run = record { start = now; target = t.target; prescaler = t.prescaler; one_shot = one_shot } in
    started_flag (t.target == 0 || t.prescaler == 0) t (record t { count = Since r; kept = is_flagged t now; watched = now }) now
    (flag-kept (is_flagged t now) (Since r) now)

pub flagged-gate_clear : (now : ℕ) (t : Timer) → is_flagged (gate_clear now t) now ≡ is_flagged t now
flagged-gate_clear now t =
    stopped_flag (is_running t now) t (record t { count = Still (counter t now); kept = is_flagged t now }) now (or_false (is_flagged t now))

pub flagged-zeroed : (now : ℕ) (t : Timer) → is_flagged (zeroed now t) now ≡ is_flagged t now
flagged-zeroed now t = flag-kept (is_flagged t now) (zero_count t.count now) now

some_above : (q v : ℕ) → nat_lt q v ≡ true → 0 < v
some_above q v e = grind (arith, nat_tests)

-- a restart runs where the counter ran
restart_runs : (one_shot : Bool) (s v p now : ℕ) → runs_on one_shot s v p now ≡ true → runs_on one_shot now v p now ≡ true
restart_runs true s v p now e = let some : 0 < v = some_above (counts_since s p now) v e in runs_on-start true now v p some
restart_runs false s v p now e = refl

zero_runs : (r : Run) (now : ℕ) (q : Bool) → run_goes_on r now ≡ q → counts_on (if q then Since (restarted r now) else Still 0) now ≡ q
zero_runs r now true e = restart_runs r.one_shot r.start r.target r.prescaler now e
zero_runs r now false e = refl

pub counts_on-zero_count : (k : Count) (now : ℕ) → counts_on (zero_count k now) now ≡ counts_on k now
counts_on-zero_count (Still v) now = refl
counts_on-zero_count (Since r) now = zero_runs r now (run_goes_on r now) refl

pub running-zeroed : (now : ℕ) (t : Timer) → is_running (zeroed now t) now ≡ is_running t now
running-zeroed now t = counts_on-zero_count t.count now

restart_counts : (one_shot : Bool) (now v p : ℕ) → count_of one_shot now v p now ≡ 0
restart_counts true now v p = rw (counts_since-start now p) (omega arith)
restart_counts false now v p = rw (counts_since-start now p) (zero-mod v)

zero_counts : (r : Run) (now : ℕ) (q : Bool) → run_goes_on r now ≡ q → count_at (if q then Since (restarted r now) else Still 0) now ≡ 0
zero_counts r now true e = restart_counts r.one_shot now r.target r.prescaler
zero_counts r now false e = refl

pub count_at-zero_count : (k : Count) (now : ℕ) → count_at (zero_count k now) now ≡ 0
count_at-zero_count (Still v) now = refl
count_at-zero_count (Since r) now = zero_counts r now (run_goes_on r now) refl

pub counter-zeroed : (now : ℕ) (t : Timer) → counter (zeroed now t) now ≡ 0
counter-zeroed now t = count_at-zero_count t.count now

-- a stop stops, and the counter keeps its value
stopped_rests : (q : Bool) (t stopped : Timer) (now : ℕ) → is_running t now ≡ q → is_running stopped now ≡ false → is_running (if q then stopped else t) now ≡ false
stopped_rests true t stopped now e f = f
stopped_rests false t stopped now e f = e

pub running-gate_clear : (now : ℕ) (t : Timer) → is_running (gate_clear now t) now ≡ false
running-gate_clear now t =
    stopped_rests (is_running t now) t (record t { count = Still (counter t now); kept = is_flagged t now }) now refl refl

stopped_count : (q : Bool) (t stopped : Timer) (now : ℕ) → counter stopped now ≡ counter t now → counter (if q then stopped else t) now ≡ counter t now
stopped_count true t stopped now e = e
stopped_count false t stopped now e = refl

pub counter-gate_clear : (now : ℕ) (t : Timer) → counter (gate_clear now t) now ≡ counter t now
counter-gate_clear now t =
    stopped_count (is_running t now) t (record t { count = Still (counter t now); kept = is_flagged t now }) now refl

-- ---- time

run_stands : (one_shot : Bool) (s v p a b : ℕ) → a ≤ b → runs_on one_shot s v p a ≡ false → count_of one_shot s v p b ≡ count_of one_shot s v p a
run_stands true s v p a b le off = count_of-stopped s v p b (runs_on-later true s v p a b le off) ∙ sym (count_of-stopped s v p a off)
run_stands false s v p a b le off = absurd (cc off)

pub count_at-later : (k : Count) (a b : ℕ) → a ≤ b → counts_on k a ≡ false → count_at k b ≡ count_at k a
count_at-later (Still v) a b le off = refl
count_at-later (Since r) a b le off = run_stands r.one_shot r.start r.target r.prescaler a b le off

pub counts_on-later : (k : Count) (a b : ℕ) → a ≤ b → counts_on k a ≡ false → counts_on k b ≡ false
counts_on-later (Still v) a b le off = refl
counts_on-later (Since r) a b le off = runs_on-later r.one_shot r.start r.target r.prescaler a b le off

pub flagged-flag_clear : (now : ℕ) (t : Timer) → is_flagged (flag_clear now t) now ≡ false
flagged-flag_clear now t = expired_between-now t.count now

-- time doesn't go back
pub time-after : (b : Timers) (x : Access) → b.time ≤ (after b x).time
time-after b (accesses.Reads r) = rw (time-after_read b r) (omega arith)
time-after b (accesses.Writes r value) = rw (time-after_write b r value) (omega arith)
time-after b (accesses.Passes n) = omega arith

pub time-after_all : (b : Timers) (xs : List Access) → b.time ≤ (after_all b xs).time
time-after_all b [] = omega arith
time-after_all b (x ∷ xs) = omega (arith, time-after b x, time-after_all (after b x) xs)

pub counter-rests : (b : Timers) (c : ℕ) (xs : List Access) → HasChannel b c → is_running (timer_at b c) b.time ≡ false → AllByRecursion (LeavesCount c) xs
    → counter (timer_at (after_all b xs) c) (after_all b xs).time ≡ counter (timer_at b c) b.time
counter-rests b c xs h off left =
    ap (λ (k : Count). count_at k (after_all b xs).time) (count-left_all b c xs h left)
    ∙ count_at-later (timer_at b c).count b.time (after_all b xs).time (time-after_all b xs) off
