-- What a channel's flag is after any history that doesn't clear it, and its counter after a zeroing.
use Rattle.std.proofs.Common.{◌≡◌, ℕ, ◌+◌, ◌≤◌, Bool, true, false, ◌||◌, ◌==◌, nat_lt, List, [], ◌∷◌, refl, sym, ◌∙◌, ap, arith}
use Rattle.std.specs.Prelude.{if◌then◌else◌}
use Rattle.std.specs.List.{AllByRecursion}
use Rattle.std.proofs.lemmas.Bool.Decides.{nat_tests}
use Rattle.std.proofs.Math.Bool.{or_assoc}
use Rattle.mcal_base.specs.facts.Truths.{or_false}
use Rattle.mcal_base.specs.facts.Numbers.{same_or_other}
use Rattle.mcal_base.specs.Bits.{has_bit}
use Rattle.mcal_base.specs.Expiry.{count_of}
use Rattle.mcal_base.proofs.ExpiryLaws.{expiries-later}
use Rattle.mcal_base.specs.declared.register.Reg.TheVariants.{TimerTarget, TimerPrescaler, TimerOneShot, TimerGateSet, TimerGateClear, TimerFlags, TimerZero}
use Rattle.chip_blocks.specs.timers.Run.{Run, run_expiries, run_goes_on, restarted}
use Rattle.chip_blocks.specs.timers.Timers.{Timers, counter, count_at, expired_between, acted, zero_count, is_running, is_flagged, timer_at, acting, after_write}
use Rattle.chip_blocks.specs.timers.Accesses.{Access, after, after_all, LeavesCount, LeavesStanding, expires_by, expires_in, HasChannel, Counting}
use Rattle.chip_blocks.specs.timers.Accesses as accesses
use Rattle.chip_blocks.specs.declared.timers.timer.Act.{Act}
use Rattle.chip_blocks.specs.declared.timers.timer.Act.TheVariants.{Start, Stop, Zero, Clear}
use Rattle.chip_blocks.specs.declared.timers.timer.Count.{Count}
use Rattle.chip_blocks.specs.declared.timers.timer.Count.TheVariants.{Still, Since}
use Rattle.chip_blocks.specs.declared.timers.timer.Timer.{Timer}
use Rattle.chip_blocks.proofs.of_timers.TimerLaws.{timer_at-acted, timer_at-acted_on, timer_at-acted_off, timer_at-after_read, time-after_read}
use Rattle.chip_blocks.proofs.of_timers.HistoryLaws.{with_seen, seen, has_channel-after, count-left_all, flagged-gate_set, flagged-gate_clear, flagged-zeroed, flagged-flag_clear}

-- ---- an expiry in a span came in its first part or in its second

lt_split : (x y z : ℕ) → x ≤ y → y ≤ z → nat_lt x z ≡ (nat_lt x y || nat_lt y z)
lt_split x y z xy yz = grind (arith, nat_tests)

expired-split : (k : Count) (a b d : ℕ) → a ≤ b → b ≤ d → expired_between k a d ≡ (expired_between k a b || expired_between k b d)
expired-split (Still v) a b d ab bd = refl
expired-split (Since r) a b d ab bd =
    lt_split (run_expiries r a) (run_expiries r b) (run_expiries r d)
    (expiries-later r.one_shot r.start r.target r.prescaler a b ab) (expiries-later r.one_shot r.start r.target r.prescaler b d bd)

-- ---- one access

-- a flag is known by the counter, the kept flag and the time that is watched
flag_seen : (x y : Timer) (now : ℕ) → seen x ≡ seen y → is_flagged x now ≡ is_flagged y now
flag_seen x y now e = ap (λ (s : Count × Bool × ℕ). s.1 || expired_between s.0 s.2 now) e

either : (q : Bool) (x y : Timer) (now : ℕ) → is_flagged x now ≡ is_flagged y now → is_flagged (if q then x else y) now ≡ is_flagged y now
either true x y now e = e
either false x y now e = refl

flag_acted : (act : Act) (b : Timers) (c bits : ℕ) → HasChannel b c
    → is_flagged (acting act (has_bit b.one_shot c) b.time (timer_at b c)) b.time ≡ is_flagged (timer_at b c) b.time
    → is_flagged (timer_at (acted act b bits) c) b.time ≡ (is_flagged (timer_at b c) b.time || false)
flag_acted act b c bits h e =
    ap (λ (t : Timer). is_flagged t b.time) (timer_at-acted act b bits c h)
    ∙ either (has_bit bits c) (acting act (has_bit b.one_shot c) b.time (timer_at b c)) (timer_at b c) b.time e
    ∙ sym (or_false (is_flagged (timer_at b c) b.time))

pub flag-step : (b : Timers) (c : ℕ) (x : Access) → HasChannel b c → (timer_at b c).watched ≤ b.time → LeavesStanding c x
    → is_flagged (timer_at (after b x) c) (after b x).time ≡ (is_flagged (timer_at b c) b.time || expires_by c b x)
flag-step b c (accesses.Reads r) h w left = rw (timer_at-after_read b r c, time-after_read b r) (sym (or_false (is_flagged (timer_at b c) b.time)))
flag-step b c (accesses.Passes n) h w left =
    let t = timer_at b c in
    ap (λ q. t.kept || q) (expired-split t.count t.watched b.time (b.time + n) w (omega arith))
    ∙ sym (or_assoc t.kept (expired_between t.count t.watched b.time) (expired_between t.count b.time (b.time + n)))
flag-step b c (accesses.Writes (TimerTarget k) value) h w left =
    flag_seen (timer_at (after b (accesses.Writes (TimerTarget k) value)) c) (timer_at b c) b.time
    (with_seen seen b k c (record (timer_at b k) { target = value }) h refl (same_or_other c k))
    ∙ sym (or_false (is_flagged (timer_at b c) b.time))
flag-step b c (accesses.Writes (TimerPrescaler k) value) h w left =
    flag_seen (timer_at (after b (accesses.Writes (TimerPrescaler k) value)) c) (timer_at b c) b.time
    (with_seen seen b k c (record (timer_at b k) { prescaler = value }) h refl (same_or_other c k))
    ∙ sym (or_false (is_flagged (timer_at b c) b.time))
flag-step b c (accesses.Writes TimerOneShot value) h w left = sym (or_false (is_flagged (timer_at b c) b.time))
flag-step b c (accesses.Writes TimerGateSet value) h w left = flag_acted Start b c value h (flagged-gate_set (has_bit b.one_shot c) b.time (timer_at b c))
flag-step b c (accesses.Writes TimerGateClear value) h w left = flag_acted Stop b c value h (flagged-gate_clear b.time (timer_at b c))
flag-step b c (accesses.Writes TimerZero value) h w left = flag_acted Zero b c value h (flagged-zeroed b.time (timer_at b c))
flag-step b c (accesses.Writes TimerFlags value) h w left =
    ap (λ (t : Timer). is_flagged t b.time) (timer_at-acted_off Clear b value c h left) ∙ sym (or_false (is_flagged (timer_at b c) b.time))
flag-step b c (accesses.Writes _ value) h w left = sym (or_false (is_flagged (timer_at b c) b.time))

-- ---- the time that is watched has come

watched_of : Timer → ℕ
watched_of t = t.watched

either_by : (q : Bool) (x y : Timer) (now : ℕ) → x.watched ≤ now → y.watched ≤ now → (if q then x else y).watched ≤ now
either_by true x y now hx hy = hx
either_by false x y now hx hy = hy

watched-acting : (act : Act) (one_shot : Bool) (now : ℕ) (t : Timer) → t.watched ≤ now → (acting act one_shot now t).watched ≤ now
watched-acting Start one_shot now t w = either_by (t.target == 0 || t.prescaler == 0) t _ now w (omega arith)
watched-acting Stop one_shot now t w = either_by (is_running t now) _ t now w w
watched-acting Zero one_shot now t w = omega arith
watched-acting Clear one_shot now t w = omega arith

watched_acted : (act : Act) (b : Timers) (c bits : ℕ) → HasChannel b c → (timer_at b c).watched ≤ b.time → (timer_at (acted act b bits) c).watched ≤ b.time
watched_acted act b c bits h w =
    rw (timer_at-acted act b bits c h)
    (either_by (has_bit bits c) (acting act (has_bit b.one_shot c) b.time (timer_at b c)) (timer_at b c) b.time (watched-acting act (has_bit b.one_shot c) b.time (timer_at b c) w) w)

pub watched-step : (b : Timers) (c : ℕ) (x : Access) → HasChannel b c → (timer_at b c).watched ≤ b.time → (timer_at (after b x) c).watched ≤ (after b x).time
watched-step b c (accesses.Reads r) h w = rw (timer_at-after_read b r c, time-after_read b r) w
watched-step b c (accesses.Passes n) h w = omega (arith, w)
watched-step b c (accesses.Writes (TimerTarget k) value) h w =
    rw (with_seen (λ t. t.watched) b k c (record (timer_at b k) { target = value }) h refl (same_or_other c k)) w
watched-step b c (accesses.Writes (TimerPrescaler k) value) h w =
    rw (with_seen (λ t. t.watched) b k c (record (timer_at b k) { prescaler = value }) h refl (same_or_other c k)) w
watched-step b c (accesses.Writes TimerOneShot value) h w = w
watched-step b c (accesses.Writes TimerGateSet value) h w = watched_acted Start b c value h w
watched-step b c (accesses.Writes TimerGateClear value) h w = watched_acted Stop b c value h w
watched-step b c (accesses.Writes TimerZero value) h w = watched_acted Zero b c value h w
watched-step b c (accesses.Writes TimerFlags value) h w = watched_acted Clear b c value h w
watched-step b c (accesses.Writes _ value) h w = w

-- ---- histories

pub flag-after_all : (b : Timers) (c : ℕ) (xs : List Access) → HasChannel b c → (timer_at b c).watched ≤ b.time → AllByRecursion (LeavesStanding c) xs
    → is_flagged (timer_at (after_all b xs) c) (after_all b xs).time ≡ (is_flagged (timer_at b c) b.time || expires_in c b xs)
flag-after_all b c [] h w left = sym (or_false (is_flagged (timer_at b c) b.time))
flag-after_all b c (x ∷ xs) h w left =
    flag-after_all (after b x) c xs (has_channel-after b c x h) (watched-step b c x h w) left.1
    ∙ ap (λ q. q || expires_in c (after b x) xs) (flag-step b c x h w left.0)
    ∙ or_assoc (is_flagged (timer_at b c) b.time) (expires_by c b x) (expires_in c (after b x) xs)

pub flagged-since_any : (b : Timers) (c bits : ℕ) (xs : List Access) → HasChannel b c → has_bit bits c ≡ true → AllByRecursion (LeavesStanding c) xs
    → is_flagged (timer_at (after_all (after_write b TimerFlags bits) xs) c) (after_all (after_write b TimerFlags bits) xs).time ≡ expires_in c (after_write b TimerFlags bits) xs
flagged-since_any b c bits xs h on left =
    let b' : Timers = after_write b TimerFlags bits in
    let there : HasChannel b' c = has_channel-after b c (accesses.Writes TimerFlags bits) h in
    let is : timer_at b' c ≡ acting Clear (has_bit b.one_shot c) b.time (timer_at b c) = timer_at-acted_on Clear b bits c h on in
    let watched : (timer_at b' c).watched ≤ b'.time = rw is (omega arith) in
    flag-after_all b' c xs there watched left
    ∙ ap (λ q. q || expires_in c b' xs) (ap (λ (t : Timer). is_flagged t b.time) is ∙ flagged-flag_clear b.time (timer_at b c))

-- ---- a running counter that is zeroed

zero-running : (r : Run) (now : ℕ) → run_goes_on r now ≡ true → zero_count (Since r) now ≡ Since (restarted r now)
zero-running r now e = ap (λ q. if q then Since (restarted r now) else Still 0) e

pub counter-since_zero : (b : Timers) (c bits : ℕ) (r : Run) (xs : List Access) → Counting b c r → has_bit bits c ≡ true → AllByRecursion (LeavesCount c) xs
    → counter (timer_at (after_all (after_write b TimerZero bits) xs) c) (after_all (after_write b TimerZero bits) xs).time
    ≡ count_of r.one_shot b.time r.target r.prescaler (after_all (after_write b TimerZero bits) xs).time
counter-since_zero b c bits r xs h on left =
    let b' : Timers = after_write b TimerZero bits in
    let there : HasChannel b' c = has_channel-after b c (accesses.Writes TimerZero bits) h.there in
    let is : (timer_at b' c).count ≡ Since (restarted r b.time) =
    ap (λ (t : Timer). t.count) (timer_at-acted_on Zero b bits c h.there on) ∙ ap (λ (k : Count). zero_count k b.time) h.since ∙ zero-running r b.time h.runs in
    ap (λ (k : Count). count_at k (after_all b' xs).time) (count-left_all b' c xs there left ∙ is)
