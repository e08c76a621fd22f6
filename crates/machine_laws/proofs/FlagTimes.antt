-- A flag of the timer block stands where an expiry time came in the history since its clearing.
use Rattle.std.proofs.Common.{◌≡◌, ℕ, ◌+◌, ◌<◌, Bool, true, false, ◌||◌, ◌==◌, List, [], ◌∷◌, ◌++◌, refl, sym, ◌∙◌, ap, arith, ◌⊎◌, inl, inr}
use Rattle.std.specs.Prelude.{◌↔◌, if◌then◌else◌}
use Rattle.std.specs.List.{AllByRecursion}
use Rattle.std.proofs.lemmas.Bool.Decides.{nat_tests}
use Rattle.std.proofs.lemmas.Bool.{or_left, or_right}
use Rattle.mcal_base.specs.Bits.{has_bit}
use Rattle.mcal_base.specs.declared.register.Reg.TheVariants.{TimerGateSet, TimerFlags}
use Rattle.chip_blocks.specs.timers.Accesses.{Access, after, after_all, LeavesFlag, LeavesStanding, HasChannel, Starts, expires_by, expires_in}
use Rattle.chip_blocks.specs.timers.Accesses as accesses
use Rattle.chip_blocks.specs.timers.Run.{Run}
use Rattle.chip_blocks.specs.timers.Timers.{Timers, timer_at, is_flagged, expired_between, acting, after_write}
use Rattle.chip_blocks.specs.declared.timers.timer.Act.TheVariants.{Start}
use Rattle.chip_blocks.specs.declared.timers.timer.Count.{Count}
use Rattle.chip_blocks.specs.declared.timers.timer.Count.TheVariants.{Still, Since}
use Rattle.chip_blocks.specs.declared.timers.timer.Timer.{Timer}
use Rattle.chip_blocks.proofs.of_timers.TimerLaws.{timer_at-acted_on}
use Rattle.chip_blocks.proofs.of_timers.HistoryLaws.{has_channel-after, seen, seen-left_all, run_of}
use Rattle.chip_blocks.proofs.of_timers.FlagLaws.{flagged-since_any}
use Rattle.machine_laws.specs.timers.Expiries.{ExpiresBetween}
use Rattle.machine_laws.specs.timers.Flags.{ExpiryIn}
use Rattle.machine_laws.proofs.ExpiryTimes.{by_times}

-- ---- one part of a history

expired_run : (k : Count) (first last : ℕ) → expired_between k first last ≡ true
    → (r : Run) × (k ≡ Since r) × ExpiresBetween r.one_shot r.start r.target r.prescaler first last
expired_run (Still value) first last e = absurd (cc e)
expired_run (Since r) first last e = (r, refl, (by_times r.one_shot r.start r.target r.prescaler first last).0 e)

run_expired : (k : Count) (r : Run) (first last : ℕ) → k ≡ Since r → ExpiresBetween r.one_shot r.start r.target r.prescaler first last → expired_between k first last ≡ true
run_expired k r first last is e =
    ap (λ (x : Count). expired_between x first last) is ∙ (by_times r.one_shot r.start r.target r.prescaler first last).1 e

-- ---- histories

here : (c : ℕ) (b : Timers) (x : Access) (xs : List Access) → expires_by c b x ≡ true → ExpiryIn b c (x ∷ xs)
here c b (accesses.Passes n) xs e =
    let found = expired_run (timer_at b c).count b.time (b.time + n) e in
    record { before = []; ticks = n; rest = xs; is = refl; run = found.0; runs = found.1; expires = found.2 }
here c b (accesses.Reads r) xs e = absurd (cc e)
here c b (accesses.Writes r value) xs e = absurd (cc e)

later_on : (c : ℕ) (b : Timers) (x : Access) (xs : List Access) → ExpiryIn (after b x) c xs → ExpiryIn b c (x ∷ xs)
later_on c b x xs e =
    record { before = x ∷ e.before; ticks = e.ticks; rest = e.rest; is = ap (λ (l : List Access). x ∷ l) e.is; run = e.run; runs = e.runs; expires = e.expires }

either : (p q : Bool) → (p || q) ≡ true → (p ≡ true) ⊎ (q ≡ true)
either true q e = inl refl
either false q e = inr e

by_place : (c : ℕ) (b : Timers) (x : Access) (xs : List Access) → (expires_in c (after b x) xs ≡ true → ExpiryIn (after b x) c xs)
    → (expires_by c b x ≡ true) ⊎ (expires_in c (after b x) xs ≡ true) → ExpiryIn b c (x ∷ xs)
by_place c b x xs more (inl now) = here c b x xs now
by_place c b x xs more (inr soon) = later_on c b x xs (more soon)

pub expiry_found : (c : ℕ) (b : Timers) (xs : List Access) → expires_in c b xs ≡ true → ExpiryIn b c xs
expiry_found c b [] e = absurd (cc e)
expiry_found c b (x ∷ xs) e = by_place c b x xs (λ f. expiry_found c (after b x) xs f) (either (expires_by c b x) (expires_in c (after b x) xs) e)

in_part : (c : ℕ) (b : Timers) (before : List Access) (ticks : ℕ) (rest : List Access)
    → expired_between (timer_at (after_all b before) c).count (after_all b before).time ((after_all b before).time + ticks) ≡ true
    → expires_in c b (before ++ accesses.Passes ticks ∷ rest) ≡ true
in_part c b [] ticks rest e = or_left _ _ e
in_part c b (x ∷ before) ticks rest e = or_right _ _ (in_part c (after b x) before ticks rest e)

pub expiry_flags : (c : ℕ) (b : Timers) (xs : List Access) → ExpiryIn b c xs → expires_in c b xs ≡ true
expiry_flags c b xs e =
    let at : Timers = after_all b e.before in
    ap (λ (l : List Access). expires_in c b l) e.is
    ∙ in_part c b e.before e.ticks e.rest (run_expired (timer_at at c).count e.run at.time (at.time + e.ticks) e.runs e.expires)

pub flag_since_clearing : (b : Timers) (c bits : ℕ) (xs : List Access) → HasChannel b c → has_bit bits c ≡ true → AllByRecursion (LeavesStanding c) xs
    → (is_flagged (timer_at (after_all (after_write b TimerFlags bits) xs) c) (after_all (after_write b TimerFlags bits) xs).time ≡ true)
    ↔ ExpiryIn (after_write b TimerFlags bits) c xs
flag_since_clearing b c bits xs h on left =
    let is = flagged-since_any b c bits xs h on left in (
      λ e. expiry_found c (after_write b TimerFlags bits) xs (sym is ∙ e),
      λ e. is ∙ expiry_flags c (after_write b TimerFlags bits) xs e,
    )

-- ---- after a start

started : (b : Timers) (c bits : ℕ) → Starts b c bits → is_flagged (timer_at b c) b.time ≡ false
    → seen (timer_at (after_write b TimerGateSet bits) c) ≡ (Since (run_of b c), false, b.time)
started b c bits h down = ap seen (timer_at-acted_on Start b bits c h.there h.chosen) ∙ set_flag (has_bit b.one_shot c) b.time (timer_at b c) h.target h.prescaler down
  where
    nonzero : (v p : ℕ) → 0 < v → 0 < p → (v == 0 || p == 0) ≡ false
    nonzero v p hv hp = grind (arith, nat_tests)

    set_flag : (one_shot : Bool) (now : ℕ) (t : Timer) → 0 < t.target → 0 < t.prescaler → is_flagged t now ≡ false
        → seen (acting Start one_shot now t) ≡ (Since (record { start = now; target = t.target; prescaler = t.prescaler; one_shot = one_shot }), false, now)
    set_flag one_shot now t target some down =
        let r : Run = record { start = now; target = t.target; prescaler = t.prescaler; one_shot = one_shot } in
        ap (λ q. seen (if q then t else record t { count = Since r; kept = is_flagged t now; watched = now })) (nonzero t.target t.prescaler target some)
        ∙ ap (λ (q : Bool). (Since r, q, now)) down

pub flag_since_start : (b : Timers) (c bits : ℕ) (xs : List Access) → Starts b c bits → is_flagged (timer_at b c) b.time ≡ false → AllByRecursion (LeavesFlag c) xs
    → (is_flagged (timer_at (after_all (after_write b TimerGateSet bits) xs) c) (after_all (after_write b TimerGateSet bits) xs).time ≡ true)
    ↔ ExpiresBetween (has_bit b.one_shot c) b.time (timer_at b c).target (timer_at b c).prescaler b.time (after_all (after_write b TimerGateSet bits) xs).time
flag_since_start b c bits xs h down left =
    let b' : Timers = after_write b TimerGateSet bits in
    let end : Timers = after_all b' xs in
    let there : HasChannel b' c = has_channel-after b c (accesses.Writes TimerGateSet bits) h.there in
    let is : is_flagged (timer_at end c) end.time ≡ expired_between (Since (run_of b c)) b.time end.time =
    ap (λ (s : Count × Bool × ℕ). s.1 || expired_between s.0 s.2 end.time) (seen-left_all b' c xs there left ∙ started b c bits h down) in
    let times = by_times (has_bit b.one_shot c) b.time (timer_at b c).target (timer_at b c).prescaler b.time end.time in
    (λ e. times.0 (sym is ∙ e), λ e. is ∙ times.1 e)
