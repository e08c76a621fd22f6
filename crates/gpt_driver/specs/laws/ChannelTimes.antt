-- What a channel is about, by times: its counter as the timer block has it, and what stays so from now on.
-- Used by Stop, Parts, Start, Mode, DeInit and 3 more.
use Rattle.std.proofs.Common.{◌≡◌, ℕ, ◌*◌, ◌<◌, ◌≤◌, ◌^◌, Bool, true, false, ◌||◌, nat_lt, Option, Some, None, refl, ◌∙◌, ap, arith}
use Rattle.std.specs.Prelude.{if◌then◌else◌, is_some}
use Rattle.gpt_driver.specs.laws.Base.{nat_tests, counter, counts_on, is_running, is_flagged, expired_between, Timer, IsSet, TimerAgrees, Timing, Course, Never, Running, Stopped, elapsed, prescaler_of, runs, is_marked, one_shot_of, bit, Channel}
use Rattle.mcal_base.specs.Expiry.{expiries, runs_on}
use Rattle.mcal_base.proofs.ExpiryLaws.{runs_on-later, expiries-one_shot, expiries-later, count_of-within}
use Rattle.chip_blocks.specs.timers.Timers.{count_at}
use Rattle.gpt_driver.specs.Refinement.{counts}
use Rattle.module_machines.specs.gpt.Machine.{expired}

-- ---- the counter is the machine's

counts_runs : (k : Option Channel) (x : Course) (now : ℕ) → counts_on (counts k x) now ≡ runs k now x
counts_runs k Never now = refl
counts_runs k _ now = refl

counts_elapsed : (k : Option Channel) (x : Course) (now : ℕ) → count_at (counts k x) now ≡ elapsed k now x
counts_elapsed k Never now = refl
counts_elapsed k _ now = refl

counts_expired : (k : Option Channel) (x : Course) (a b : ℕ) → expired_between (counts k x) a b ≡ expired k a b x
counts_expired k Never a b = refl
counts_expired k _ a b = refl

module _ (k : Option Channel) (bit : Bool) (t : Timer) (x : Timing) (h : TimerAgrees k bit t x) where
  pub running_is : (now : ℕ) → is_running t now ≡ runs k now x.course
  running_is now = ap (λ c. counts_on c now) h.count ∙ counts_runs k x.course now

  pub counter_is : (now : ℕ) → counter t now ≡ elapsed k now x.course
  counter_is now = ap (λ c. count_at c now) h.count ∙ counts_elapsed k x.course now

  pub expired_is : (a b : ℕ) → expired_between t.count a b ≡ expired k a b x.course
  expired_is a b = ap (λ c. expired_between c a b) h.count ∙ counts_expired k x.course a b

  pub flagged_is : (now : ℕ) → is_flagged t now ≡ is_marked k now x
  flagged_is now = ap (λ b. b || expired_between t.count t.watched now) h.kept ∙ (h.flag now ∙ expired_is x.dropped now)

pub elapsed_small : (k : Option Channel) (bit : Bool) (x : Course) (now : ℕ) → IsSet k bit x → elapsed k now x < 2 ^ 32
elapsed_small k bit Never now h = omega arith
elapsed_small k bit (Running s v) now h = let a : elapsed k now (Running s v) ≤ v = count_of-within (one_shot_of k) s v (prescaler_of k) now h.0 in let b : v < 2 ^ 32 = h.1 in omega arith
elapsed_small k bit (Stopped e v) now h = h

-- a channel that isn't configured never expires
pub marked_used : (k : Option Channel) (bit : Bool) (x : Course) (dropped now : ℕ) → IsSet k bit x → expired k dropped now x ≡ true → is_some k ≡ true
marked_used (Some k) bit x dropped now h e = refl
marked_used None bit (Running s v) dropped now h e = absurd (let p = h.2 in omega (arith, p))
marked_used None bit _ dropped now h e = absurd (cc)

-- ---- what stays so

-- a channel that doesn't run doesn't run later
pub rests_later : (k : Option Channel) (x : Course) (now time : ℕ) → now ≤ time → runs k now x ≡ false → runs k time x ≡ false
rests_later k (Running s v) now time le e = runs_on-later (one_shot_of k) s v (prescaler_of k) now time le e
rests_later k _ now time le e = refl

positive : (v p : ℕ) → 0 < v → 0 < p → 0 < v * p
positive v p a b = grind (arith)

once : (s v p now : ℕ) → 0 < v → 0 < p → expiries true s v p now ≡ (if runs_on true s v p now then 0 else 1)
once s v p now a b = expiries-one_shot s v p now b (positive v p a b)

rests_by : (q : Bool) (s v p now a b : ℕ) → 0 < v → 0 < p → now ≤ a → runs_on q s v p now ≡ false → nat_lt (expiries q s v p a) (expiries q s v p b) ≡ false
rests_by true s v p now a b pv pp le e =
    let one : expiries true s v p a ≡ 1 = once s v p a pv pp ∙ ap (λ x. if x then 0 else 1) (runs_on-later true s v p now a le e) in
    grind (arith, nat_tests)
rests_by false s v p now a b pv pp le e = absurd (cc)

-- and no expiry comes after it
pub quiet : (k : Option Channel) (bit : Bool) (x : Course) (now a b : ℕ) → IsSet k bit x → now ≤ a → runs k now x ≡ false → expired k a b x ≡ false
quiet k bit (Running s v) now a b h le e = rests_by (one_shot_of k) s v (prescaler_of k) now a b h.0 h.2 le e
quiet k bit _ now a b h le e = refl

more : (a b c : ℕ) → b ≤ c → nat_lt a b ≡ true → nat_lt a c ≡ true
more a b c h e = grind (arith, nat_tests)

-- a mark stays while time passes
pub marked_later : (k : Option Channel) (x : Timing) (now time : ℕ) → now ≤ time → is_marked k now x ≡ true → is_marked k time x ≡ true
marked_later k x now time le e = by_course x.course e
  where
    by_course : (y : Course) → expired k x.dropped now y ≡ true → expired k x.dropped time y ≡ true
    by_course (Running s v) e = more (expiries (one_shot_of k) s v (prescaler_of k) x.dropped) _ _ (expiries-later (one_shot_of k) s v (prescaler_of k) now time le) e
    by_course _ e = absurd (cc)

unexpired_by : (q : Bool) (s v p after now : ℕ) → q ≡ true → 0 < v → 0 < p → runs_on q s v p now ≡ true → nat_lt (expiries q s v p after) (expiries q s v p now) ≡ false
unexpired_by true s v p after now e a b h =
    let none : expiries true s v p now ≡ 0 = once s v p now a b ∙ ap (λ x. if x then 0 else 1) h in
    grind (arith, nat_tests)
unexpired_by false s v p after now e a b h = absurd (cc)

-- a one-shot channel that runs has no mark
pub unexpired : (k : Option Channel) (bit : Bool) (x : Course) (dropped now : ℕ) → IsSet k bit x → one_shot_of k ≡ true → runs k now x ≡ true → expired k dropped now x ≡ false
unexpired k bit (Running s v) dropped now h e r = unexpired_by (one_shot_of k) s v (prescaler_of k) dropped now e h.0 h.2 r
unexpired k bit _ dropped now h e r = refl

always_runs : (q : Bool) (s v p now : ℕ) → q ≡ false → runs_on q s v p now ≡ false → ⊥
always_runs q s v p now e h = grind arith

-- a continuous channel that doesn't run has no expiries at all
pub no_expiries : (k : Option Channel) (x : Course) (now a b : ℕ) → one_shot_of k ≡ false → runs k now x ≡ false → expired k a b x ≡ false
no_expiries k (Running s v) now a b os r = absurd (always_runs (one_shot_of k) s v (prescaler_of k) now os r)
no_expiries k _ now a b os r = refl
