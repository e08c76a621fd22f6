-- Gpt_DeInit: its steps, what holds at each, and that they are right.
-- From Base, Parts, ChannelTimes, RefinementRight, Init and 1 more.
-- Used by service/deinit/rt, Lawful.
use Rattle.std.proofs.Common.{◌≡◌, ℕ, zero, suc, add-one, ◌+◌, ◌-◌, ◌<◌, ◌≤◌, ◌≢◌, Bool, true, false, ◌&&◌, ◌==◌, not, nat_lt, Option, Some, None, cond, refl, sym, ◌∙◌, ap, arith}
use Rattle.std.specs.Prelude.{if◌then◌else◌}
use Rattle.std.specs.List.{list_any}
use Rattle.gpt_driver.specs.laws.Base.{Store as Stores, eq-eqb, eqb-true, lt-ltb, true_from_ne_false, nat_tests, Chip, chip_after, Timers, timer_at, counts_on, is_running, expired_between, flag_clear, zero_count, running_of, Still, Since, Timer, timer_at-acted_on, has_bit-running_of, has_bit, bits_of, has_bit-zero, has_bit-without, GptBusy, Act, Move, EnableClear, TimerFlags, TimerZero, TimerRun, World, Told, no_answer, tells_nothing, Origin, Called, missed_after, Epilogue, Nothing, BodyTaken, Cleans, goes, acts_on, ends, owed_error, Shortens, Bodies, AreRight, StepsTo, Before, Is_before, After, Is_after, error_by, Lag, settled, none, TimerAgrees, Word, TheState, number_of, IsWord, GptRepresents, gpt_ground, GptState, channel_at, first_state, untouched, is_off, is_asleep, runs, runs_at, all_channels, reporting, gpt_machine, channel_of, bit, Call, DeInit, Channel, GptTable, STATE, TARGETS, LAST_WORD, LINES, Unflags, Zeroes, Read, Write, either_way, on_later, timed, AllGood, all_right, acts_so, finds_busy}
use Rattle.chip_blocks.specs.declared.timers.timer.Count.{Count}
use Rattle.mcal_base.proofs.BitLaws.{bits_of-zero, bits_of-clear}
use Rattle.mcal_base.specs.declared.service.Service.TheVariants.{GptDeInit}
use Rattle.gpt_driver.specs.declared.service.deinit.DeInitBody.{DeInitBody}
use Rattle.gpt_driver.specs.declared.service.deinit.DeInitBody.TheVariants as places
use Rattle.gpt_driver.specs.laws.ChannelTimes.{running_is, rests_later}
use Rattle.gpt_driver.specs.laws.RefinementRight.{may_word}
use Rattle.gpt_driver.specs.laws.Init.{all_lines}
use Rattle.module_machines.specs.gpt.laws.Channels.{by_eight}
use Rattle.gpt_driver.specs.laws.Parts.{word_at, first_value, block_acted, words_stored, moved, runs_here}

abbrev pub deinit_work : DeInitBody → Move
deinit_work (places.Look busy) = Read TimerRun
deinit_work places.Store = Stores STATE 0
deinit_work places.Zero = Write TimerZero LINES
deinit_work places.Flags = Write TimerFlags LINES
deinit_work places.Disable = Write EnableClear LINES
deinit_work (places.Forget j) = Stores j 0

abbrev pub deinit_takes : DeInitBody → ℕ → DeInitBody × BodyTaken
deinit_takes (places.Look busy) x = if x == 0 then (places.Store, goes) else (places.Look busy, ends (Some Act) no_answer busy)
deinit_takes places.Store x = (places.Zero, acts_on)
deinit_takes places.Zero x = (places.Flags, goes)
deinit_takes places.Flags x = (places.Disable, goes)
deinit_takes places.Disable x = (places.Forget TARGETS, goes)
deinit_takes (places.Forget j) x = if nat_lt j LAST_WORD then (places.Forget (j + 1), goes) else (places.Forget j, ends None no_answer Nothing)

abbrev pub deinit_left : DeInitBody → ℕ
deinit_left (places.Look busy) = 21
deinit_left places.Store = 20
deinit_left places.Zero = 19
deinit_left places.Flags = 18
deinit_left places.Disable = 17
deinit_left (places.Forget j) = 1 + (LAST_WORD - j)

deinit_next : (j : ℕ) (q : Bool) → nat_lt j LAST_WORD ≡ q → Shortens deinit_left (places.Forget j) (if q then (places.Forget (j + 1), goes) else (places.Forget j, ends None no_answer Nothing))
deinit_next j true e = let k : j < LAST_WORD = grind (arith, nat_tests) in omega (arith, k)
deinit_next j false e = omega arith

deinit_shortens : (k : DeInitBody) (x : ℕ) → Shortens deinit_left k (deinit_takes k x)
deinit_shortens (places.Look busy) x = either_way (λ p. Shortens deinit_left (places.Look busy) p) (x == 0) _ _ (omega arith) (omega arith)
deinit_shortens (places.Forget j) x = deinit_next j (nat_lt j LAST_WORD) refl
deinit_shortens _ x = omega arith

-- it begins with a look, before which it wrote nothing
abbrev pub deinit_clean : DeInitBody → Bool
deinit_clean (places.Look busy) = true
deinit_clean _ = false

deinit_cleans : (k : DeInitBody) (x : ℕ) → Cleans deinit_clean (deinit_work k) k (deinit_takes k x)
deinit_cleans (places.Look busy) x = either_way (λ p. Cleans deinit_clean (Read TimerRun) (places.Look busy) p) (x == 0) _ _ (λ e. absurd (cc)) tt
deinit_cleans (places.Forget j) x = either_way (λ p. Cleans deinit_clean (Stores j 0) (places.Forget j) p) (nat_lt j LAST_WORD) _ _ (λ e. absurd (cc)) tt
deinit_cleans _ x = λ e. absurd (cc)

-- words from this number on
abbrev pub from : ℕ → ℕ → Bool
from j k = not (nat_lt k j)

-- the channels' words are still to be forgotten, and before it the lines to be disabled and the timers to be cleaned up
abbrev pub deinit_gap : DeInitBody → Lag
deinit_gap (places.Look busy) = settled
deinit_gap places.Store = settled
deinit_gap places.Disable = record { block = none; words = from TARGETS; lines = Some true }
deinit_gap (places.Forget j) = record settled { words = from j }
deinit_gap _ = record { block = λ c. true; words = from TARGETS; lines = Some true }

-- the state is that of an uninitialised module
pub data IsFirst : GptState → Type 0 where
  Is_first : IsFirst first_state

abbrev pub deinit_holds : GptTable → Timers → GptState → DeInitBody → Origin Call → Option Told → Type 0
deinit_holds d f s (places.Look busy) o t = Before DeInit o t × ((b : Bool) → error_by d DeInit (is_off s.mode) (is_asleep s.mode) b ≡ cond b (Some GptBusy) None) × (is_off s.mode ≡ false) × (busy ≡ owed_error (reporting d) GptDeInit GptBusy)
deinit_holds d f s places.Store o t = Before DeInit o t × ((b : Bool) → error_by d DeInit (is_off s.mode) (is_asleep s.mode) b ≡ cond b (Some GptBusy) None) × (is_off s.mode ≡ false)
deinit_holds d f s places.Flags o t = After DeInit tells_nothing o t × IsFirst s × ((c : ℕ) → c < 8 → (timer_at f c).count ≡ Still 0)
deinit_holds d f s (places.Forget j) o t = After DeInit tells_nothing o t × IsFirst s × (TARGETS ≤ j) × (j ≤ LAST_WORD)
deinit_holds d f s _ o t = After DeInit tells_nothing o t × IsFirst s

-- no channel runs
abbrev pub deinit_stays : GptTable → Timers → GptState → DeInitBody → ℕ → Type 0
deinit_stays d f s places.Store time = (c : ℕ) → c < 8 → runs (channel_of d c) time (channel_at s c).course ≡ false
deinit_stays d f s places.Zero time = (c : ℕ) → c < 8 → is_running (timer_at f c) time ≡ false
deinit_stays d f s _ time = Unit {0}

abbrev pub deinit_bodies : (d : GptTable) → Bodies (gpt_ground d) DeInitBody
deinit_bodies d = timed d deinit_work deinit_takes deinit_left deinit_gap deinit_clean (deinit_holds d) (deinit_stays d)

-- ---- whether any channel runs

bits_none : (test : ℕ → Bool) (n : ℕ) → ((c : ℕ) → c < n → test c ≡ false) → bits_of test n ≡ 0
bits_none test zero h = bits_of-zero test
bits_none test (suc n) h =
    let here : n < suc n = omega arith in
    let e : bits_of test (n + 1) ≡ 0 = bits_of-clear test n (h n here) ∙ bits_none test n (λ c lt. h c (omega arith)) in
    ap (λ i. bits_of test i) (sym (add-one n)) ∙ e

any_none : (f : ℕ → Bool) → ((c : ℕ) → c < 8 → f c ≡ false) → list_any (λ c. f c) all_channels ≡ false
any_none f h = rw (h 0 (omega arith), h 1 (omega arith), h 2 (omega arith), h 3 (omega arith), h 4 (omega arith), h 5 (omega arith), h 6 (omega arith), h 7 (omega arith)) refl

none_any : (f : ℕ → Bool) → list_any (λ c. f c) all_channels ≡ false → (c : ℕ) → c < 8 → f c ≡ false
none_any f h = by_eight (λ n. f n ≡ false) (grind arith) (grind arith) (grind arith) (grind arith) (grind arith) (grind arith) (grind arith) (grind arith)

-- ---- timers and words

zero_still : (c : Count) (now : ℕ) → counts_on c now ≡ false → zero_count c now ≡ Still 0
zero_still (Still v) now e = refl
zero_still (Since r) now e = ap (λ q. if q then Since (record r { start = now }) else Still 0) e

cleared : (k : Option Channel) (bit : Bool) (t : Timer) (time : ℕ) → t.count ≡ Still 0 → TimerAgrees k bit (flag_clear time t) untouched
cleared k bit t time z = record { count = z; kept = refl; flag = λ n. ap (λ c. expired_between c time n) z ∙ sym (ap (λ c. expired_between c 0 n) z); set = tt }

not_behind : (x : Word) → IsWord x → number_of x ≢ STATE → from TARGETS (number_of x) ≡ false → true ≡ false
not_behind TheState there ne g = absurd (ne refl)
not_behind _ there ne g = grind (arith, nat_tests)

past : (x : Word) → IsWord x → from (LAST_WORD + 1) (number_of x) ≡ false
past x there = let at = (word_at x there).1 in ap not (lt-ltb (number_of x) (LAST_WORD + 1) (omega (arith, at)))

not_from : (j k : ℕ) → k ≢ j → from (j + 1) k ≡ false → from j k ≡ false
not_from j k ne e = grind (arith, nat_tests)

off_by : (b c : Bool) → c ≡ true → b && not c ≡ false
off_by b c e = grind arith

module _ (d : GptTable) where
  some_runs : (chip : Chip) (w : World) (s : GptState) → GptRepresents d settled chip w s → (running_of chip.timers == 0) ≡ false → list_any (λ c. runs_at d w s c) all_channels ≡ true
  some_runs chip w s h i = true_from_ne_false _ (λ e. let no : (running_of chip.timers == 0) ≡ true = eq-eqb (running_of chip.timers) 0 (bits_none (λ c. is_running (timer_at chip.timers c) chip.timers.time) 8 (λ c lt. runs_here d chip w s settled h c lt refl ∙ none_any (λ c. runs_at d w s c) e c lt)) in cc)

  look_by : (chip : Chip) (w : World) (s : GptState) (m : ℕ → Bool) (busy : Epilogue) → ((b : Bool) → error_by d DeInit (is_off s.mode) (is_asleep s.mode) b ≡ cond b (Some GptBusy) None) → is_off s.mode ≡ false → busy ≡ owed_error (reporting d) GptDeInit GptBusy → GptRepresents d settled chip w s → (q : Bool) → (running_of chip.timers == 0) ≡ q → StepsTo (gpt_ground d) (deinit_bodies d) chip w s (Called DeInit) (Read TimerRun) true None m (if q then (places.Store, goes) else (places.Look busy, ends (Some Act) no_answer busy))
  look_by chip w s m busy u on e h true i =
      (h, ((Is_before, u, on), λ time le c lt. rests_later (channel_of d c) (channel_at s c).course w.now time le (sym (runs_here d chip w s settled h c lt refl) ∙ (sym (has_bit-running_of chip.timers c lt) ∙ (ap (λ x. has_bit x c) (eqb-true (running_of chip.timers) 0 i) ∙ has_bit-zero c)))))
  look_by chip w s m busy u on e h false i = finds_busy d (deinit_bodies d) chip w s DeInit m (places.Look busy) busy refl (ap (λ b. error_by d DeInit (is_off s.mode) (is_asleep s.mode) b) (some_runs chip w s h i) ∙ u true) e h

  -- the state word says that the module is off
  switched_off : (chip : Chip) (w : World) (s : GptState) → is_off s.mode ≡ false → GptRepresents d settled chip w s → GptRepresents d (deinit_gap places.Zero) (chip_after chip (Stores STATE 0) 0) w first_state
  switched_off chip w s on h = moved d (Stores STATE 0) chip w s first_state settled (deinit_gap places.Zero) h (λ c lt closed. absurd (cc)) (words_stored d chip first_state (λ k. true) (from TARGETS) STATE 0 (omega arith) h.outside.all (λ x there closed. absurd (cc)) (λ x there e. first_value x) not_behind) (λ c lt. h.lines c lt ∙ ap (λ q. not q) on) (λ off c. refl)

  forgotten : (chip : Chip) (w : World) (j : ℕ) → TARGETS ≤ j → j ≤ LAST_WORD → GptRepresents d (deinit_gap (places.Forget j)) chip w first_state → GptRepresents d (deinit_gap (places.Forget (j + 1))) (chip_after chip (Stores j 0) 0) w first_state
  forgotten chip w j a b h = moved d (Stores j 0) chip w first_state first_state (deinit_gap (places.Forget j)) (deinit_gap (places.Forget (j + 1))) h h.block (words_stored d chip first_state (from j) (from (j + 1)) j 0 (omega (arith, b)) h.outside.all h.words (λ x there e. first_value x) (λ x there ne g. not_from j (number_of x) ne g)) h.lines h.clean

  all_forgotten : (chip : Chip) (w : World) (j : ℕ) → j ≡ LAST_WORD + 1 → GptRepresents d (deinit_gap (places.Forget j)) chip w first_state → GptRepresents d settled chip w first_state
  all_forgotten chip w j e h = record { outside = h.outside; block = h.block; words = λ x there g. h.words x there (ap (λ i. from i (number_of x)) e ∙ past x there); lines = h.lines; clean = h.clean }

  forget_by : (chip : Chip) (w : World) (m : ℕ → Bool) (j : ℕ) → TARGETS ≤ j → j ≤ LAST_WORD → GptRepresents d (deinit_gap (places.Forget (j + 1))) chip w first_state → (q : Bool) → nat_lt j LAST_WORD ≡ q → StepsTo (gpt_ground d) (deinit_bodies d) chip w first_state (Called DeInit) (Stores j 0) false (Some tells_nothing) m (if q then (places.Forget (j + 1), goes) else (places.Forget j, ends None no_answer Nothing))
  forget_by chip w m j a b h true i = let more : j + 1 ≤ LAST_WORD = grind (arith, nat_tests) in (h, ((Is_after, Is_first, omega (arith, a), more), λ time le. tt))
  forget_by chip w m j a b h false i = let last : j + 1 ≡ LAST_WORD + 1 = grind (arith, nat_tests) in (all_forgotten chip w (j + 1) last h, (refl, refl, refl))

  steps : AllGood d (deinit_bodies d)
  steps chip w s (places.Look busy) o t m (h, ((Is_before, u, on, e), stays)) = (refl, look_by chip w s (missed_after (gpt_machine d) w s m) busy u on e h (running_of chip.timers == 0) refl)
  steps chip w s places.Store o t m (h, ((Is_before, u, on), stays)) =
      let first = ap (λ b. error_by d DeInit (is_off s.mode) (is_asleep s.mode) b) (any_none (λ c. runs_at d w s c) (stays w.now (omega arith))) ∙ u false in
      (refl, acts_so d w s DeInit first refl tt (switched_off chip w s on h, ((Is_after, Is_first), λ time le c lt. running_is (channel_of d c) _ _ _ (h.block c lt refl) time ∙ stays time le c lt)))
  steps chip w s places.Zero o t m (h, ((Is_after, Is_first), stays)) = (refl, (moved d (Write TimerZero LINES) chip w s s (deinit_gap places.Zero) (deinit_gap places.Zero) h (λ c lt closed. absurd (cc)) h.words h.lines h.clean, ((Is_after, Is_first, λ c lt. ap (λ y. y.count) (timer_at-acted_on Zeroes chip.timers LINES c (record { all = h.outside.all.timers; within = lt }) (all_lines c lt)) ∙ zero_still (timer_at chip.timers c).count chip.timers.time (ap (λ n. is_running (timer_at chip.timers c) n) h.outside.now ∙ stays w.now (omega arith) c lt)), λ time le. tt)))
  steps chip w s places.Flags o t m (h, ((Is_after, Is_first, zeros), stays)) = (refl, (moved d (Write TimerFlags LINES) chip w s s (deinit_gap places.Flags) (deinit_gap places.Disable) h (block_acted d Unflags chip.timers LINES none first_state h.outside.all.timers (λ c lt closed one. cleared (channel_of d c) _ (timer_at chip.timers c) chip.timers.time (zeros c lt)) (λ c lt closed no. absurd (let e = all_lines c lt in cc))) h.words h.lines h.clean, ((Is_after, Is_first), λ time le. tt)))
  steps chip w s places.Disable o t m (h, ((Is_after, Is_first), stays)) = (refl, (moved d (Write EnableClear LINES) chip w s s (deinit_gap places.Disable) (deinit_gap (places.Forget TARGETS)) h h.block h.words (λ c lt. let few : c < 32 = omega (arith, lt) in has_bit-without chip.control.enabled LINES c (omega arith) few ∙ off_by _ _ (all_lines c lt)) h.clean, ((Is_after, Is_first, omega arith, omega arith), λ time le. tt)))
  steps chip w s (places.Forget j) o t m (h, ((Is_after, Is_first, a, b), stays)) = (may_word j (omega (arith, a)) (omega (arith, b)), forget_by (chip_after chip (Stores j 0) 0) w (missed_after (gpt_machine d) w s m) j a b (forgotten chip w j a b h) (nat_lt j LAST_WORD) refl)

  pub deinit_right : AreRight (gpt_ground d) (deinit_bodies d)
  deinit_right = all_right d (deinit_bodies d) deinit_shortens deinit_cleans (λ f w w1 s k o t le h. on_later w.now w1.now le h) steps
