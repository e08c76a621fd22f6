-- Gpt_SetMode: its steps, what holds at each, and that they are right.
-- From Parts, Base, Stop, ChannelTimes, service_outline: Acts and 2 more.
-- Used by service/mode/rt, Lawful.
use Rattle.std.proofs.Common.{◌≡◌, ℕ, ◌+◌, ◌-◌, ◌<◌, ◌≤◌, Bool, true, false, not, nat_lt, Option, Some, None, refl, sym, ◌∙◌, ap, subst, arith}
use Rattle.std.specs.Prelude.{if◌then◌else◌, bit_or}
use Rattle.gpt_driver.specs.laws.Base.{ltb-true, ltb-false, nat_tests, Chip, word_of, Timers, timer_at, acted, flag_clear, timer_at-acted_on, has_bit, bits_of, has_bit-bits_of, Act, Move, TimerGateClear, TimerFlags, World, Told, no_answer, tells_nothing, Origin, Called, missed_after, Nothing, BodyTaken, goes, acts_on, ends, never_clean, Shortens, Bodies, AreRight, StepsTo, Before, Is_before, After, Is_after, Lag, settled, behind, TimerAgrees, Word, TheState, TargetOf, SwitchesOf, number_of, IsWord, state_word, value_in, GptRepresents, gpt_ground, GptState, channel_at, Timing, Normal, Sleep, is_off, target_of, runs, stopped, unmarked, slept, slept_all, gpt_machine, channel_of, bit, switches_word, packed, switches_of, Call, SetMode, Channel, GptTable, STATE, Unflags, Shuts, ToNormal, ToSleep, Load, Store, Write, Passed, on_later, timed, AllGood, all_right, acts_so}
use Rattle.mcal_base.proofs.BitLaws.{bits_of-left, bits_of-marked}
use Rattle.gpt_driver.specs.declared.service.mode.ModeBody.{ModeBody}
use Rattle.gpt_driver.specs.declared.service.mode.ModeBody.TheVariants as places
use Rattle.gpt_driver.specs.laws.ChannelTimes.{expired_is, quiet}
use Rattle.gpt_driver.specs.laws.RefinementRight.{may_words}
use Rattle.module_machines.specs.gpt.laws.Channels.{table_at}
use Rattle.gpt_driver.specs.laws.Parts.{stands_acted, block_acted, caught_up, never_off, bit_shifted, runs_here, elapsed_here, unpacked}
use Rattle.gpt_driver.specs.laws.Stop.{halted, ended_keeps, stop_cleared}

-- the bits, with that of the channel where its switches say that it may not wake
abbrev pub with_sleeper : ℕ → ℕ → ℕ → ℕ
with_sleeper bits c word = if (switches_of word).wakeup then bits else bit_or bits (bit c)

abbrev pub mode_work : ModeBody → Move
mode_work places.Wake = Store STATE 1
mode_work (places.Gather c bits) = Load (switches_word c)
mode_work (places.Gate bits) = Write TimerGateClear bits
mode_work (places.Flags bits) = Write TimerFlags bits
mode_work places.Sleep = Store STATE 2

abbrev pub mode_takes : ModeBody → ℕ → ModeBody × BodyTaken
mode_takes places.Wake x = (places.Wake, ends (Some Act) no_answer Nothing)
mode_takes (places.Gather c bits) x = if nat_lt c 7 then (places.Gather (c + 1) (with_sleeper bits c x), goes) else (places.Gate (with_sleeper bits c x), goes)
mode_takes (places.Gate bits) x = (places.Flags bits, acts_on)
mode_takes (places.Flags bits) x = (places.Sleep, goes)
mode_takes places.Sleep x = (places.Sleep, ends None no_answer Nothing)

abbrev pub mode_left : ModeBody → ℕ
mode_left places.Wake = 1
mode_left (places.Gather c bits) = 4 + (7 - c)
mode_left (places.Gate bits) = 3
mode_left (places.Flags bits) = 2
mode_left places.Sleep = 1

mode_next : (c bits more : ℕ) (q : Bool) → nat_lt c 7 ≡ q → Shortens mode_left (places.Gather c bits) (if q then (places.Gather (c + 1) more, goes) else (places.Gate more, goes))
mode_next c bits more true e = let k : c < 7 = grind (arith, nat_tests) in omega (arith, k)
mode_next c bits more false e = omega arith

mode_shortens : (k : ModeBody) (x : ℕ) → Shortens mode_left k (mode_takes k x)
mode_shortens (places.Gather c bits) x = mode_next c bits _ (nat_lt c 7) refl
mode_shortens _ x = omega arith

-- the flags of these channels are still to be cleared
abbrev pub mode_gap : ModeBody → Lag
mode_gap (places.Flags bits) = record (behind STATE) { block = has_bit bits }
mode_gap places.Sleep = behind STATE
mode_gap _ = settled

-- the channel may not wake
abbrev pub sleeps : GptState → ℕ → Bool
sleeps s k = not (channel_at s k).switches.wakeup

abbrev pub to_sleep : Call
to_sleep = SetMode (Some ToSleep)

abbrev pub to_normal : Call
to_normal = SetMode (Some ToNormal)

-- the bits are those of the channels below c that may not wake, and then of all of them
abbrev pub mode_holds : GptTable → Timers → GptState → ModeBody → Origin Call → Option Told → Type 0
mode_holds d f s places.Wake o t = Before to_normal o t × Passed d s to_normal × (is_off s.mode ≡ false)
mode_holds d f s (places.Gather c bits) o t = Before to_sleep o t × Passed d s to_sleep × (is_off s.mode ≡ false) × (c < 8) × (bits ≡ bits_of (sleeps s) c)
mode_holds d f s (places.Gate bits) o t = Before to_sleep o t × Passed d s to_sleep × (is_off s.mode ≡ false) × (bits ≡ bits_of (sleeps s) 8)
mode_holds d f s (places.Flags bits) o t = After to_sleep tells_nothing o t × (s.mode ≡ Sleep)
mode_holds d f s places.Sleep o t = After to_sleep tells_nothing o t × (s.mode ≡ Sleep)

-- each of these channels is as the machine has it once its flag is cleared
abbrev pub mode_stays : GptTable → Timers → GptState → ModeBody → ℕ → Type 0
mode_stays d f s (places.Flags bits) time = (k : ℕ) → k < 8 → has_bit bits k ≡ true → TimerAgrees (channel_of d k) (has_bit f.one_shot k) (flag_clear time (timer_at f k)) (channel_at s k)
mode_stays d f s _ time = Unit {0}

abbrev pub mode_bodies : (d : GptTable) → Bodies (gpt_ground d) ModeBody
mode_bodies d = timed d mode_work mode_takes mode_left mode_gap (λ k. false) (mode_holds d) (mode_stays d)

-- ---- which channels may not wake

-- they are gathered one further
gathered : (s : GptState) (c bits : ℕ) (b : Bool) → c < 8 → b ≡ (channel_at s c).switches.wakeup → bits ≡ bits_of (sleeps s) c → (if b then bits else bit_or bits (bit c)) ≡ bits_of (sleeps s) (c + 1)
gathered s c bits true lt e h = bits_of-left (sleeps s) c bits (sym (ap not e)) h
gathered s c bits false lt e h = ap (λ x. bit_or bits x) (bit_shifted c lt) ∙ bits_of-marked (sleeps s) c bits (omega (arith, lt)) (sym (ap not e)) h

module _ (d : GptTable) where
  woke : (chip : Chip) (w : World) (s : GptState) → is_off s.mode ≡ false → GptRepresents d settled chip w s → GptRepresents d (behind STATE) chip w (record s { mode = Normal })
  woke chip w s on h = record { outside = h.outside; block = h.block; words = words; lines = λ c lt. h.lines c lt ∙ ap (λ q. not q) on; clean = never_off Normal refl }
    where
      words : (x : Word) → IsWord x → (behind STATE).words (number_of x) ≡ false → word_of chip (number_of x) ≡ value_in (record s { mode = Normal }) x
      words TheState there closed = absurd (cc)
      words (TargetOf c) there closed = h.words (TargetOf c) there refl
      words (SwitchesOf c) there closed = h.words (SwitchesOf c) there refl

  -- ---- asleep

  gather_by : (chip : Chip) (w : World) (s : GptState) (m : ℕ → Bool) (c bits x : ℕ) → Passed d s to_sleep → is_off s.mode ≡ false → c < 8 → with_sleeper bits c x ≡ bits_of (sleeps s) (c + 1) → GptRepresents d settled chip w s → (q : Bool) → nat_lt c 7 ≡ q → StepsTo (gpt_ground d) (mode_bodies d) chip w s (Called to_sleep) (Load (switches_word c)) false None m (if q then (places.Gather (c + 1) (with_sleeper bits c x), goes) else (places.Gate (with_sleeper bits c x), goes))
  gather_by chip w s m c bits x pass on lt are h true i = let more = ltb-true c 7 i in (h, ((Is_before, pass, on, omega (arith, more), are), λ time le. tt))
  gather_by chip w s m c bits x pass on lt are h false i = let last : c + 1 ≡ 8 = (let past = ltb-false c 7 i in omega (arith, lt, past)) in (h, ((Is_before, pass, on, are ∙ ap (λ n. bits_of (sleeps s) n) last), λ time le. tt))

  slept_keeps : (k : Option Channel) (x : Timing) (now : ℕ) (b : Bool) → let y = if b then x else unmarked now (stopped k now x) in (target_of y.course ≡ target_of x.course) × (y.switches ≡ x.switches)
  slept_keeps k x now true = (refl, refl)
  slept_keeps k x now false = ended_keeps k x now (runs k now x.course)

  slept_words : (chip : Chip) (w : World) (s : GptState) (bits : ℕ) → GptRepresents d settled chip w s → (x : Word) → IsWord x → (behind STATE).words (number_of x) ≡ false → word_of chip (number_of x) ≡ value_in (slept_all d w s) x
  slept_words chip w s bits h TheState there closed = absurd (cc)
  slept_words chip w s bits h (TargetOf c) there closed = h.words (TargetOf c) there refl ∙ (sym (slept_keeps (channel_of d c) (channel_at s c) w.now (channel_at s c).switches.wakeup).0 ∙ ap (λ y. target_of y.course) (sym (table_at (λ c. slept (channel_of d c) w.now (channel_at s c)) c there)))
  slept_words chip w s bits h (SwitchesOf c) there closed = h.words (SwitchesOf c) there refl ∙ (sym (ap (λ y. packed y) (slept_keeps (channel_of d c) (channel_at s c) w.now (channel_at s c).switches.wakeup).1) ∙ ap (λ y. packed y.switches) (sym (table_at (λ c. slept (channel_of d c) w.now (channel_at s c)) c there)))

  -- a channel whose gate was closed, once its flag is cleared
  slept_cleared : (chip : Chip) (w : World) (s : GptState) (bits k time : ℕ) → k < 8 → w.now ≤ time → GptRepresents d settled chip w s → has_bit bits k ≡ true → (channel_at s k).switches.wakeup ≡ false → TimerAgrees (channel_of d k) (has_bit chip.timers.one_shot k) (flag_clear time (timer_at (acted Shuts chip.timers bits) k)) (slept (channel_of d k) w.now (channel_at s k))
  slept_cleared chip w s bits k time lt le h one off =
      let c = channel_of d k in
      let shot = has_bit chip.timers.one_shot k in
      let x = channel_at s k in
      let y = timer_at chip.timers k in
      let q = runs c w.now x.course in
      let a = h.block k lt refl in
      let shut = timer_at-acted_on Shuts chip.timers bits k (record { all = h.outside.all.timers; within = lt }) one ∙ ap (λ r. halted y chip.timers.time r) (runs_here d chip w s settled h k lt refl) in
      let gone = stop_cleared c shot y x chip.timers.time w.now time w.now q a (elapsed_here d chip w s settled h k lt refl) (λ r n. expired_is c shot y x a time n ∙ (quiet c shot x.course w.now time n a.set le r ∙ sym (expired_is c shot y x a w.now n ∙ quiet c shot x.course w.now w.now n a.set (omega arith) r))) refl in
      subst (λ z. TimerAgrees c shot (flag_clear time z) (slept c w.now x)) (sym shut) (subst (λ b. TimerAgrees c shot (flag_clear time (halted y chip.timers.time q)) (if b then x else unmarked w.now (stopped c w.now x))) (sym off) gone)

  -- the bits are those of the channels that may not wake
  wakes : (s : GptState) (bits k : ℕ) → bits ≡ bits_of (sleeps s) 8 → k < 8 → (channel_at s k).switches.wakeup ≡ not (has_bit bits k)
  wakes s bits k are lt = twice _ _ (ap (λ n. has_bit n k) are ∙ has_bit-bits_of (sleeps s) 8 k lt)
    where
      twice : (a b : Bool) → b ≡ not a → a ≡ not b
      twice a b e = grind arith

  gated : (chip : Chip) (w : World) (s : GptState) (bits : ℕ) → is_off s.mode ≡ false → bits ≡ bits_of (sleeps s) 8 → GptRepresents d settled chip w s → GptRepresents d (mode_gap (places.Flags bits)) (record chip { timers = acted Shuts chip.timers bits }) w (slept_all d w s)
  gated chip w s bits on are h = record {
    outside = stands_acted d Shuts chip w bits h.outside;
    block = block_acted d Shuts chip.timers bits (has_bit bits) (slept_all d w s) h.outside.all.timers (λ k lt closed one. absurd (let no = sym closed ∙ one in cc)) (λ k lt closed none. subst (λ x. TimerAgrees (channel_of d k) (has_bit chip.timers.one_shot k) (timer_at chip.timers k) x) (sym (table_at (λ c. slept (channel_of d c) w.now (channel_at s c)) k lt ∙ ap (λ b. if b then channel_at s k else unmarked w.now (stopped (channel_of d k) w.now (channel_at s k))) (wakes s bits k are lt ∙ ap not none))) (h.block k lt refl));
    words = slept_words chip w s bits h;
    lines = λ c lt. h.lines c lt ∙ ap (λ q. not q) on;
    clean = never_off Sleep refl;
  }

  unflagged : (chip : Chip) (w : World) (s : GptState) (bits : ℕ) → ((k : ℕ) → k < 8 → has_bit bits k ≡ true → TimerAgrees (channel_of d k) (has_bit chip.timers.one_shot k) (flag_clear w.now (timer_at chip.timers k)) (channel_at s k)) → GptRepresents d (mode_gap (places.Flags bits)) chip w s → GptRepresents d (behind STATE) (record chip { timers = acted Unflags chip.timers bits }) w s
  unflagged chip w s bits a h = record {
    outside = stands_acted d Unflags chip w bits h.outside;
    block = block_acted d Unflags chip.timers bits (λ k. false) s h.outside.all.timers (λ k lt closed one. subst (λ n. TimerAgrees (channel_of d k) (has_bit chip.timers.one_shot k) (flag_clear n (timer_at chip.timers k)) (channel_at s k)) (sym h.outside.now) (a k lt one)) (λ k lt closed none. h.block k lt none);
    words = h.words;
    lines = h.lines;
    clean = h.clean;
  }

  steps : AllGood d (mode_bodies d)
  steps chip w s places.Wake o t m (h, ((Is_before, pass, on), stays)) = (refl, acts_so d w s to_normal pass refl tt (caught_up d chip w (record s { mode = Normal }) TheState 1 tt refl (woke chip w s on h), (refl, refl, refl)))
  steps chip w s (places.Gather c bits) o t m (h, ((Is_before, pass, on, lt, are), stays)) =
      let x = word_of chip (switches_word c) in
      let wakeup = ap (λ y. (switches_of y).wakeup) (h.words (SwitchesOf c) lt refl) ∙ ap (λ y. y.wakeup) (unpacked (channel_at s c).switches) in
      (may_words (SwitchesOf c) lt, gather_by chip w s (missed_after (gpt_machine d) w s m) c bits x pass on lt (gathered s c bits (switches_of x).wakeup lt wakeup are) h (nat_lt c 7) refl)
  steps chip w s (places.Gate bits) o t m (h, ((Is_before, pass, on, are), stays)) =
      let slept_at = table_at (λ c. slept (channel_of d c) w.now (channel_at s c)) in
      (refl, acts_so d w s to_sleep pass refl tt (gated chip w s bits on are h, ((Is_after, refl), λ time le k lt one. subst (λ x. TimerAgrees (channel_of d k) (has_bit chip.timers.one_shot k) (flag_clear time (timer_at (acted Shuts chip.timers bits) k)) x) (sym (slept_at k lt)) (slept_cleared chip w s bits k time lt le h one (wakes s bits k are lt ∙ ap not one)))))
  steps chip w s (places.Flags bits) o t m (h, ((Is_after, asleep), stays)) = (refl, (unflagged chip w s bits (stays w.now (omega arith)) h, ((Is_after, asleep), λ time le. tt)))
  steps chip w s places.Sleep o t m (h, ((Is_after, asleep), stays)) = (refl, (caught_up d chip w s TheState 2 tt (sym (ap (λ x. state_word x) asleep)) h, (refl, refl, refl)))

  pub mode_right : AreRight (gpt_ground d) (mode_bodies d)
  mode_right = all_right d (mode_bodies d) mode_shortens (λ k x. never_clean (mode_work k) k (mode_takes k x)) (λ f w w1 s k o t le h. on_later w.now w1.now le h) steps
