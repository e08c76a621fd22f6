-- Gpt_GetTimeElapsed and Gpt_GetTimeRemaining: their steps, what holds at each, and that they are right.
-- From Base, service_outline: Acts, service_outline: Seen, ChannelTimes, RefinementRight and 1 more.
-- Used by Lawful, service/count/rt.
use Rattle.std.proofs.Common.{◌≡◌, ℕ, ◌+◌, ◌*◌, ◌-◌, ◌/◌, ◌%◌, ◌<◌, ◌^◌, true, Option, None, refl, sym, ◌∙◌, ap, subst, arith}
use Rattle.run_model.specs.Machine.{number}
use Rattle.gpt_driver.specs.laws.Base.{OfChannel as Channel, lt-ltb, Chip, chip_after, Timers, timer_at, counter, Move, TimerLow, TimerHigh, World, Told, outcome, Origin, stands-move, Nothing, BodyTaken, goes, acts_on, ends, never_clean, Shortens, Bodies, AreRight, Before, Is_before, After, Is_after, Lag, settled, TargetOf, GptRepresents, gpt_ground, GptState, channel_at, elapsed, remaining, target_of, runs_at, answers_number, channel_of, target_word, Call, GetTimeElapsed, GetTimeRemaining, GptTable, Load, Read, Plain, WindowHistory, SeesTo, Starts, MayRun, steady, AllGood, all_right, acts_so}
use Rattle.service_outline.specs.WindowHistory.{HasRead}
use Rattle.service_outline.specs.laws.Seen.{never_after}
use Rattle.gpt_driver.specs.declared.service.count.CountBody.{CountBody}
use Rattle.gpt_driver.specs.declared.service.count.CountBody.TheVariants.{ElapsedLow, ElapsedHigh, RemainingTarget, RemainingLow, RemainingHigh}
use Rattle.gpt_driver.specs.laws.ChannelTimes.{elapsed_small}
use Rattle.gpt_driver.specs.laws.RefinementRight.{may_words}
use Rattle.gpt_driver.specs.laws.Parts.{elapsed_here}

-- ---- its steps

abbrev pub count_work : CountBody → Move
count_work (ElapsedLow c) = Read (TimerLow c)
count_work (ElapsedHigh c low) = Read (TimerHigh c)
count_work (RemainingTarget c) = Load (target_word c)
count_work (RemainingLow c v) = Read (TimerLow c)
count_work (RemainingHigh c v low) = Read (TimerHigh c)

-- the counter, by its halves
abbrev pub joined : ℕ → ℕ → ℕ
joined low high = low % 65536 + high % 65536 * 65536

abbrev pub ends_with : ℕ → BodyTaken
ends_with n = ends None (number n) Nothing

abbrev pub count_takes : CountBody → ℕ → CountBody × BodyTaken
count_takes (ElapsedLow c) x = (ElapsedHigh c x, acts_on)
count_takes (ElapsedHigh c low) x = (ElapsedHigh c low, ends_with (joined low x))
count_takes (RemainingTarget c) x = (RemainingLow c x, goes)
count_takes (RemainingLow c v) x = (RemainingHigh c v x, acts_on)
count_takes (RemainingHigh c v low) x = (RemainingHigh c v low, ends_with (v - joined low x))

abbrev pub count_left : CountBody → ℕ
count_left (ElapsedLow c) = 2
count_left (ElapsedHigh c low) = 1
count_left (RemainingTarget c) = 3
count_left (RemainingLow c v) = 2
count_left (RemainingHigh c v low) = 1

count_shortens : (k : CountBody) (x : ℕ) → Shortens count_left k (count_takes k x)
count_shortens (ElapsedLow c) x = omega arith
count_shortens _ x = omega arith

-- ---- what holds at each; after the act the latch has the high half

abbrev pub count_gap : CountBody → Lag
count_gap k = settled

abbrev pub elapsed_call : ℕ → Call
elapsed_call c = Channel c GetTimeElapsed

abbrev pub remaining_call : ℕ → Call
remaining_call c = Channel c GetTimeRemaining

abbrev pub count_holds : GptTable → Timers → GptState → CountBody → Origin Call → Option Told → Type 0
count_holds d f s (ElapsedLow c) o t = Before (elapsed_call c) o t × MayRun d s c GetTimeElapsed
count_holds d f s (ElapsedHigh c low) o t = After (elapsed_call c) (answers_number (joined low f.latch)) o t × (c < 8)
count_holds d f s (RemainingTarget c) o t = Before (remaining_call c) o t × MayRun d s c GetTimeRemaining
count_holds d f s (RemainingLow c v) o t = Before (remaining_call c) o t × MayRun d s c GetTimeRemaining × (v ≡ target_of (channel_at s c).course)
count_holds d f s (RemainingHigh c v low) o t = After (remaining_call c) (answers_number (v - joined low f.latch)) o t × (c < 8)

abbrev pub count_bodies : (d : GptTable) → Bodies (gpt_ground d) CountBody
count_bodies d = steady d count_work count_takes count_left count_gap (count_holds d)

-- the halves of a count make the count
halves : (n : ℕ) → n < 2 ^ 32 → joined (n % 65536) (n / 65536) ≡ n
halves n lt = let a : n < 4294967296 = lt in omega arith

module _ (d : GptTable) where
  read_is : (chip : Chip) (w : World) (s : GptState) (c : ℕ) → c < 8 → GptRepresents d settled chip w s → let n = counter (timer_at chip.timers c) chip.timers.time in joined (n % 65536) (n / 65536) ≡ elapsed (channel_of d c) w.now (channel_at s c).course
  read_is chip w s c lt h =
      let e = elapsed_here d chip w s settled h c lt refl in
      let n = counter (timer_at chip.timers c) chip.timers.time in
      let small : n < 2 ^ 32 = subst (λ x. x < 2 ^ 32) (sym e) (elapsed_small (channel_of d c) _ (channel_at s c).course w.now (h.block c lt refl).set) in
      halves n small ∙ e

  latched : (chip : Chip) (w : World) (s : GptState) (c : ℕ) → GptRepresents d settled chip w s → GptRepresents d settled (chip_after chip (Read (TimerLow c)) 0) w s
  latched chip w s c h = record { outside = stands-move chip w (Read (TimerLow c)) 0 h.outside; block = h.block; words = h.words; lines = h.lines; clean = h.clean }

  steps : AllGood d (count_bodies d)
  steps chip w s (ElapsedLow c) o t m (h, (Is_before, i)) =
      (lt-ltb c 8 i.lt, acts_so d w s (elapsed_call c) (i.pass (runs_at d w s c)) (ap (λ n. outcome s (answers_number n)) (sym (read_is chip w s c i.lt h))) refl (latched chip w s c h, (Is_after, i.lt)))
  steps chip w s (ElapsedHigh c low) o t m (h, (Is_after, lt)) = (lt-ltb c 8 lt, (h, (refl, refl, refl)))
  steps chip w s (RemainingTarget c) o t m (h, (Is_before, i)) = (may_words (TargetOf c) i.lt, (h, (Is_before, i, h.words (TargetOf c) i.lt refl)))
  steps chip w s (RemainingLow c v) o t m (h, (Is_before, i, is)) =
      let n = counter (timer_at chip.timers c) chip.timers.time in
      let left : v - joined (n % 65536) (n / 65536) ≡ remaining (channel_of d c) w.now (channel_at s c).course = ap (λ y. y - joined (n % 65536) (n / 65536)) is ∙ ap (λ y. target_of (channel_at s c).course - y) (read_is chip w s c i.lt h) in
      (lt-ltb c 8 i.lt, acts_so d w s (remaining_call c) (i.pass (runs_at d w s c)) (ap (λ x. outcome s (answers_number x)) (sym left)) refl (latched chip w s c h, (Is_after, i.lt)))
  steps chip w s (RemainingHigh c v low) o t m (h, (Is_after, lt)) = (lt-ltb c 8 lt, (h, (refl, refl, refl)))

  pub count_right : AreRight (gpt_ground d) (count_bodies d)
  count_right = all_right d (count_bodies d) count_shortens (λ k x. never_clean (count_work k) k (count_takes k x)) (λ f w w1 s k o t le h. h) steps

-- ---- its window: before it reads a high half it has read the low one, and where it begins it has read nothing

abbrev pub count_seen : CountBody → WindowHistory
count_seen (ElapsedHigh c low) = HasRead (TimerLow c)
count_seen (RemainingHigh c v low) = HasRead (TimerLow c)
count_seen _ = Plain

pub count_sees : (k : CountBody) (x : ℕ) → SeesTo count_seen true (count_work k) k (count_takes k x)
count_sees (ElapsedLow c) x = (tt, refl)
count_sees (RemainingTarget c) x = refl
count_sees (RemainingLow c v) x = (tt, refl)
count_sees _ x = ((refl, refl), λ e. absurd (cc))

pub count_unseen : (d : GptTable) (f : Timers) (s : GptState) (k : CountBody) (o : Origin Call) → count_holds d f s k o None → Starts (count_seen k)
count_unseen d f s (ElapsedHigh c low) o h = never_after o None refl h.0
count_unseen d f s (RemainingHigh c v low) o h = never_after o None refl h.0
count_unseen d f s _ o h = tt
