-- Gpt_Init: its steps, what holds at each, and that they are right.
-- From Base, Parts, service_outline: Acts.
-- Used by service/init/rt, Lawful, DeInit.
use Rattle.std.proofs.Common.{◌≡◌, ℕ, ◌<◌, true, false, Option, Some, None, refl, ◌∙◌, ap, subst, arith}
use Rattle.std.proofs.lemmas.Bool.{agree_below_at, or_right}
use Rattle.gpt_driver.specs.laws.Base.{Store as Stores, Chip, word_of, Timers, timer_at, has_bit, has_bit-or, Act, Move, EnableSet, World, Told, no_answer, Origin, Nothing, BodyTaken, goes, ends, never_clean, Shortens, Bodies, AreRight, Before, Is_before, error_by, Lag, settled, behind, TimerAgrees, Word, TheState, TargetOf, SwitchesOf, number_of, IsWord, value_in, GptRepresents, gpt_ground, GptState, fresh_state, Normal, is_off, is_asleep, target_of, is_busy, channel_of, packed, Call, Init, GptTable, STATE, LINES, Write, steady, AllGood, all_right, acts_so}
use Rattle.gpt_driver.specs.declared.service.init.InitBody.{InitBody}
use Rattle.gpt_driver.specs.declared.service.init.InitBody.TheVariants.{Enable, Store}
use Rattle.gpt_driver.specs.laws.Parts.{caught_up, moved, never_off}

abbrev pub init_work : InitBody → Move
init_work Enable = Write EnableSet LINES
init_work Store = Stores STATE 1

abbrev pub init_takes : InitBody → ℕ → InitBody × BodyTaken
init_takes Enable x = (Store, goes)
init_takes Store x = (Store, ends (Some Act) no_answer Nothing)

abbrev pub init_left : InitBody → ℕ
init_left Enable = 2
init_left Store = 1

init_shortens : (k : InitBody) (x : ℕ) → Shortens init_left k (init_takes k x)
init_shortens Enable x = omega arith
init_shortens _ x = omega arith

-- the lines are enabled already
abbrev pub armed : Lag
armed = record settled { lines = Some true }

abbrev pub init_gap : InitBody → Lag
init_gap Enable = settled
init_gap Store = armed

abbrev pub init_holds : Timers → GptState → InitBody → Origin Call → Option Told → Type 0
init_holds f s k o t = Before Init o t × (is_off s.mode ≡ true)

abbrev pub init_bodies : (d : GptTable) → Bodies (gpt_ground d) InitBody
init_bodies d = steady d init_work init_takes init_left init_gap init_holds

pub all_lines : (c : ℕ) → c < 8 → has_bit LINES c ≡ true
all_lines c lt = agree_below_at (λ i. has_bit LINES i) (λ i. true) 8 c refl lt

module _ (d : GptTable) where
  turned_on : (chip : Chip) (w : World) (s : GptState) → is_off s.mode ≡ true → GptRepresents d armed chip w s → GptRepresents d (behind STATE) chip w (fresh_state Normal)
  turned_on chip w s off h = record {
    outside = h.outside;
    block = λ c lt closed. subst (λ x. TimerAgrees (channel_of d c) (has_bit chip.timers.one_shot c) (timer_at chip.timers c) x) (h.clean off c) (h.block c lt refl);
    words = words;
    lines = h.lines;
    clean = never_off Normal refl;
  }
    where
      words : (x : Word) → IsWord x → (behind STATE).words (number_of x) ≡ false → word_of chip (number_of x) ≡ value_in (fresh_state Normal) x
      words TheState there closed = absurd (cc)
      words (TargetOf c) there closed = h.words (TargetOf c) there refl ∙ ap (λ y. target_of y.course) (h.clean off c)
      words (SwitchesOf c) there closed = h.words (SwitchesOf c) there refl ∙ ap (λ y. packed y.switches) (h.clean off c)

  steps : AllGood d (init_bodies d)
  steps chip w s Enable o t m (h, (Is_before, off)) = (refl, (moved d (Write EnableSet LINES) chip w s s settled armed h h.block h.words (λ c lt. has_bit-or chip.control.enabled LINES c ∙ or_right _ _ (all_lines c lt)) h.clean, (Is_before, off)))
  steps chip w s Store o t m (h, (Is_before, off)) =
      let first : error_by d Init (is_off s.mode) (is_asleep s.mode) (is_busy d w s Init) ≡ None = ap (λ u. error_by d Init u (is_asleep s.mode) (is_busy d w s Init)) off in
      (refl, acts_so d w s Init first refl tt (caught_up d chip w (fresh_state Normal) TheState 1 tt refl (turned_on chip w s off h), (refl, refl, refl)))

  pub init_right : AreRight (gpt_ground d) (init_bodies d)
  init_right = all_right d (init_bodies d) init_shortens (λ k x. never_clean (init_work k) k (init_takes k x)) (λ f w w1 s k o t le h. h) steps
