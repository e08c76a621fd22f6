-- Mcu_PerformReset: its step, and that it is right.
-- From Base, RefinementRight, service_outline: Acts, Look.
-- Used by service/reset/rt, Lawful.
use Rattle.std.proofs.Common.{◌≡◌}
use Rattle.mcu_driver.specs.Terms
use Terms.{Act, AreLong, arith, begins_word, BodyTaken, Bool, Call, Called, Chip, ends, false, FrameHistory, fresh_history, Is_this_frame, IsThisFrame, LongBodies, may, mcu_basis, McuTable, McuRepresents, McuState, Move, never_clean, no_answer, None, Nothing, Origin, PerformReset, refl, Reservations, Reset, ResetBody, ResetRequest, resets_chip, Shortens, Some, true, value_of, World, Write, ℕ}
use Rattle.mcu_driver.specs.laws.{Base.{plain, WorksTo, plain_right, acted}, RefinementRight.{same_agrees, all_moved}}
use Rattle.mcu_driver.specs.laws.{Look.{MayAct}}

abbrev pub reset_work : ResetBody → Move
reset_work Reset = Write ResetRequest 1

abbrev pub reset_takes : ResetBody → ℕ → ResetBody × BodyTaken
reset_takes Reset x = (Reset, ends (Some Act) no_answer Nothing)

abbrev pub reset_holds : McuTable → World → McuState → ResetBody → Origin Call → FrameHistory → Type 0
reset_holds d w s k o t = IsThisFrame (Called PerformReset) fresh_history o t × MayAct d s PerformReset

abbrev pub reset_bodies : (d : McuTable) → LongBodies (mcu_basis d) ResetBody
reset_bodies d = plain d reset_work reset_takes (λ k. 1) (λ k. false) (reset_holds d)

module _ (d : McuTable) where
  -- the request changes nothing itself: the reset follows
  steps : (below : Reservations) (chip : Chip) (w : World) (s : McuState) (k : ResetBody) (o : Origin Call) (y : ℕ) (t : FrameHistory) (m : ℕ → Bool) → McuRepresents d below chip w s → reset_holds d w s k o t → WorksTo d (reset_bodies d) below chip w s k o (value_of chip (reset_work k)) y t m (reset_takes k (value_of chip (reset_work k)))
  steps below chip w s Reset o y t m h (Is_this_frame, pass) = acted d (reset_bodies d) below chip _ w s s PerformReset (Write ResetRequest 1) false 0 y m Reset no_answer pass refl tt refl (same_agrees d below chip _ w w s (all_moved chip (Write ResetRequest 1) y h.all) h.clock refl (λ k own. refl) h)

  own : (k : ResetBody) → may (reset_work k) ≡ true
  own Reset = refl

  calm : (k : ResetBody) (x : ℕ) → (reset_takes k x).1.event ≡ None → (resets_chip (reset_work k) ≡ false) × (begins_word (reset_work k) ≡ false)
  calm Reset x e = absurd (cc)

  shortens : (k : ResetBody) (x : ℕ) → Shortens (reset_bodies d).fuel k (reset_takes k x)
  shortens Reset x = omega arith

  pub reset_right : AreLong (mcu_basis d) (reset_bodies d)
  reset_right = plain_right d reset_work reset_takes (λ k. 1) (λ k. false) (reset_holds d) (record {
    own = λ w s k o t h. own k;
    steps = steps;
    later = λ w w1 s k o t le h. h;
    calm = calm;
    shortens = shortens;
    cleans = λ k x. never_clean (reset_work k) k (reset_takes k x);
  })
