-- Bodies of short services, in one window and with nothing held, and their acts.
-- From service_outline: ShortServices, RefinementRight, service_outline: StepKinds, Look.
-- Used by Clock, Query, State, Reset, Fill.
use Rattle.std.proofs.Common.{◌≡◌, ◌≤◌, ◌&&◌, [], ◌∙◌}
use Rattle.mcu_driver.specs.Terms
use Terms.{Act, acts_by, Answer, answers, ap, AreLong, arith, begins_word, BodyTaken, Bool, Call, Called, Chip}
use Terms.{chip_after, Cleans, Done, Event, false, FrameHistory, fresh_history, is_locked, is_reset_service, is_shared, KeepsMask, LongBodies, may, mcu_basis, mcu_setting, McuTable, McuRepresents, McuState, missed_after, Move, None, not, Nothing, Option, or_true, Order, Origin, outcome, plain_makes, plain_turns, refl, Reservations, resets_chip, SendsRight, service_of, Shortens, ShortensTo, Some, Tick, true, value_of, Within, work, Works, World, world_after, ℕ}
use Rattle.mcu_driver.specs.laws.{RefinementRight.{owned_plain, may_parts}, Look.{MayAct}}

-- the oscillator's time goes on
osc_later : (w : World) (rate : ℕ) (order : Order) → w.osc ≤ (world_after w rate order).osc
osc_later w rate (Tick n) = omega arith
osc_later w rate _ = omega arith

stays_closed : (room later : ℕ) (e : Option Event) (left : Option Done) → ShortensTo room later left → KeepsMask true true room later e left
stays_closed room later e None h = (refl, h)
stays_closed room later e (Some n) h = h

-- what holds at a place is of the state and of the frame
abbrev pub HoldsAt : Type 0 → Type 1
HoldsAt Body = World → McuState → Body → Origin Call → FrameHistory → Type 0

module _ (d : McuTable) where
  abbrev pub plain : {Body : Type 0} → (Body → Move) → (Body → ℕ → Body × BodyTaken) → (Body → ℕ) → (Body → Bool) → HoldsAt Body → LongBodies (mcu_basis d) Body
  plain work takes fuel clean holds = record { work_of = work; takes = takes; fuel = fuel; room = fuel; clean = clean; assertion = λ k. Within tt [] (λ below f w s o t. holds w s k o t) }

  -- what a step is, by what it makes of the body
  abbrev pub WorksTo : {Body : Type 0} → LongBodies (mcu_basis d) Body → Reservations → Chip → World → McuState → Body → Origin Call → (value received : ℕ) → FrameHistory → (ℕ → Bool) → Body × BodyTaken → Type 0
  WorksTo b below chip w s k o x y t m p = Works (mcu_basis d) b below chip (chip_after chip (b.work_of k) y) w s o (b.work_of k) (b.clean k) x y t m p.0 p.1.event p.1.done

  -- what they owe
  pub record IsPlain {Body : Type 0} (b : LongBodies (mcu_basis d) Body) (holds : HoldsAt Body) : Type 0 where
    pub own : (w : World) (s : McuState) (k : Body) (o : Origin Call) (t : FrameHistory) → holds w s k o t → may (b.work_of k) ≡ true
    pub steps : (below : Reservations) (chip : Chip) (w : World) (s : McuState) (k : Body) (o : Origin Call) (y : ℕ) (t : FrameHistory) (m : ℕ → Bool) → McuRepresents d below chip w s → holds w s k o t → WorksTo b below chip w s k o (value_of chip (b.work_of k)) y t m (b.takes k (value_of chip (b.work_of k)))
    pub later : (w w1 : World) (s : McuState) (k : Body) (o : Origin Call) (t : FrameHistory) → w.osc ≤ w1.osc → holds w s k o t → holds w1 s k o t
    pub calm : (k : Body) (x : ℕ) → (b.takes k x).1.event ≡ None → (resets_chip (b.work_of k) ≡ false) × (begins_word (b.work_of k) ≡ false)
    pub shortens : (k : Body) (x : ℕ) → Shortens b.fuel k (b.takes k x)
    pub cleans : (k : Body) (x : ℕ) → Cleans b.clean (b.work_of k) k (b.takes k x)

  module _ {Body : Type 0} (work : Body → Move) (takes : Body → ℕ → Body × BodyTaken) (fuel : Body → ℕ) (clean : Body → Bool) (holds : HoldsAt Body) (p : IsPlain (plain work takes fuel clean holds) holds) where
    named : (w : World) (s : McuState) (k : Body) (o : Origin Call) (t : FrameHistory) → holds w s k o t → is_shared (work k) ≡ false
    named w s k o t h = owned_plain (work k) (may_parts (work k) (p.own w s k o t h)).0

    pub plain_right : AreLong (mcu_basis d) (plain work takes fuel clean holds)
    plain_right = record {
      own = λ below chip w s k o t h. or_true (is_shared (work k)) (p.own w s k o t h.1);
      turns = λ below chip w s k o t h. let x = takes k (value_of chip (work k)) in plain_turns 32 true true (fuel k) (fuel x.0) (work k) x.1.event x.1.done (named w s k o t h.1) (stays_closed (fuel k) (fuel x.0) x.1.event x.1.done (p.shortens k (value_of chip (work k))));
      steps = λ below chip w s k o y t m come few h. let v = value_of chip (work k) in let x = takes k v in plain_makes (mcu_basis d) (plain work takes fuel clean holds) below chip (chip_after chip (work k) y) w s o (clean k) v y t (missed_after (mcu_setting d).machine w s m) x.0 x.1.event x.1.done (work k) (named w s k o t h.1) (p.steps below chip w s k o y t (missed_after (mcu_setting d).machine w s m) h.0 h.1);
      later = λ below chip w s order k o t come shut h. p.later w (world_after w chip.clock.rate order) s k o t (osc_later w chip.clock.rate order) h.1;
      calm = λ below chip w s k o t h e. p.calm k (value_of chip (work k)) e;
      shortens = p.shortens;
      cleans = p.cleans;
    }

  -- ---- an act without an error that ends the body

  module _ {Body : Type 0} (b : LongBodies (mcu_basis d) Body) (below : Reservations) (before chip : Chip) (w : World) (s s1 : McuState) (call : Call) (made : Move) (clean : Bool) (x y : ℕ) (m : ℕ → Bool) (k : Body) (a : Answer) where
    pub acted : MayAct d s call → work d w s call ≡ outcome s1 (answers a) → SendsRight before None made → resets_chip made ≡ is_reset_service (service_of call) && true → McuRepresents d below chip w s1 → Works (mcu_basis d) b below before chip w s (Called call) made clean x y fresh_history m k (Some Act) (Some (record { answer = a; owed = Nothing }))
    acted pass does sends reset h = record {
      may = refl;
      stands = tt;
      state = s1;
      told = answers a;
      begins = None;
      is = ap (λ e. Some (acts_by d w s call e)) (pass (not (is_locked w s.pll))) ∙ ap (λ o. Some o) does;
      sends = sends;
      acts = tt;
      reset = reset;
      next = (h, record { may = (refl, refl); served = false; owed = refl; shown = λ e. absurd (cc); report = refl });
    }
