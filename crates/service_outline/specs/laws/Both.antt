-- Long bodies of either of two kinds owe no more.
-- Used by driver_examples: held.ToyLaws, SweepRight.
use Rattle.std.proofs.Common.{inl, inr}
use Rattle.std.specs.Prelude.{◌≡◌, ℕ, ◌<◌, Bool, true, false, ◌||◌, List, ◌∷◌, Option, Some, None}
use Rattle.chip_model.specs.Chip.{Chip, value_of, chip_after, happened, is_masked}
use Rattle.mcal_base.specs.declared.answer.Answer.{Answer}
use Rattle.mcal_base.specs.declared.directive.Order.{Order}
use Rattle.mcal_base.specs.declared.moves.Event.{Event}
use Rattle.mcal_base.specs.declared.moves.Move.{Move}
use Rattle.mcal_base.specs.declared.moves.Move.TheVariants.{Read, Write, Load, Store, Mask, Unmask, Note, Report}
use Rattle.run_model.specs.World.{World, world_after}
use Rattle.run_model.specs.Frame.{Origin, missed_after, is_shared, resets_chip, begins_word}
use Rattle.step_runner.specs.Driver.{most_steps, ComesRight}
use Rattle.service_outline.specs.declared.done.Done.{Done}
use Rattle.service_outline.specs.declared.body.Or.{Or}
use Rattle.service_outline.specs.declared.body.Or.TheVariants.{First, Second}
use Rattle.service_outline.specs.Both.{both}
use Rattle.service_outline.specs.Acts.{Cleans}
use Rattle.service_outline.specs.Fuel.{Shortens}
use Rattle.service_outline.specs.FrameHistory.{FrameHistory, past_wrote, past_after}
use Rattle.service_outline.specs.Services.{ReservedBy, SharedRefinement, place_at, LongBodies, AssertedAt, AreEnding, AreLong, Continues, Works, Makes, PointAssertion, Within, Outside, Looking, Adding, RightOr, ended_at, TurnsTo, MayCome, is_closed, with_holds, holds_at}

-- what follows with any past that a look may leave
pub adding_on : {State Call : Type 0} {g : SharedRefinement State Call} (x : PointAssertion g) (ready : ℕ → Bool) (past : FrameHistory) {P Q : FrameHistory → Type 0} → ((t : FrameHistory) → P t → Q t) → Adding x ready past P → Adding x ready past Q
adding_on (Within gap hs place) ready past go h = go past h
adding_on (Outside hs place) ready past go h = go past h
adding_on (Looking gap hs place) ready past go (inl h) = inl (go past h)
adding_on (Looking gap hs place) ready past go (inr (l, e, h)) = inr (l, e, go (record past { missed = l ∷ past.missed }) h)

module _ {State Call A B : Type 0} (g : SharedRefinement State Call) (v : LongBodies g A) (u : LongBodies g B) (lift : A → B) (below : List (ReservedBy Call g.Reservation))
    (at : (chip : Chip) (w : World) (s : State) (k : A) (o : Origin Call) (t : FrameHistory) → AssertedAt g v below chip w s k o t → AssertedAt g u below chip w s (lift k) o t) where
  goes_lift : (chip : Chip) (w : World) (s : State) (o : Origin Call) (t : FrameHistory) (m : ℕ → Bool) (k : A) (n : Option Done) → Continues g v below chip w s o t m k n → Continues g u below chip w s o t m (lift k) n
  goes_lift chip w s o t m k None h = at chip w s k o t h
  goes_lift chip w s o t m k (Some n) h = h

  works_lift : (before chip : Chip) (w : World) (s : State) (o : Origin Call) (made : Move) (p : Bool) (x y : ℕ) (t : FrameHistory) (m : ℕ → Bool) (k : A) (e : Option Event) (n : Option Done) → Works g v below before chip w s o made p x y t m k e n → Works g u below before chip w s o made p x y t m (lift k) e n
  works_lift before chip w s o made p x y t m k None n h = goes_lift chip w s o (past_wrote w made t) m k n h
  works_lift before chip w s o made p x y t m k (Some e) n h = record { may = h.may; stands = h.stands; state = h.state; told = h.told; begins = h.begins; is = h.is; sends = h.sends; acts = h.acts; reset = h.reset; next = goes_lift chip w h.state o (past_after g.setting.machine w s o e h.told (past_wrote w made t)) m k n h.next }

  pub makes_lift : (before chip : Chip) (w : World) (s : State) (o : Origin Call) (made : Move) (p : Bool) (x y : ℕ) (t : FrameHistory) (m : ℕ → Bool) (k : A) (e : Option Event) (n : Option Done) → Makes g v below before chip w s o made p x y t m k e n → Makes g u below before chip w s o made p x y t m (lift k) e n
  makes_lift before chip w s o Mask p x y t m k e n h = at chip w s k o t h
  makes_lift before chip w s o Unmask p x y t m k e n h = at chip w s k o t h
  makes_lift before chip w s o (Note j) p x y t m k e n h = record { served = h.served; others = h.others; is = h.is; shown = h.shown; next = at chip w s k o (record t { owed = h.others }) h.next }
  makes_lift before chip w s o (Report j) p x y t m k e n h = h
  makes_lift before chip w s o (Read r) p x y t m k e n h = works_lift before chip w s o (Read r) p x y t m k e n h
  makes_lift before chip w s o (Write r v) p x y t m k e n h = works_lift before chip w s o (Write r v) p x y t m k e n h
  makes_lift before chip w s o (Load r) p x y t m k e n h = works_lift before chip w s o (Load r) p x y t m k e n h
  makes_lift before chip w s o (Store r v) p x y t m k e n h = works_lift before chip w s o (Store r v) p x y t m k e n h

module _ {State Call A B : Type 0} (g : SharedRefinement State Call) (v : LongBodies g A) (u : LongBodies g B) (ends_with : Or A B → Option Answer) (p : AreEnding g v (λ k. ends_with (First k))) (q : AreEnding g u (λ k. ends_with (Second k))) where
  own : (below : List (ReservedBy Call g.Reservation)) (chip : Chip) (w : World) (s : State) (k : Or A B) (o : Origin Call) (t : FrameHistory) → AssertedAt g (both v u) below chip w s k o t → is_shared ((both v u).work_of k) || g.setting.may o ((both v u).work_of k) ≡ true
  own below chip w s (First k) o t h = p.own below chip w s k o t h
  own below chip w s (Second k) o t h = q.own below chip w s k o t h

  turns : (below : List (ReservedBy Call g.Reservation)) (chip : Chip) (w : World) (s : State) (k : Or A B) (o : Origin Call) (t : FrameHistory) → AssertedAt g (both v u) below chip w s k o t → TurnsTo (both v u) (g.setting.window_of o) k ((both v u).takes k (value_of chip ((both v u).work_of k)))
  turns below chip w s (First k) o t h = p.turns below chip w s k o t h
  turns below chip w s (Second k) o t h = q.turns below chip w s k o t h

  first_by : (below : List (ReservedBy Call g.Reservation)) (chip : Chip) (w : World) (s : State) (k : A) (o : Origin Call) (received : ℕ) (t : FrameHistory) (m : ℕ → Bool) (a : Option Answer) → RightOr g v below chip w s k o received t m a → RightOr g (both v u) below chip w s (First k) o received t m a
  first_by below chip w s k o received t m None h =
      let y = value_of chip (v.work_of k) in
      let x = v.takes k y in
      adding_on (v.assertion k) (g.setting.machine.ready w s) t (λ t1 made. makes_lift g v (both v u) (λ i. First i) below (λ chip w s k o t h. h) chip (chip_after chip (v.work_of k) received) w s o (v.work_of k) (v.clean k) y received t1 (missed_after g.setting.machine w s m) x.0 x.1.event x.1.done made) h
  first_by below chip w s k o received t m (Some a) h = h

  second_by : (below : List (ReservedBy Call g.Reservation)) (chip : Chip) (w : World) (s : State) (k : B) (o : Origin Call) (received : ℕ) (t : FrameHistory) (m : ℕ → Bool) (a : Option Answer) → RightOr g u below chip w s k o received t m a → RightOr g (both v u) below chip w s (Second k) o received t m a
  second_by below chip w s k o received t m None h =
      let y = value_of chip (u.work_of k) in
      let x = u.takes k y in
      adding_on (u.assertion k) (g.setting.machine.ready w s) t (λ t1 made. makes_lift g u (both v u) (λ i. Second i) below (λ chip w s k o t h. h) chip (chip_after chip (u.work_of k) received) w s o (u.work_of k) (u.clean k) y received t1 (missed_after g.setting.machine w s m) x.0 x.1.event x.1.done made) h
  second_by below chip w s k o received t m (Some a) h = h

  steps : (below : List (ReservedBy Call g.Reservation)) (chip : Chip) (w : World) (s : State) (k : Or A B) (o : Origin Call) (received : ℕ) (t : FrameHistory) (m : ℕ → Bool) → ComesRight chip w ((both v u).work_of k) received → g.count s < most_steps → AssertedAt g (both v u) below chip w s k o t → RightOr g (both v u) below chip w s k o received t m (ended_at (both v u) ends_with k (value_of chip ((both v u).work_of k)))
  steps below chip w s (First k) o received t m come few h = first_by below chip w s k o received t m (ended_at v (λ i. ends_with (First i)) k (value_of chip (v.work_of k))) (p.steps below chip w s k o received t m come few h)
  steps below chip w s (Second k) o received t m come few h = second_by below chip w s k o received t m (ended_at u (λ i. ends_with (Second i)) k (value_of chip (u.work_of k))) (q.steps below chip w s k o received t m come few h)

  later : (below : List (ReservedBy Call g.Reservation)) (chip : Chip) (w : World) (s : State) (order : Order) (k : Or A B) (o : Origin Call) (t : FrameHistory) → MayCome g.setting (with_holds o t.acted (holds_at ((both v u).assertion k)) below) chip w s order → (is_masked chip ≡ false → is_closed ((both v u).assertion k) ≡ false) → AssertedAt g (both v u) below chip w s k o t → place_at ((both v u).assertion k) below (g.foot (happened chip order)) (world_after w chip.clock.rate order) (g.later w s order) o t
  later below chip w s order (First k) o t free shut h = p.later below chip w s order k o t free shut h
  later below chip w s order (Second k) o t free shut h = q.later below chip w s order k o t free shut h

  calm : (below : List (ReservedBy Call g.Reservation)) (chip : Chip) (w : World) (s : State) (k : Or A B) (o : Origin Call) (t : FrameHistory) → AssertedAt g (both v u) below chip w s k o t → ((both v u).takes k (value_of chip ((both v u).work_of k))).1.event ≡ None → (resets_chip ((both v u).work_of k) ≡ false) × (begins_word ((both v u).work_of k) ≡ false)
  calm below chip w s (First k) o t h e = p.calm below chip w s k o t h e
  calm below chip w s (Second k) o t h e = q.calm below chip w s k o t h e

  shortens : (k : Or A B) (x : ℕ) → Shortens (both v u).fuel k ((both v u).takes k x)
  shortens (First k) x = p.shortens k x
  shortens (Second k) x = q.shortens k x

  cleans : (k : Or A B) (x : ℕ) → Cleans (both v u).clean ((both v u).work_of k) k ((both v u).takes k x)
  cleans (First k) x = p.cleans k x
  cleans (Second k) x = q.cleans k x

  pub both_ending : AreEnding g (both v u) ends_with
  both_ending = record { own = own; turns = turns; steps = steps; later = later; calm = calm; shortens = shortens; cleans = cleans }

pub both_right : {State Call A B : Type 0} (g : SharedRefinement State Call) (v : LongBodies g A) (u : LongBodies g B) → AreLong g v → AreLong g u → AreLong g (both v u)
both_right g v u p q = both_ending g v u (λ k. None) p q
