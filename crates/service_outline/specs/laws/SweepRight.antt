-- A sweep owes no more.
-- From Both, ShortServices, StepKinds, Acts, SweepWords.
-- Used by driver_examples: held.ToyLaws.
use Rattle.std.proofs.Common.{◌≡◌, ℕ, ◌+◌, ◌-◌, ◌<◌, ◌≤◌, Bool, true, false, ◌||◌, nat_lt, List, None, refl, sym, subst, arith}
use Rattle.std.specs.Prelude.{if◌then◌else◌}
use Rattle.mcal_base.specs.facts.Numbers.{lt_is}
use Rattle.chip_model.specs.Chip.{Chip, value_of, chip_after, happened, is_masked}
use Rattle.mcal_base.specs.declared.directive.Order.{Order}
use Rattle.mcal_base.specs.declared.moves.Move.{Move}
use Rattle.mcal_base.specs.declared.moves.Move.TheVariants.{Mask, Unmask}
use Rattle.run_model.specs.World.{World, world_after}
use Rattle.run_model.specs.Frame.{Origin, missed_after, is_shared, resets_chip, begins_word}
use Rattle.step_runner.specs.Driver.{most_steps, ComesRight}
use Rattle.service_outline.specs.Fuel.{Shortens}
use Rattle.service_outline.specs.FrameHistory.{FrameHistory, past_wrote}
use Rattle.service_outline.specs.Services.{ReservedBy, SharedRefinement, IsBasis, Elsewhere, MayCome, LongBodies, AssertedAt, AreLong, Right, Makes, TurnsTo, is_closed, holds_at, place_at, with_holds}
use Rattle.service_outline.specs.Sweep.{place_of}
use Rattle.service_outline.specs.SweepServices.{Sweeping, sweep, sweep_fuel, IsSweeping}
use Rattle.service_outline.specs.declared.sweep.SweepStage.{SweepStage}
use Rattle.service_outline.specs.declared.sweep.SweepStage.TheVariants.{Opens, At, Closes, Follows}
use Rattle.service_outline.specs.declared.sweep.Sweep.{Sweep}
use Rattle.service_outline.specs.laws.Acts.{never_clean}
use Rattle.service_outline.specs.laws.Both.{adding_on, makes_lift}
use Rattle.service_outline.specs.laws.ShortServices.{plain_makes, plain_turns}
use Rattle.service_outline.specs.laws.StepKinds.{or_true, silent_received}
use Rattle.service_outline.specs.laws.SweepWords.{next_by}

module _ {State Call S B : Type 0} (g : SharedRefinement State Call) (v : Sweeping g S B) (b : LongBodies g B) (basis : IsBasis g) (right : AreLong g b) (law : IsSweeping g v b) where
  abbrev Swept : LongBodies g (Sweep S B)
  Swept = sweep v b

  abbrev at : S → SweepStage B → Sweep S B
  at a p = record { objects = a; place = p }

  abbrev Stands : List (ReservedBy Call g.Reservation) → Chip → World → State → Sweep S B → Origin Call → FrameHistory → Type 0
  Stands = AssertedAt g Swept

  plain : (lt_is : List (ReservedBy Call g.Reservation)) (a : S) (i : ℕ) (origin : Origin Call) (past : FrameHistory) → i < v.count a → v.place a lt_is origin past → is_shared (v.move a i) ≡ false
  plain lt_is a i origin past lt h = basis.owns_plain origin (v.move a i) (basis.may_owns origin (v.move a i) (law.own a i lt_is origin past lt h))

  shared_by : (made : Move) → is_shared made ≡ true → (origin : Origin Call) (q : Bool) → g.owns origin made ≡ q → g.owns origin made ≡ false
  shared_by made f origin true e = let p : is_shared made ≡ false = basis.owns_plain origin made e in absurd (cc)
  shared_by made f origin false e = e

  apart : (made : Move) → is_shared made ≡ true → Elsewhere g made
  apart made f origin = shared_by made f origin (g.owns origin made) refl

  -- the place of the next object, or the closing of the mask
  next_stands : (lt_is : List (ReservedBy Call g.Reservation)) (chip : Chip) (w : World) (s : State) (a : S) (i : ℕ) (origin : Origin Call) (past : FrameHistory) → i ≤ v.count a → v.place a lt_is origin past → g.represents (with_holds origin past.acted (v.hold a i) lt_is) g.settled chip w s → Stands lt_is chip w s (at a (place_of (v.count a) i)) origin past
  next_stands lt_is chip w s a i origin past le p h = next_by (λ q. Stands lt_is chip w s (at a q) origin past) (v.count a) (λ j. At j) Closes i le (λ lt. (h, (p, lt))) (λ e. (subst (λ n. g.represents (with_holds origin past.acted (v.hold a n) lt_is) g.settled chip w s) e h, p))

  next_open : (a : S) (i : ℕ) → is_closed (Swept.assertion (at a (place_of (v.count a) i))) ≡ false
  next_open a i = by (nat_lt i (v.count a))
    where
      by : (q : Bool) → is_closed (Swept.assertion (at a (if q then At i else Closes))) ≡ false
      by true = refl
      by false = refl

  own : (lt_is : List (ReservedBy Call g.Reservation)) (chip : Chip) (w : World) (s : State) (k : Sweep S B) (o : Origin Call) (t : FrameHistory) → Stands lt_is chip w s k o t → is_shared (Swept.work_of k) || g.setting.may o (Swept.work_of k) ≡ true
  own lt_is chip w s k o t h = by k.objects k.place h
    where
      by : (a : S) (p : SweepStage B) → Stands lt_is chip w s (at a p) o t → is_shared (Swept.work_of (at a p)) || g.setting.may o (Swept.work_of (at a p)) ≡ true
      by a Opens h = refl
      by a (At i) h = or_true (is_shared (v.move a i)) (law.own a i lt_is o t h.1.1 h.1.0)
      by a Closes h = refl
      by a (Follows j) h = right.own lt_is chip w s j o t h

  turns : (lt_is : List (ReservedBy Call g.Reservation)) (chip : Chip) (w : World) (s : State) (k : Sweep S B) (o : Origin Call) (t : FrameHistory) → Stands lt_is chip w s k o t → TurnsTo Swept (g.setting.window_of o) k (Swept.takes k (value_of chip (Swept.work_of k)))
  turns lt_is chip w s k o t h = by k.objects k.place h
    where
      by : (a : S) (p : SweepStage B) → Stands lt_is chip w s (at a p) o t → TurnsTo Swept (g.setting.window_of o) (at a p) (Swept.takes (at a p) (value_of chip (Swept.work_of (at a p))))
      by a Opens h = (refl, next_open a 0, refl, refl)
      by a (At i) h = plain_turns (g.setting.window_of o) false _ 0 _ (v.move a i) None None (plain lt_is a i o t h.1.1 h.1.0) (next_open a (i + 1))
      by a Closes h = (refl, law.closed a, law.room a lt_is o t h.1, refl, refl)
      by a (Follows j) h = right.turns lt_is chip w s j o t h

  steps : (lt_is : List (ReservedBy Call g.Reservation)) (chip : Chip) (w : World) (s : State) (k : Sweep S B) (o : Origin Call) (received : ℕ) (t : FrameHistory) (m : ℕ → Bool) → ComesRight chip w (Swept.work_of k) received → g.count s < most_steps → Stands lt_is chip w s k o t → Right g Swept lt_is chip w s k o received t m
  steps lt_is chip w s k o received t m come few h = by k.objects k.place come h
    where
      by : (a : S) (p : SweepStage B) → ComesRight chip w (Swept.work_of (at a p)) received → Stands lt_is chip w s (at a p) o t → Right g Swept lt_is chip w s (at a p) o received t m
      by a Opens come h = next_stands lt_is (chip_after chip Unmask received) w s a 0 o t (omega arith) h.1 (basis.agrees_apart _ chip w s Unmask received (apart Unmask refl) h.0)
      by a (At i) come h =
          let made = v.move a i in
          let lt = h.1.1 in
          let none = silent_received chip w made received (law.still a i).1 come.1 in
          plain_makes g Swept lt_is chip (chip_after chip made received) w s o false (value_of chip made) received t (missed_after g.setting.machine w s m) (at a (place_of (v.count a) (i + 1))) None None made (plain lt_is a i o t lt h.1.0)
          (next_stands lt_is (chip_after chip made received) w s a (i + 1) o (past_wrote w made t) (omega (arith, lt)) (law.stays a i lt_is w o t h.1.0) (subst (λ n. g.represents (with_holds o t.acted (v.hold a (i + 1)) lt_is) g.settled (chip_after chip made n) w s) (sym none) (law.step a i lt_is chip w s o t lt h.1.0 h.0)))
      by a Closes come h = law.follows a lt_is (chip_after chip Mask received) w s o t h.1 (basis.agrees_apart _ chip w s Mask received (apart Mask refl) h.0)
      by a (Follows j) come h =
          let y = value_of chip (b.work_of j) in
          let x = b.takes j y in
          adding_on (b.assertion j) (g.setting.machine.ready w s) t (λ t1 made. makes_lift g b Swept (λ i. at a (Follows i)) lt_is (λ chip w s k o t h. h) chip (chip_after chip (b.work_of j) received) w s o (b.work_of j) false y received t1 (missed_after g.setting.machine w s m) x.0 x.1.event x.1.done
          (subst (λ q. Makes g b lt_is chip (chip_after chip (b.work_of j) received) w s o (b.work_of j) q y received t1 (missed_after g.setting.machine w s m) x.0 x.1.event x.1.done) (law.unclean j) made)) (right.steps lt_is chip w s j o received t m come few h)

  later : (lt_is : List (ReservedBy Call g.Reservation)) (chip : Chip) (w : World) (s : State) (order : Order) (k : Sweep S B) (o : Origin Call) (t : FrameHistory) → MayCome g.setting (with_holds o t.acted (holds_at (Swept.assertion k)) lt_is) chip w s order → (is_masked chip ≡ false → is_closed (Swept.assertion k) ≡ false) → Stands lt_is chip w s k o t → place_at (Swept.assertion k) lt_is (g.foot (happened chip order)) (world_after w chip.clock.rate order) (g.later w s order) o t
  later lt_is chip w s order k o t come shut h = by k.objects k.place come shut h
    where
      by : (a : S) (p : SweepStage B) → MayCome g.setting (with_holds o t.acted (holds_at (Swept.assertion (at a p))) lt_is) chip w s order → (is_masked chip ≡ false → is_closed (Swept.assertion (at a p)) ≡ false) → Stands lt_is chip w s (at a p) o t → place_at (Swept.assertion (at a p)) lt_is (g.foot (happened chip order)) (world_after w chip.clock.rate order) (g.later w s order) o t
      by a Opens come shut h = h.1
      by a (At i) come shut h = h.1
      by a Closes come shut h = h.1
      by a (Follows j) come shut h = right.later lt_is chip w s order j o t come shut h

  calm : (lt_is : List (ReservedBy Call g.Reservation)) (chip : Chip) (w : World) (s : State) (k : Sweep S B) (o : Origin Call) (t : FrameHistory) → Stands lt_is chip w s k o t → (Swept.takes k (value_of chip (Swept.work_of k))).1.event ≡ None → (resets_chip (Swept.work_of k) ≡ false) × (begins_word (Swept.work_of k) ≡ false)
  calm lt_is chip w s k o t h e = by k.objects k.place h e
    where
      by : (a : S) (p : SweepStage B) → Stands lt_is chip w s (at a p) o t → (Swept.takes (at a p) (value_of chip (Swept.work_of (at a p)))).1.event ≡ None → (resets_chip (Swept.work_of (at a p)) ≡ false) × (begins_word (Swept.work_of (at a p)) ≡ false)
      by a Opens h e = (refl, refl)
      by a (At i) h e = law.still a i
      by a Closes h e = (refl, refl)
      by a (Follows j) h e = right.calm lt_is chip w s j o t h e

  next_fuel : (a : S) (i n : ℕ) → (i < v.count a → 2 + ((v.count a - i) + b.fuel (v.after a)) < n) → 1 + b.fuel (v.after a) < n → sweep_fuel v b a (place_of (v.count a) i) < n
  next_fuel a i n at_it closes = by (nat_lt i (v.count a)) refl
    where
      by : (q : Bool) → nat_lt i (v.count a) ≡ q → sweep_fuel v b a (if q then At i else Closes) < n
      by true e = at_it (lt_is i (v.count a) e)
      by false e = closes

  shortens : (k : Sweep S B) (x : ℕ) → Shortens Swept.fuel k (Swept.takes k x)
  shortens k x = by k.objects k.place
    where
      by : (a : S) (p : SweepStage B) → Shortens Swept.fuel (at a p) (Swept.takes (at a p) x)
      by a Opens = next_fuel a 0 _ (λ lt. omega arith) (omega arith)
      by a (At i) = next_fuel a (i + 1) _ (λ lt. omega (arith, lt)) (omega arith)
      by a Closes = omega arith
      by a (Follows j) = right.shortens j x

  pub sweep_right : AreLong g (sweep v b)
  sweep_right = record { own = own; turns = turns; steps = steps; later = later; calm = calm; shortens = shortens; cleans = λ k x. never_clean (Swept.work_of k) k (Swept.takes k x) }
