-- Short bodies of either of two kinds owe no more.
-- Used by gpt_driver: Lawful.
use Rattle.std.specs.Prelude.{◌≡◌, ℕ, Bool, true, Option, Some, None}
use Rattle.chip_model.specs.Chip.{Chip, value_of, chip_after, happened}
use Rattle.mcal_base.specs.declared.directive.Order.{Order}
use Rattle.mcal_base.specs.declared.moves.Event.{Event}
use Rattle.mcal_base.specs.declared.moves.Move.{Move}
use Rattle.run_model.specs.World.{World, world_after}
use Rattle.run_model.specs.Machine.{Told}
use Rattle.run_model.specs.Frame.{Origin, Called, Entered, missed_after}
use Rattle.service_outline.specs.declared.done.Done.{Done}
use Rattle.service_outline.specs.declared.body.Or.{Or}
use Rattle.service_outline.specs.declared.body.Or.TheVariants.{First, Second}
use Rattle.service_outline.specs.Both.{either}
use Rattle.service_outline.specs.Acts.{Cleans}
use Rattle.service_outline.specs.Fuel.{Shortens}
use Rattle.service_outline.specs.Outline.{Refinement, Bodies, At, AreRight, GoesOn, StepsRight, RightAt, Comes}

module _ {State Call A B : Type 0} (g : Refinement State Call) (v : Bodies g A) (u : Bodies g B) (lift : A → B)
    (at : (chip : Chip) (w : World) (s : State) (k : A) (o : Origin Call) (t : Option Told) → At g v chip w s k o t → At g u chip w s (lift k) o t) where
  goes_lift : (chip : Chip) (w : World) (s : State) (o : Origin Call) (t : Option Told) (m : ℕ → Bool) (k : A) (n : Option Done) → GoesOn g v chip w s o t m k n → GoesOn g u chip w s o t m (lift k) n
  goes_lift chip w s o t m k None h = at chip w s k o t h
  goes_lift chip w s o (Some t) m k (Some n) h = h
  goes_lift chip w s (Called c) None m k (Some n) h = h
  goes_lift chip w s (Entered l) None m k (Some n) h = h

  pub steps_lift : (chip : Chip) (w : World) (s : State) (o : Origin Call) (made : Move) (p : Bool) (t : Option Told) (m : ℕ → Bool) (k : A) (e : Option Event) (n : Option Done) → StepsRight g v chip w s o made p t m k e n → StepsRight g u chip w s o made p t m (lift k) e n
  steps_lift chip w s o made p t m k None n h = goes_lift chip w s o t m k n h
  steps_lift chip w s o made p None m k (Some e) n h = record { own = h.own; state = h.state; told = h.told; is = h.is; acts = h.acts; next = goes_lift chip w h.state o (Some h.told) m k n h.next }
  steps_lift chip w s o made p (Some t) m k (Some e) n h = h

module _ {State Call A B : Type 0} (g : Refinement State Call) (v : Bodies g A) (u : Bodies g B) (p : AreRight g v) (q : AreRight g u) where
  own : (chip : Chip) (w : World) (s : State) (k : Or A B) (o : Origin Call) (t : Option Told) → At g (either v u) chip w s k o t → g.setting.may o ((either v u).work_of k) ≡ true
  own chip w s (First k) o t h = p.own chip w s k o t h
  own chip w s (Second k) o t h = q.own chip w s k o t h

  steps : (chip : Chip) (w : World) (s : State) (k : Or A B) (o : Origin Call) (t : Option Told) (m : ℕ → Bool) → At g (either v u) chip w s k o t → RightAt g (either v u) chip w s k o t m
  steps chip w s (First k) o t m h =
      let x = v.takes k (value_of chip (v.work_of k)) in
      steps_lift g v (either v u) (λ i. First i) (λ chip w s k o t h. h) (chip_after chip (v.work_of k) 0) w s o (v.work_of k) (v.clean k) t (missed_after g.setting.machine w s m) x.0 x.1.event x.1.done (p.steps chip w s k o t m h)
  steps chip w s (Second k) o t m h =
      let x = u.takes k (value_of chip (u.work_of k)) in
      steps_lift g u (either v u) (λ i. Second i) (λ chip w s k o t h. h) (chip_after chip (u.work_of k) 0) w s o (u.work_of k) (u.clean k) t (missed_after g.setting.machine w s m) x.0 x.1.event x.1.done (q.steps chip w s k o t m h)

  later : (chip : Chip) (w : World) (s : State) (order : Order) (k : Or A B) (o : Origin Call) (t : Option Told) → Comes g.setting chip w s order → At g (either v u) chip w s k o t → (either v u).place (g.foot (happened chip order)) (world_after w chip.clock.rate order) (g.later w s order) k o t
  later chip w s order (First k) o t free h = p.later chip w s order k o t free h
  later chip w s order (Second k) o t free h = q.later chip w s order k o t free h

  shortens : (k : Or A B) (x : ℕ) → Shortens (either v u).fuel k ((either v u).takes k x)
  shortens (First k) x = p.shortens k x
  shortens (Second k) x = q.shortens k x

  cleans : (k : Or A B) (x : ℕ) → Cleans (either v u).clean ((either v u).work_of k) k ((either v u).takes k x)
  cleans (First k) x = p.cleans k x
  cleans (Second k) x = q.cleans k x

  pub either_right : AreRight g (either v u)
  either_right = record { own = own; steps = steps; later = later; shortens = shortens; cleans = cleans }
