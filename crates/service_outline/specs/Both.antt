-- Bodies of either of two kinds, short ones over one ground and long ones over one basis.
use Rattle.std.specs.Prelude.{Option}
use Rattle.run_model.specs.World.{World}
use Rattle.run_model.specs.Machine.{Told}
use Rattle.run_model.specs.Frame.{Origin}
use Rattle.service_outline.specs.declared.body.Or.{Or}
use Rattle.service_outline.specs.declared.body.Or.TheVariants.{First, Second}
use Rattle.service_outline.specs.Either.{either_of, either_work, either_takes}
use Rattle.service_outline.specs.Outline.{Refinement, Bodies}
use Rattle.service_outline.specs.Services.{SharedRefinement, PointAssertion, LongBodies}

abbrev pub either_place : {A B State Call F : Type 0} → (F → World → State → A → Origin Call → Option Told → Type 0) → (F → World → State → B → Origin Call → Option Told → Type 0) → F → World → State → Or A B → Origin Call → Option Told → Type 0
either_place f g b w s (First k) o t = f b w s k o t
either_place f g b w s (Second k) o t = g b w s k o t

abbrev pub either : {State Call A B : Type 0} {g : Refinement State Call} → Bodies g A → Bodies g B → Bodies g (Or A B)
either v u = record {
  work_of = either_work v.work_of u.work_of;
  takes = either_takes v.takes u.takes;
  fuel = either_of v.fuel u.fuel;
  gap_of = either_of v.gap_of u.gap_of;
  clean = either_of v.clean u.clean;
  place = either_place v.place u.place;
}

abbrev pub both_spot : {State Call A B : Type 0} {g : SharedRefinement State Call} → (A → PointAssertion g) → (B → PointAssertion g) → Or A B → PointAssertion g
both_spot f h (First k) = f k
both_spot f h (Second k) = h k

abbrev pub both : {State Call A B : Type 0} {g : SharedRefinement State Call} → LongBodies g A → LongBodies g B → LongBodies g (Or A B)
both v u = record {
  work_of = either_work v.work_of u.work_of;
  takes = either_takes v.takes u.takes;
  fuel = either_of v.fuel u.fuel;
  room = either_of v.room u.room;
  clean = either_of v.clean u.clean;
  assertion = both_spot v.assertion u.assertion;
}
