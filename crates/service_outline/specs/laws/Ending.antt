-- A body whose step ends no frame goes on as ever.
-- Used by driver_examples: held.ToyLaws, Owing.
use Rattle.std.proofs.Common.{◌≡◌, ℕ, Bool, List, Option, None, sym, subst}
use Rattle.chip_model.specs.Chip.{Chip}
use Rattle.mcal_base.specs.declared.answer.Answer.{Answer}
use Rattle.run_model.specs.World.{World}
use Rattle.run_model.specs.Frame.{Origin}
use Rattle.service_outline.specs.FrameHistory.{FrameHistory}
use Rattle.service_outline.specs.Services.{ReservedBy, SharedRefinement, LongBodies, Right, RightOr}

pub goes_right : {State Call Body : Type 0} (g : SharedRefinement State Call) (b : LongBodies g Body) (below : List (ReservedBy Call g.Reservation)) (chip : Chip) (w : World) (s : State) (k : Body) (o : Origin Call) (received : ℕ) (t : FrameHistory) (m : ℕ → Bool) (a : Option Answer) → a ≡ None → Right g b below chip w s k o received t m → RightOr g b below chip w s k o received t m a
goes_right g b below chip w s k o received t m a e h = subst (λ q. RightOr g b below chip w s k o received t m q) (sym e) h
