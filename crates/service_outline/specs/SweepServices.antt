-- A sweep among services: what it holds after so many objects, and what it owes.
use Rattle.std.specs.Prelude.{◌≡◌, ℕ, ◌+◌, ◌-◌, ◌<◌, ◌≤◌, true, false, List}
use Rattle.chip_model.specs.Chip.{Chip, chip_after}
use Rattle.mcal_base.specs.declared.moves.Move.{Move}
use Rattle.run_model.specs.World.{World}
use Rattle.run_model.specs.Frame.{Origin, resets_chip, begins_word}
use Rattle.service_outline.specs.FrameHistory.{FrameHistory, past_wrote}
use Rattle.service_outline.specs.Services.{ReservedBy, SharedRefinement, PointAssertion, Within, Outside, LongBodies, AssertedAt, is_closed, with_holds}
use Rattle.service_outline.specs.Sweep.{sweep_work, sweep_takes}
use Rattle.service_outline.specs.declared.sweep.SweepStage.{SweepStage}
use Rattle.service_outline.specs.declared.sweep.SweepStage.TheVariants.{Opens, At, Closes, Follows}
use Rattle.service_outline.specs.declared.sweep.Sweep.{Sweep}

-- the objects, their moves, and what follows; what the frame holds after so many, and what holds of it all along
pub record Sweeping {State Call : Type 0} (g : SharedRefinement State Call) (S B : Type 0) : Type 1 where
  pub count : S → ℕ
  pub move : S → ℕ → Move
  pub after : S → B
  pub hold : S → ℕ → List g.Reservation
  pub place : S → List (ReservedBy Call g.Reservation) → Origin Call → FrameHistory → Type 0

-- the steps that it has left
abbrev pub sweep_fuel : {State Call S B : Type 0} {g : SharedRefinement State Call} → Sweeping g S B → LongBodies g B → S → SweepStage B → ℕ
sweep_fuel v b a Opens = 3 + (v.count a + b.fuel (v.after a))
sweep_fuel v b a (At i) = 2 + ((v.count a - i) + b.fuel (v.after a))
sweep_fuel v b a Closes = 1 + b.fuel (v.after a)
sweep_fuel v b a (Follows k) = b.fuel k

abbrev pub sweep_room : {State Call B : Type 0} {g : SharedRefinement State Call} → LongBodies g B → SweepStage B → ℕ
sweep_room b Opens = 0
sweep_room b (At i) = 0
sweep_room b Closes = 0
sweep_room b (Follows k) = b.room k

-- after so many objects it holds that they are done
abbrev pub sweep_spot : {State Call S B : Type 0} {g : SharedRefinement State Call} → Sweeping g S B → LongBodies g B → S → SweepStage B → PointAssertion g
sweep_spot {g = g} v b a Opens = Within g.settled (v.hold a 0) (λ below f w s origin past. v.place a below origin past)
sweep_spot v b a (At i) = Outside (v.hold a i) (λ below origin past. v.place a below origin past × (i < v.count a))
sweep_spot v b a Closes = Outside (v.hold a (v.count a)) (λ below origin past. v.place a below origin past)
sweep_spot v b a (Follows k) = b.assertion k

-- a sweep, as bodies of services
abbrev pub sweep : {State Call S B : Type 0} {g : SharedRefinement State Call} → Sweeping g S B → LongBodies g B → LongBodies g (Sweep S B)
sweep v b = record {
  work_of = sweep_work v.move b.work_of;
  takes = sweep_takes v.count v.after b.takes;
  fuel = λ p. sweep_fuel v b p.objects p.place;
  room = λ p. sweep_room b p.place;
  clean = λ p. false;
  assertion = λ p. sweep_spot v b p.objects p.place;
}

-- what it owes
pub record IsSweeping {State Call S B : Type 0} (g : SharedRefinement State Call) (v : Sweeping g S B) (b : LongBodies g B) : Type 0 where
  -- a move of an object is one that the frame may make, resets nothing, begins no serial word, and makes what is held of one object more
  pub own : (a : S) (i : ℕ) (below : List (ReservedBy Call g.Reservation)) (origin : Origin Call) (past : FrameHistory) → i < v.count a → v.place a below origin past → g.setting.may origin (v.move a i) ≡ true
  pub still : (a : S) (i : ℕ) → (resets_chip (v.move a i) ≡ false) × (begins_word (v.move a i) ≡ false)
  pub step : (a : S) (i : ℕ) (below : List (ReservedBy Call g.Reservation)) (chip : Chip) (w : World) (s : State) (origin : Origin Call) (past : FrameHistory) → i < v.count a → v.place a below origin past → g.represents (with_holds origin past.acted (v.hold a i) below) g.settled chip w s → g.represents (with_holds origin past.acted (v.hold a (i + 1)) below) g.settled (chip_after chip (v.move a i) 0) w s
  pub stays : (a : S) (i : ℕ) (below : List (ReservedBy Call g.Reservation)) (w : World) (origin : Origin Call) (past : FrameHistory) → v.place a below origin past → v.place a below origin (past_wrote w (v.move a i) past)
  -- with all of them held it may go on with what follows, in a window
  pub follows : (a : S) (below : List (ReservedBy Call g.Reservation)) (chip : Chip) (w : World) (s : State) (origin : Origin Call) (past : FrameHistory) → v.place a below origin past → g.represents (with_holds origin past.acted (v.hold a (v.count a)) below) g.settled chip w s → AssertedAt g b below chip w s (v.after a) origin past
  pub closed : (a : S) → is_closed (b.assertion (v.after a)) ≡ true
  pub room : (a : S) (below : List (ReservedBy Call g.Reservation)) (origin : Origin Call) (past : FrameHistory) → v.place a below origin past → 2 + b.room (v.after a) ≤ g.setting.window_of origin
  -- where what follows finds no error
  pub unclean : (k : B) → b.clean k ≡ false
