-- What runs are over, whatever names the calls have.
use Rattle.std.specs.Prelude.{◌≡◌, ℕ, List, map}
use Rattle.chip_model.specs.Chip.{Chip}
use Rattle.mcal_base.specs.declared.directive.Request.{Request}
use Rattle.mcal_base.specs.declared.moves.Move.{Move}
use Rattle.mcal_base.specs.declared.notice.Notice.{Notice}
use Rattle.run_model.specs.Frame.{Origin, Called, Entered}
use Rattle.run_model.specs.Moment.{Setting}
use Rattle.run_model.specs.World.{World}
use Rattle.audit_subject.specs.Product.{member_of}
use Rattle.report_modules.specs.machines.Same.{IsSame}

-- Calls, a setting of them, and the call that a request asks for.
pub record Bench (State : Type 0) : Type 1 where
  pub Call : Type 0
  pub setting : Setting State Call
  pub call_of : Request → Call

abbrev pub bench : {State : Type 0} → (Call : Type 0) → Setting State Call → (Request → Call) → Bench State
bench Call setting call_of = record { Call = Call; setting = setting; call_of = call_of }

-- a frame's origin with its call named otherwise
abbrev pub as_origin : {C D : Type 0} → (C → D) → Origin C → Origin D
as_origin names (Called c) = Called (names c)
as_origin names (Entered l) = Entered l

-- The one setting is the other, with these names of its calls.
pub record IsOne {S C D : Type 0} (names : C → D) (g : Setting S C) (h : Setting S D) : Type 1 where
  pub machine : IsSame names (member_of g) h.machine h.used
  pub first : g.first ≡ h.first
  pub class : (c : C) → g.class_of c ≡ h.class_of (names c)
  pub level : (l : ℕ) → g.level_of l ≡ h.level_of l
  pub owner : (l : ℕ) → g.owner_of l ≡ h.owner_of l
  pub steps : (o : Origin C) → g.steps_of o ≡ h.steps_of (as_origin names o)
  pub window : (o : Origin C) → g.window_of o ≡ h.window_of (as_origin names o)
  pub may : (o : Origin C) (made : Move) → g.may o made ≡ h.may (as_origin names o) made
  pub halves : (c : C) → g.halves c ≡ h.halves (names c)
  pub must : (c : C) → g.must c ≡ h.must (names c)
  pub fills : (c : ℕ) → g.fills c ≡ h.fills c
  pub in_use : (w : World) (s : S) (c : ℕ) → g.in_use w s c ≡ h.in_use w s c
  pub rest : (chip : Chip) (w : World) (s : S) → g.rest chip w s ≡ h.rest chip w s
  pub unmasked : (chip : Chip) (w : World) (s : S) (os : List (Origin C)) → g.unmasked chip w s os ≡ h.unmasked chip w s (map (as_origin names) os)
  pub shows : (o : Origin C) (n : Notice) (chip : Chip) (s : S) → g.shows o n chip s ≡ h.shows (as_origin names o) n chip s
