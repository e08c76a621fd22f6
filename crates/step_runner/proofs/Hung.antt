-- A step leaves as many devices as there are; where the chip had so many, it is the one whose move the step makes.
use Rattle.std.proofs.Common.{◌≡◌, ℕ, List, [], ◌∷◌, refl, sym, ◌∙◌, ap, subst}
use Rattle.std.specs.Prelude.{Result, Ok, Err, OnOk}
use Rattle.chip_model.specs.Chip.{Chip, hung}
use Rattle.irq_control.specs.declared.held.Held.{Held}
use Rattle.mcal_base.specs.declared.moves.Move.{Move}
use Rattle.mcal_base.specs.declared.routine.Taken.{Taken}
use Rattle.run_model.specs.declared.item.Stepped.{Stepped}
use Rattle.step_runner.specs.Kept.{Kept, TakesStep, hung_for, written_by}
use Rattle.step_runner.specs.declared.stack.Under.{Under}
use Rattle.chip_model.proofs.DeviceLaws.{devices-move}
use Rattle.chip_model.specs.Devices.{CallsRight}
use Rattle.serial_devices.specs.Lines.{Line}

hung-same : (n : ℕ) (chip : Chip) → n ≡ chip.devices → hung n chip ≡ chip
hung-same n chip e = subst (λ k. hung k chip ≡ chip) (sym e) refl

same-for : {Frame : Type 0} (us : List (Under Frame)) (n : ℕ) (chip : Chip) → n ≡ chip.devices → hung_for us n chip ≡ chip
same-for [] n chip e = refl
same-for (u ∷ us) n chip e = hung-same n chip e

-- the same of what becomes of the devices
pub calls-same : (n : ℕ) (chip : Chip) (s : Stepped) (old new : List Line) → n ≡ chip.devices → CallsRight (hung n chip) s.made s.received old new → CallsRight chip s.made s.received old new
calls-same n chip s old new e calls = subst (λ c. CallsRight c s.made s.received old new) (hung-same n chip e) calls

module _ {Frame : Type 0} (move_of : Frame → Move) (left : Frame → ℕ → Frame) (gave : Frame → ℕ → Taken) where
  pub devices-taken : {A : Type 0} (us : List (Under Frame)) (steps n m : ℕ) (chip : Chip) (k1 : Kept Frame) (chip1 : Chip) (result : Result A Held) (s : Stepped) → n ≡ m → TakesStep move_of left gave us steps (hung_for us m chip) k1 chip1 (written_by result s) → OnOk result (chip1.devices ≡ n)
  devices-taken us steps n m chip k1 chip1 (Err cause) s e t = tt
  devices-taken [] steps n m chip k1 chip1 (Ok a) s e t = let none = t.result_is in absurd (cc none)
  devices-taken (u ∷ us) steps n m chip k1 chip1 (Ok a) s e t = ap (λ (c : Chip). c.devices) t.chip_is ∙ devices-move (hung m chip) (move_of u.frame) t.received ∙ sym e

  pub takes-same : (us : List (Under Frame)) (steps n : ℕ) (chip : Chip) (k1 : Kept Frame) (chip1 : Chip) (r : Result Stepped Held) → n ≡ chip.devices → TakesStep move_of left gave us steps (hung_for us n chip) k1 chip1 r → TakesStep move_of left gave us steps chip k1 chip1 r
  takes-same us steps n chip k1 chip1 r e t = subst (λ c. TakesStep move_of left gave us steps c k1 chip1 r) (same-for us n chip e) t
