-- The bounds of a frame's steps and of its windows are kept.
use Rattle.std.proofs.Common.{◌≡◌, ℕ, ◌+◌, ◌<◌, ◌≤◌, Bool, true, false, cond, Option, Some, None, refl, arith}
use Rattle.mcal_base.specs.declared.answer.Answer.{Answer}
use Rattle.mcal_base.specs.declared.moves.DevError.{DevError}
use Rattle.mcal_base.specs.declared.moves.Move.{Move}
use Rattle.mcal_base.specs.declared.moves.Move.TheVariants.{Read, Write, Load, Store, Mask, Unmask, Note, Report}
use Rattle.std.specs.Prelude.{List}
use Rattle.run_model.specs.Frame.{Owing, inside_after, window_after}
use Rattle.run_model.specs.Legal.{MoveRight}
use Rattle.step_runner.specs.Driver.{FuelRight, RoomRight}

-- a step more is within the bound
pub steps_bound : (n before later bound : ℕ) (ended : Option Answer) → FuelRight before later ended → n + before ≤ bound → n + 1 ≤ bound
steps_bound n before later bound None f h = omega arith
steps_bound n before later bound (Some a) f h = omega arith

in_window : (inside : Bool) (n before later bound : ℕ) → n ≤ bound → (inside ≡ true → n + before ≤ bound) → (inside ≡ true → later < before) → cond inside (n + 1) n ≤ bound
in_window true n before later bound w h k = let h1 = h refl in let k1 = k refl in omega arith
in_window false n before later bound w h k = w

in_room : (inside : Bool) (n before later bound : ℕ) → (inside ≡ true → n + before ≤ bound) → (inside ≡ true → later < before) → inside ≡ true → cond inside (n + 1) n + later ≤ bound
in_room true n before later bound h k e = let h1 = h refl in let k1 = k refl in omega arith
in_room false n before later bound h k e = cc

-- a window has no more moves than its bound
pub window_bound : (made : Move) (inside : Bool) (owed : List Owing) (report : Option DevError) (n before later bound : ℕ) → MoveRight inside owed report made → RoomRight bound inside before later made → n ≤ bound → (inside ≡ true → n + before ≤ bound) → window_after inside n made ≤ bound
window_bound Mask inside owed report n before later bound m r w h = omega arith
window_bound Unmask inside owed report n before later bound m r w h = let h1 = h m in omega arith
window_bound (Read x) inside owed report n before later bound m r w h = in_window inside n before later bound w h r
window_bound (Write x v) inside owed report n before later bound m r w h = in_window inside n before later bound w h r
window_bound (Load k) inside owed report n before later bound m r w h = in_window inside n before later bound w h r
window_bound (Store k v) inside owed report n before later bound m r w h = in_window inside n before later bound w h r
window_bound (Note k) inside owed report n before later bound m r w h = in_window inside n before later bound w h r
window_bound (Report e) inside owed report n before later bound m r w h = in_window inside n before later bound w h r

-- and what it has left is within it too
pub room_bound : (made : Move) (inside : Bool) (n before later bound : ℕ) → RoomRight bound inside before later made → (inside ≡ true → n + before ≤ bound) → inside_after inside made ≡ true → window_after inside n made + later ≤ bound
room_bound Mask inside n before later bound r h e = r
room_bound Unmask inside n before later bound r h e = cc
room_bound (Read x) inside n before later bound r h e = in_room inside n before later bound h r e
room_bound (Write x v) inside n before later bound r h e = in_room inside n before later bound h r e
room_bound (Load k) inside n before later bound r h e = in_room inside n before later bound h r e
room_bound (Store k v) inside n before later bound r h e = in_room inside n before later bound h r e
room_bound (Note k) inside n before later bound r h e = in_room inside n before later bound h r e
room_bound (Report e) inside n before later bound r h e1 = in_room inside n before later bound h r e1
