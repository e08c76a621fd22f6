-- What deeds make of the devices, one list of deeds after another, and how many devices they leave.
use Rattle.std.proofs.Common.{◌≡◌, ℕ, zero, suc, ◌+◌, ◌-◌, ◌≤◌, List, [], ◌∷◌, ◌++◌, length, take, Bool, true, false, refl, ◌∙◌, ap, subst, arith, length-set}
use Rattle.std.proofs.lemmas.List.Sums.{sum_by-append}
use Rattle.std.specs.List.{AllByRecursion}
use Rattle.chip_model.specs.Chip.{Chip, has_device}
use Rattle.chip_model.specs.Devices.{CallsRight}
use Rattle.mcal_base.specs.declared.directive.Order.{Order}
use Rattle.mcal_base.specs.declared.directive.Order.TheVariants as orders
use Rattle.mcal_base.specs.declared.moves.Move.{Move}
use Rattle.mcal_base.specs.declared.moves.Move.TheVariants.{Write}
use Rattle.mcal_base.specs.declared.register.Reg.{Reg}
use Rattle.mcal_base.specs.declared.register.Reg.TheVariants.{SerialData}
use Rattle.serial_devices.specs.Lines.{Line}
use Rattle.run_model.specs.Devices.{LeavesAll, DeedCalls, AllCalls, IsStill, drops_by, drops_in}
use Rattle.run_model.specs.Moment.{Setting, Moment, Transition, Begins, Enters, Steps, Happens, Resets, after, after_all}

-- first these deeds, then those
pub calls-append : {State Call : Type 0} (g : Setting State Call) (m : Moment State Call) (h xs : List (Transition Call)) (old between new : List Line) → AllCalls g m h old between → AllCalls g (after_all g m h) xs between new → AllCalls g m (h ++ xs) old new
calls-append g m [] xs old between new first then = subst (λ b. AllCalls g m xs b new) first then
calls-append g m (y ∷ h) xs old between new first then = (first.0, first.1, calls-append g (after g m y) h xs first.0 between new first.2 then)

-- one deed more
pub calls-more : {State Call : Type 0} (g : Setting State Call) (m : Moment State Call) (h : List (Transition Call)) (x : Transition Call) (old between new : List Line) → AllCalls g m h old between → DeedCalls (after_all g m h).chip x between new → AllCalls g m (h ++ x ∷ []) old new
calls-more g m h x old between new first then = calls-append g m h (x ∷ []) old between new first (new, then, refl)

still-deed : {Call : Type 0} (chip : Chip) (x : Transition Call) (lines : List Line) → IsStill x → DeedCalls chip x lines lines
still-deed chip (Steps s) lines h = absurd h
still-deed chip (Begins c level) lines h = refl
still-deed chip (Enters l) lines h = refl
still-deed chip (Happens orders.Detach) lines h = absurd h
still-deed chip (Happens order) lines h = refl
still-deed chip (Resets reason) lines h = refl

-- deeds without a step that drop no device leave all as they were
pub calls-still : {State Call : Type 0} (g : Setting State Call) (m : Moment State Call) (xs : List (Transition Call)) (lines : List Line) → AllByRecursion IsStill xs → AllCalls g m xs lines lines
calls-still g m [] lines h = refl
calls-still g m (x ∷ xs) lines h = (lines, still-deed m.chip x lines h.0, calls-still g (after g m x) xs lines h.1)

-- ---- how many devices there are

same_count : (old new : List Line) → new ≡ old → length new ≡ length old - 0
same_count old new h = let e = ap (λ (ls : List Line). length ls) h in omega (arith, e)

length-fewer : (n : ℕ) (xs : List Line) → n ≤ length xs → length (take n xs) ≡ n
length-fewer zero xs le = refl
length-fewer (suc n) [] le = absurd (omega (arith, le))
length-fewer (suc n) (x ∷ xs) le = ap suc (length-fewer n xs (omega (arith, le)))

word_count : (chip : Chip) (u v received : ℕ) (old new : List Line) (device : Bool) → has_device chip u ≡ device → CallsRight chip (Write (SerialData u) v) received old new → length new ≡ length old
word_count chip u v received old new true e h =
    let called = rw e at h in
    ap (λ (ls : List Line). length ls) called.rest ∙ length-set old _ called.now
word_count chip u v received old new false e h = ap (λ (ls : List Line). length ls) (rw e at h)

write_count : (chip : Chip) (r : Reg) (v received : ℕ) (old new : List Line) → CallsRight chip (Write r v) received old new → length new ≡ length old
write_count chip (SerialData u) v received old new h = word_count chip u v received old new (has_device chip u) refl h
write_count chip r v received old new h = ap (λ (ls : List Line). length ls) h

-- a move leaves as many devices
pub move_count : (chip : Chip) (made : Move) (received : ℕ) (old new : List Line) → CallsRight chip made received old new → length new ≡ length old
move_count chip (Write r v) received old new h = write_count chip r v received old new h
move_count chip made received old new h = ap (λ (ls : List Line). length ls) h

hardware_count : (Call : Type 0) (order : Order) (old new : List Line) → LeavesAll order old new → length new ≡ length old - drops_by {Call = Call} (Happens order)
hardware_count Call orders.Detach old new h = ap (λ (ls : List Line). length ls) h ∙ length-fewer (length old - 1) old (omega arith)
hardware_count Call order old new h = same_count old new h

deed_count : {Call : Type 0} (chip : Chip) (x : Transition Call) (old new : List Line) → DeedCalls chip x old new → length new ≡ length old - drops_by x
deed_count chip (Steps s) old new h = let e = move_count chip s.made s.received old new h in omega (arith, e)
deed_count chip (Begins c level) old new h = same_count old new h
deed_count chip (Enters l) old new h = same_count old new h
deed_count {Call = Call} chip (Happens order) old new h = hardware_count Call order old new h
deed_count chip (Resets reason) old new h = same_count old new h

-- there are as many as weren't dropped
pub calls-count : {State Call : Type 0} (g : Setting State Call) (m : Moment State Call) (xs : List (Transition Call)) (old new : List Line) → AllCalls g m xs old new → length new ≡ length old - drops_in xs
calls-count g m [] old new h = same_count old new h
calls-count g m (x ∷ xs) old new h =
    let first = deed_count m.chip x old h.0 h.1 in
    let rest = calls-count g (after g m x) xs h.0 new h.2 in
    let sum = sum_by-append drops_by (x ∷ []) xs in
    omega (arith, first, rest, sum)
