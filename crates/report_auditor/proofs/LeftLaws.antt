-- The time that is left until the watchdog's ends: whether it has ended, and which deeds are in time.
use Rattle.std.proofs.Common.{◌≡◌, ◌⊎◌, inl, inr, ℕ, ◌<◌, ◌≤◌, Bool, true, false, not, ◌&&◌, nat_eq, nat_le, nat_lt, Option, Some, None, refl, ap, subst, arith}
use Rattle.std.specs.Option.{option_eq}
use Rattle.mcal_base.specs.declared.directive.Order.{Order}
use Rattle.mcal_base.specs.declared.directive.Order.TheVariants.{Tick}
use Rattle.mcal_base.specs.declared.directive.Reason.{Reason}
use Rattle.mcal_base.specs.declared.directive.Reason.TheVariants.{PowerOn, Software, Watchdog}
use Rattle.mcal_base.specs.facts.Truths.{off_on}
use Rattle.run_model.specs.Frame.{Origin, Called, Entered}
use Rattle.run_model.specs.Legal.{InTime}
use Rattle.run_model.specs.Moment.{Happens, Resets}
use Rattle.audit_frames.specs.Decides.{Decides}
use Rattle.audit_frames.proofs.Deciding.{at_most, both, equal, less, no, valued, worded, yes}
use Rattle.report_auditor.specs.Deeds.{beginning, ticks_by}

-- ---- what is left

some_same : (n m : ℕ) → Some n ≡ Some m → n ≡ m
some_same n m e = cc

pub same_decides : (x y : Option ℕ) → Decides (option_eq nat_eq x y) (x ≡ y)
same_decides None None = yes refl
same_decides None (Some n) = no (λ e. absurd (cc))
same_decides (Some n) None = no (λ e. absurd (cc))
same_decides (Some n) (Some m) = worded (λ e. ap (λ (k : ℕ). Some k) e) (λ e. some_same n m e) (equal n m)

-- it has ended
pub ended : (b : Bool) (x y : Option ℕ) → b ≡ option_eq nat_eq x (Some 0) → x ≡ y → Decides b (y ≡ Some 0)
ended b x y e is = subst (λ z. Decides b (z ≡ Some 0)) is (valued e (same_decides x (Some 0)))

none_or_some : (n : ℕ) → (n ≡ 0) ⊎ (0 < n)
none_or_some n = grind arith

positive : (n : ℕ) → (Some n ≡ Some 0 → ⊥) → 0 < n
positive n h = elim (none_or_some n) [
  | inl none ↦ absurd (h (ap (λ (k : ℕ). Some k) none))
  | inr some ↦ some
]

never_zero : (n : ℕ) → 0 < n → Some n ≡ Some 0 → ⊥
never_zero n lt e = let none : n ≡ 0 = some_same n 0 e in omega (arith, none, lt)

-- ---- a beginning is in time, exactly where it hasn't ended

pub begins_in_time : {Call : Type 0} (x : Origin Call) (level : ℕ) (left : Option ℕ) → (left ≡ Some 0 → ⊥) → InTime left (beginning x level)
begins_in_time (Called c) level None h = tt
begins_in_time (Entered l) level None h = tt
begins_in_time (Called c) level (Some n) h = positive n h
begins_in_time (Entered l) level (Some n) h = positive n h

pub begins_before : {Call : Type 0} (x : Origin Call) (level : ℕ) (left : Option ℕ) → InTime left (beginning x level) → left ≡ Some 0 → ⊥
begins_before (Called c) level None h e = absurd (cc)
begins_before (Entered l) level None h e = absurd (cc)
begins_before (Called c) level (Some n) h e = never_zero n h e
begins_before (Entered l) level (Some n) h e = never_zero n h e

-- ---- what the hardware does is in time while it runs, with no tick behind its end

by_ticks : (Call : Type 0) (b : Bool) (order : Order) (left : ℕ) → Decides b ((0 < left) × (ticks_by order ≤ left)) → Decides b (InTime {Call = Call} (Some left) (Happens order))
by_ticks Call b (Tick n) left d = d
by_ticks Call b _ left d = worded (λ h. h.0) (λ h. (h, omega arith)) d

pub happens_in_time : (Call : Type 0) (b : Bool) (order : Order) (left : ℕ) → b ≡ (nat_lt 0 left && nat_le (ticks_by order) left) → Decides b (InTime {Call = Call} (Some left) (Happens order))
happens_in_time Call b order left e = by_ticks Call b order left (valued e (both (less 0 left) (at_most (ticks_by order) left)))

-- ---- the watchdog's reset always is, and another one where it hasn't ended

pub watchdog_in_time : (Call : Type 0) (left : Option ℕ) → InTime {Call = Call} left (Resets Watchdog)
watchdog_in_time Call None = tt
watchdog_in_time Call (Some n) = tt

other_in_time : (Call : Type 0) (reason : Reason) (left : Option ℕ) → (reason ≡ Watchdog → ⊥) → (left ≡ Some 0 → ⊥) → InTime {Call = Call} left (Resets reason)
other_in_time Call Watchdog left other h = absurd (other refl)
other_in_time Call PowerOn None other h = tt
other_in_time Call Software None other h = tt
other_in_time Call PowerOn (Some n) other h = positive n h
other_in_time Call Software (Some n) other h = positive n h

other_before : (Call : Type 0) (reason : Reason) (left : Option ℕ) → (reason ≡ Watchdog → ⊥) → InTime {Call = Call} left (Resets reason) → left ≡ Some 0 → ⊥
other_before Call Watchdog left other h e = other refl
other_before Call PowerOn None other h e = absurd (cc)
other_before Call Software None other h e = absurd (cc)
other_before Call PowerOn (Some n) other h e = never_zero n h e
other_before Call Software (Some n) other h e = never_zero n h e

pub reset_in_time : (Call : Type 0) (b : Bool) (reason : Reason) (left : Option ℕ) → (reason ≡ Watchdog → ⊥) → Decides b (left ≡ Some 0) → Decides (not b) (InTime {Call = Call} left (Resets reason))
reset_in_time Call true reason left other d = no (λ h. other_before Call reason left other h (d.says refl))
reset_in_time Call false reason left other d = yes (other_in_time Call reason left other (λ e. off_on (d.shows e)))
