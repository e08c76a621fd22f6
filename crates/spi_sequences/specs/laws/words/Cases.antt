-- A proof by cases, told where it is needed: of one of two facts, of a test, and of a value that may be there.
-- Used by bookkeeping.MarkedState, bookkeeping.NextChosen, bookkeeping.SequenceEnded, services.ModuleRight and 54 more.
use Rattle.std.proofs.Common.{◌≡◌, ◌⊎◌}
use Rattle.std.proofs.Common.{Bool, false, inl, inr, None, Option, refl, Some, true}

pub cases : {A B C : Type 0} → A ⊎ B → (A → C) → (B → C) → C
cases (inl a) one other = one a
cases (inr b) one other = other b

pub whether : {C : Type 0} (b : Bool) → (b ≡ true → C) → (b ≡ false → C) → C
whether true on off = on refl
whether false on off = off refl

-- what is shown speaks of the test
pub whether_as : (b : Bool) (P : Bool → Type 0) → (b ≡ true → P true) → (b ≡ false → P false) → P b
whether_as true P on off = on refl
whether_as false P on off = off refl

pub some_or_none : {A C : Type 0} (o : Option A) → ((a : A) → o ≡ Some a → C) → (o ≡ None → C) → C
some_or_none (Some a) there none = there a refl
some_or_none None there none = none refl

-- what is shown speaks of the value
pub option_as : {A : Type 0} (o : Option A) (P : Option A → Type 0) → (o ≡ None → P None) → ((a : A) → o ≡ Some a → P (Some a)) → P o
option_as None P none there = none refl
option_as (Some a) P none there = there a refl
