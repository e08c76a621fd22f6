-- What an answer says of the conditions, for any row.
use Rattle.std.proofs.Common.{◌≡◌, ℕ, zero, suc, ◌+◌, ◌<◌, Bool, true, false, cond, List, [], ◌∷◌, length, take, drop, slice_set, slice_index_or, Option, Some, None, refl, sym, ◌∙◌, arith}
use Rattle.std.specs.Prelude.{slice_get}
use Rattle.std.specs.Option.{option_or}
use Rattle.mcal_base.specs.declared.error_name.ErrorName.{ErrorName}
use Rattle.mcal_base.specs.det_errors.Rows.{first_that_holds}
use Rattle.mcal_base.specs.det_errors.First.{IsFirst, AgreeTo}

-- where no error is named, no condition of the row holds
pub none_holds : (row : List ErrorName) (holds : List Bool) → first_that_holds row holds ≡ None → (k : ℕ) → k < length row → slice_index_or holds k false ≡ false
none_holds [] holds h k lt = absurd (omega arith)
none_holds (e ∷ es) [] h k lt = refl
none_holds (e ∷ es) (true ∷ hs) h k lt = absurd (cc h)
none_holds (e ∷ es) (false ∷ hs) h zero lt = refl
none_holds (e ∷ es) (false ∷ hs) h (suc k) lt = none_holds es hs h k (omega arith)

-- where an error is named, it is the first whose condition holds
further : (row : List ErrorName) (holds : List Bool) (e d : ErrorName) → (k : ℕ) × IsFirst row holds k e → (k : ℕ) × IsFirst (d ∷ row) (false ∷ holds) k e
further row holds e d (k, f) = (suc k, record { stands = f.stands; condition = f.condition; before = before }) where
  before : (j : ℕ) → j < suc k → slice_get (false ∷ holds) j ≡ Some false
  before zero lt = refl
  before (suc j) lt = f.before j (omega arith)

pub named_first : (row : List ErrorName) (holds : List Bool) (e : ErrorName) → first_that_holds row holds ≡ Some e → (k : ℕ) × IsFirst row holds k e
named_first [] holds e h = absurd (cc h)
named_first (d ∷ row) [] e h = absurd (cc h)
named_first (d ∷ row) (true ∷ holds) e h = (0, record { stands = h; condition = refl; before = λ j lt. absurd (omega arith) })
named_first (d ∷ row) (false ∷ holds) e h = further row holds e d (named_first row holds e h)

-- and the first whose condition holds is named
pub first_named : (row : List ErrorName) (holds : List Bool) (k : ℕ) (e : ErrorName) → IsFirst row holds k e → first_that_holds row holds ≡ Some e
first_named [] holds k e f = absurd (cc f.stands)
first_named (d ∷ row) [] k e f = absurd (cc f.condition)
first_named (d ∷ row) (true ∷ holds) zero e f = f.stands
first_named (d ∷ row) (true ∷ holds) (suc k) e f = absurd (cc (f.before 0 (omega arith)))
first_named (d ∷ row) (false ∷ holds) zero e f = absurd (cc f.condition)
first_named (d ∷ row) (false ∷ holds) (suc k) e f =
    first_named row holds k e (record { stands = f.stands; condition = f.condition; before = λ j lt. f.before (suc j) (omega arith) })

-- what stands behind it changes nothing
pub behind_first : (row : List ErrorName) (a b : List Bool) (k : ℕ) (e : ErrorName) → IsFirst row a k e → AgreeTo k a b → first_that_holds row b ≡ Some e
behind_first row a b k e f same = first_named row b k e (record {
  stands = f.stands;
  condition = sym (same k (omega arith)) ∙ f.condition;
  before = λ j lt. sym (same j (omega arith)) ∙ f.before j lt;
})

-- the conditions from place k on count only where none before holds
pub split_at : (row : List ErrorName) (holds : List Bool) (k : ℕ) → first_that_holds row holds ≡ option_or (first_that_holds row (take k holds)) (first_that_holds (drop k row) (drop k holds))
split_at [] holds zero = refl
split_at [] holds (suc k) = refl
split_at (e ∷ row) [] zero = refl
split_at (e ∷ row) [] (suc k) = nothing_left (drop k row) where
  nothing_left : (es : List ErrorName) → ◌≡◌ {A = Option ErrorName} None (first_that_holds es [])
  nothing_left [] = refl
  nothing_left (d ∷ es) = refl
split_at (e ∷ row) (h ∷ holds) zero = refl
split_at (e ∷ row) (true ∷ holds) (suc k) = refl
split_at (e ∷ row) (false ∷ holds) (suc k) = split_at row holds k

-- the last condition of a row counts only where none before holds
pub last_at : (row : List ErrorName) (holds : List Bool) (k : ℕ) (b : Bool) → k + 1 ≡ length row → k < length holds
    → first_that_holds row (slice_set holds k b) ≡ option_or (first_that_holds row (slice_set holds k false)) (cond b (slice_get row k) None)
last_at [] holds k b e lt = absurd (omega arith)
last_at (d ∷ row) [] k b e lt = absurd (omega arith)
last_at (d ∷ []) (h ∷ holds) zero true e lt = none_left holds where
  none_left : (hs : List Bool) → ◌≡◌ {A = Option ErrorName} (Some d) (option_or (first_that_holds [] hs) (Some d))
  none_left hs = refl
last_at (d ∷ []) (h ∷ holds) zero false e lt = refl
last_at (d ∷ c ∷ row) (h ∷ holds) zero b e lt = absurd (omega arith)
last_at (d ∷ row) (true ∷ holds) (suc k) b e lt = refl
last_at (d ∷ row) (false ∷ holds) (suc k) b e lt = last_at row holds k b (omega arith) (omega arith)
