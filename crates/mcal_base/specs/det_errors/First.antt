-- The place of the error that is named.
use Rattle.std.specs.Prelude.{◌≡◌, ℕ, ◌<◌, ◌≤◌, Bool, true, false, List, Some, slice_get}
use Rattle.mcal_base.specs.declared.error_name.ErrorName.{ErrorName}

-- the error stands at place k of the row, its condition holds, and each one before it does not
pub record IsFirst (row : List ErrorName) (holds : List Bool) (k : ℕ) (e : ErrorName) : Type 0 where
  pub stands : slice_get row k ≡ Some e
  pub condition : slice_get holds k ≡ Some true
  pub before : (j : ℕ) → j < k → slice_get holds j ≡ Some false

-- the conditions at the places up to k are the same
abbrev pub AgreeTo : ℕ → List Bool → List Bool → Type 0
AgreeTo k a b = (j : ℕ) → j ≤ k → slice_get a j ≡ slice_get b j
