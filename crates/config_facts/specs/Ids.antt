-- Words for the facts of a configuration: ranges, ids, references and rules.
use Rattle.std.specs.Prelude.{◌≡◌, ℕ, ◌==◌, ◌≤◌, ◌<◌, Bool, true, false, List, length, take, Option, Some, All, AllPairs, slice_index_or}
use Rattle.std.specs.List.{list_any}

-- a number in a range
pub record InRange (low high n : ℕ) : Type 0 where
  pub least : low ≤ n
  pub most : n ≤ high

-- numbers in a range, so many
pub record IsList (least most low high : ℕ) (xs : List ℕ) : Type 0 where
  pub enough : least ≤ length xs
  pub few : length xs ≤ most
  pub each : All (InRange low high) xs

-- two ids are there and are equal
abbrev pub same_id : Option ℕ → Option ℕ → Bool
same_id (Some a) (Some b) = a == b
same_id _ _ = false

-- some element has this id
abbrev pub has_id : {T : Type 0} → (T → Option ℕ) → List T → ℕ → Bool
has_id id all n = list_any (λ x. same_id (Some n) (id x)) all

-- each number is the id of an element
abbrev pub Refer : {T : Type 0} → (T → Option ℕ) → List T → List ℕ → Type 0
Refer id all ns = All (λ n. has_id id all n ≡ true) ns

-- a table of at most so many elements, each as it has to be, with ids that stand once
pub record IsTable {T : Type 0} (P : T → Type 0) (id : T → Option ℕ) (most : ℕ) (xs : List T) : Type 0 where
  pub few : length xs ≤ most
  pub each : All P xs
  pub once : AllPairs (λ x y. same_id (id y) (id x) ≡ false) xs

-- no element breaks a rule, after those before it
abbrev pub Keeps : {T : Type 0} → (List T → T → Bool) → List T → Type 0
Keeps {T} breaks xs = (k : ℕ) (d : T) → k < length xs → breaks (take k xs) (slice_index_or xs k d) ≡ false
