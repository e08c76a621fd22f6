-- An order of entries, each waiting or not, as a plain list.
use Rattle.std.specs.Prelude.{◌≡◌, ℕ, ◌≤◌, ◌<◌, Bool, true, false, not, ◌&&◌, ◌||◌, ◌==◌, nat_lt, if◌then◌else◌, List, [], ◌∷◌, ◌++◌, map, slice_index}

-- An entry, 0 to 15, and whether it waits.
pub record Entry : Type 0 where
  pub number : ℕ
  pub waits : Bool

-- the entry is there
abbrev pub is_there : ℕ → List Entry → Bool
is_there n [] = false
is_there n (x ∷ xs) = x.number == n || is_there n xs

-- no entry is there twice
abbrev pub IsOnce : List Entry → Type 0
IsOnce [] = Unit {0}
IsOnce (x ∷ xs) = (is_there x.number xs ≡ false) × IsOnce xs

-- each entry is below 16
abbrev pub AllBelow : List Entry → Type 0
AllBelow [] = Unit {0}
AllBelow (x ∷ xs) = (x.number < 16) × AllBelow xs

-- ---- what the calls make of an order

-- one more entry, in the last place, which waits
abbrev pub added : ℕ → List Entry → List Entry
added n xs = xs ++ record { number = n; waits = true } ∷ []

-- the entry waits so; the others are as they were, and all keep their places
abbrev pub with_wait : ℕ → Bool → Entry → Entry
with_wait n w x = if x.number == n then record { number = x.number; waits = w } else x

abbrev pub waiting : ℕ → Bool → List Entry → List Entry
waiting n w xs = map (with_wait n w) xs

-- the entry is taken out, and the others keep their order
abbrev pub without : ℕ → List Entry → List Entry
without n [] = []
without n (x ∷ xs) = if x.number == n then xs else x ∷ without n xs

-- what choice gives where no entry waits
abbrev pub none : ℕ
none = 16

-- the rank of an entry
abbrev pub rank : List ℕ → ℕ → ℕ
rank ranks n = slice_index ranks n

-- an entry before a choice takes its place where it waits, unless the choice ranks higher
abbrev pub over : List ℕ → Entry → ℕ → ℕ
over ranks x best = if x.waits && not (nat_lt best none && nat_lt (rank ranks x.number) (rank ranks best)) then x.number else best

-- the waiting entry of highest rank, among equal ranks the first one
abbrev pub choice : List ℕ → List Entry → ℕ
choice ranks [] = none
choice ranks (x ∷ xs) = over ranks x (choice ranks xs)

-- what a choice leaves waiting
abbrev pub chosen : ℕ → List Entry → List Entry
chosen n xs = if nat_lt n none then waiting n false xs else xs

-- ---- the choice, without the way to it

-- each entry that waits is one of these
abbrev pub AllWaiting : (Entry → Type 0) → List Entry → Type 0
AllWaiting P [] = Unit {0}
AllWaiting P (x ∷ xs) = (x.waits ≡ true → P x) × AllWaiting P xs

-- it waits; those before it that wait rank lower, and those after it no higher
pub record IsChoice (ranks : List ℕ) (xs : List Entry) (n : ℕ) : Type 0 where
  pub before : List Entry
  pub after : List Entry
  pub is : xs ≡ before ++ record { number = n; waits = true } ∷ after
  pub below : AllWaiting (λ x. rank ranks x.number < rank ranks n) before
  pub within : AllWaiting (λ x. rank ranks x.number ≤ rank ranks n) after
