-- The kinds of values, as the walk sees them.
use Rattle.std.specs.Prelude.{ℕ, ◌+◌, nat_lt, nat_le, [], ◌∷◌, ◌++◌, ℤ, pos, negsuc, ◌&&◌, ◌||◌, Bool, true, List, Option, Some, None, if◌then◌else◌}
use Rattle.toml.specs.Data.{Data, Items, no_items, item, as_array, as_integer, as_bool, as_str}
use Rattle.config_keys.specs.Checks.{Checks, passes, fails, ◌⨾◌}
use Rattle.config_keys.specs.declared.fault.Path.{Path}
use Rattle.config_keys.specs.declared.fault.ConfigFault.TheVariants.{Missing, WrongKind, OutOfRange}

infixl 10 ◌>>=◌
abbrev pub ◌>>=◌ : {A B : Type 0} → Option A → (A → Option B) → Option B
None >>= f = None
(Some x) >>= f = f x

-- A value that a key may have.
pub data ReadValue (A : Type 0) : Type 0 where
  absent : ReadValue A
  another_kind : ReadValue A
  out_of_range : ReadValue A
  good : A → ReadValue A

-- the check of a value that may be absent
abbrev pub optional : {A : Type 0} → Path → ReadValue A → Checks
optional at absent = passes
optional at another_kind = fails (WrongKind at)
optional at out_of_range = fails (OutOfRange at)
optional at (good x) = passes

-- the check of a value that may not be absent
abbrev pub required : {A : Type 0} → Path → ReadValue A → Checks
required at absent = fails (Missing at)
required at another_kind = fails (WrongKind at)
required at out_of_range = fails (OutOfRange at)
required at (good x) = passes

-- the value, if it is there and good
abbrev pub found : {A : Type 0} → ReadValue A → Option A
found (good x) = Some x
found _ = None

-- the value, or a default
abbrev pub found_or : {A : Type 0} → A → ReadValue A → A
found_or d (good x) = x
found_or d _ = d

-- a whole number in a range
abbrev pub whole_number : ℕ → ℕ → Option ℤ → ReadValue ℕ
whole_number low high None = another_kind
whole_number low high (Some (pos n)) = if nat_le low n && nat_le n high then good n else out_of_range
whole_number low high (Some (negsuc n)) = out_of_range

abbrev pub whole : ℕ → ℕ → Option Data → ReadValue ℕ
whole low high None = absent
whole low high (Some d) = whole_number low high (as_integer d)

abbrev pub good_or : {A : Type 0} → ReadValue A → Option A → ReadValue A
good_or other None = other
good_or other (Some x) = good x

-- a truth value
abbrev pub truth : Option Data → ReadValue Bool
truth None = absent
truth (Some d) = good_or another_kind (as_bool d)

-- a name out of a list
abbrev pub name_text : {A : Type 0} → (List ℕ → Option A) → Option (List ℕ) → ReadValue A
name_text named None = another_kind
name_text named (Some t) = good_or out_of_range (named t)

abbrev pub name : {A : Type 0} → (List ℕ → Option A) → Option Data → ReadValue A
name named None = absent
name named (Some d) = name_text named (as_str d)

-- any text, which says no more than that it is there
abbrev pub text_there : Option (List ℕ) → ReadValue Bool
text_there None = another_kind
text_there (Some t) = good true

abbrev pub text : Option Data → ReadValue Bool
text None = absent
text (Some d) = text_there (as_str d)

abbrev pub count_of : Items → ℕ
count_of no_items = 0
count_of (item d ds) = count_of ds + 1

-- values, and then those
abbrev pub prepended : {T : Type 0} → List T → Option (List T) → Option (List T)
prepended xs None = None
prepended xs (Some ys) = Some (xs ++ ys)

-- the place of an item
abbrev pub of_item : Path → ℕ → Path
of_item at i = record at { item = Some i }

-- the items of an array of a kind, in turn; each has its own place
abbrev pub items_from : {A : Type 0} → (Option Data → ReadValue A) → Path → ℕ → Items → Checks
items_from kind at i no_items = passes
items_from kind at i (item d ds) = required (of_item at i) (kind (Some d)) ⨾ items_from kind at (i + 1) ds

abbrev pub items_of : {A : Type 0} → (Option Data → ReadValue A) → Items → Option (List A)
items_of kind no_items = Some []
items_of kind (item d ds) = do
  x ← found (kind (Some d))
  xs ← items_of kind ds
  Some (x ∷ xs)

-- an array's length, which is looked at before its items
abbrev pub length_checks : ℕ → ℕ → Path → Items → Checks
length_checks least most at ds = if nat_lt (count_of ds) least || nat_lt most (count_of ds) then fails (OutOfRange at) else passes

abbrev pub list_kind : {A : Type 0} → ℕ → ℕ → (Option Data → ReadValue A) → Path → Option Items → Checks
list_kind least most kind at None = fails (WrongKind at)
list_kind least most kind at (Some ds) = length_checks least most at ds ⨾ items_from kind at 0 ds

-- an array of items of a kind, after what is checked where it is absent
abbrev pub list_checks : {A : Type 0} → ℕ → ℕ → (Option Data → ReadValue A) → Path → Checks → Option Data → Checks
list_checks least most kind at missing None = missing
list_checks least most kind at missing (Some d) = list_kind least most kind at (as_array d)

abbrev pub list_value : {A : Type 0} → (Option Data → ReadValue A) → Option (List A) → Option Data → Option (List A)
list_value kind default None = default
list_value kind default (Some d) = as_array d >>= items_of kind
