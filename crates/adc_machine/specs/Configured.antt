-- What is asked of the configured groups.
use Rattle.std.specs.Prelude.{ℕ, ◌+◌, ◌-◌, ◌*◌, Bool, if◌then◌else◌, Option, Some, None, List, [], ◌∷◌, slice_index_or, is_some, zero, suc}
use Rattle.adc_machine.specs.Table.{group_of}
use Rattle.adc_machine.specs.Turns.{rank_of, is_on}
use Rattle.adc_machine.specs.declared.table.AdcTable.{AdcTable}
use Rattle.adc_machine.specs.declared.table.Group.{Group}

-- the unit of a group
abbrev pub unit_of : Option Group → ℕ
unit_of None = 0
unit_of (Some k) = k.unit

-- ---- what a list register takes

abbrev pub input_at : List ℕ → ℕ → ℕ
input_at inputs i = slice_index_or inputs i 0

-- four inputs from this one on, the lowest byte first; after the last one there is 0
abbrev pub four_from : List ℕ → ℕ → ℕ
four_from inputs i = input_at inputs (i + 0) + 256 * input_at inputs (i + 1) + 65536 * input_at inputs (i + 2) + 16777216 * input_at inputs (i + 3)

abbrev pub ranks_of : AdcTable → List ℕ
ranks_of d = rank_of d 0 ∷ rank_of d 1 ∷ rank_of d 2 ∷ rank_of d 3 ∷ rank_of d 4 ∷ rank_of d 5 ∷ rank_of d 6 ∷ rank_of d 7 ∷ rank_of d 8 ∷ rank_of d 9 ∷ rank_of d 10 ∷ rank_of d 11 ∷ rank_of d 12 ∷ rank_of d 13 ∷ rank_of d 14 ∷ rank_of d 15 ∷ []

-- ---- the next group

-- a group of a unit, or any, where none is given
abbrev pub is_of : AdcTable → Option ℕ → ℕ → Bool
is_of d None g = is_some (group_of d g)
is_of d (Some u) g = is_on u (group_of d g)

-- the first of so many numbers from this one on that has such a group
abbrev pub first_from : AdcTable → Option ℕ → (many from : ℕ) → Option ℕ
first_from d u zero g = None
first_from d u (suc n) g = if is_of d u g then Some g else first_from d u n (g + 1)

abbrev pub next_of : AdcTable → Option ℕ → (from : ℕ) → Option ℕ
next_of d u g = first_from d u (16 - g) g
