-- Lists by number that grow.
use Rattle.std.specs.Prelude.{◌≡◌, ◌<◌, ℕ, List, length, slice_index_or, slice_set}
use Rattle.spi_machine.specs.Numbered.{with_item, first_items}

-- The list after has an item of this number, and else differs in items alone that weren't there.
pub record IsGrown {A : Type 0} (first : A) (before after : List A) (number : ℕ) : Type 0 where
  pub there : number < length after
  pub same : slice_index_or after number first ≡ slice_index_or before number first
  pub sets : (x : A) → slice_set after number x ≡ with_item first before number x
  pub firsts : (n : ℕ) → first_items first n after ≡ first_items first n before
