-- Lists with the room that was taken for them.
use Rattle.std.specs.Prelude.{ℕ, List}
use Rattle.run_model.specs.declared.item.Item.{Item}
use Rattle.run_model.specs.declared.kept.Rest.{Rest}

-- items, and how many there may be
pub record ItemsKept : Type 0 where
  pub items : List Item
  pub room : ℕ

-- words, and how many there may be
pub record WordsKept : Type 0 where
  pub words : List ℕ
  pub room : ℕ

-- rests of steps, and how many there may be
pub record RestsKept : Type 0 where
  pub rests : List Rest
  pub room : ℕ
