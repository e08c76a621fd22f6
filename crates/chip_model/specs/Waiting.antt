-- The words that wait to come in on a serial unit.
use Rattle.std.specs.Prelude.{ℕ, List}

-- The words, the one that comes in next first, and for how many more there is room.
pub record Waiting : Type 0 where
  pub waiting : List ℕ
  pub room : ℕ
