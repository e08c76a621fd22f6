-- A truth value that decides a statement.
use Rattle.std.specs.Prelude.{◌≡◌, Bool, true}

-- It is true exactly where the statement holds.
pub record Decides (b : Bool) (P : Type 0) : Type 0 where
  pub says : b ≡ true → P
  pub shows : P → b ≡ true
