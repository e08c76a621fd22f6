-- A sum as it is counted here.
use Rattle.std.specs.Prelude.{ℕ, ◌+◌, min}

-- up to 2 to the 64, less 1
abbrev pub sum_up : ℕ → ℕ → ℕ
sum_up n more = min (n + more) 18446744073709551615
