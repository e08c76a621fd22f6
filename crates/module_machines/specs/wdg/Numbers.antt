-- Numbers of 16 bits.
use Rattle.std.specs.Prelude.{ℕ, nat_lt, if◌then◌else◌}

-- the number, where it has at most 16 bits
abbrev pub narrow : ℕ → ℕ
narrow n = if nat_lt n 65536 then n else 0
