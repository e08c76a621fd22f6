-- The numbers of a stream: how many rounds its buffer holds, and the places of rounds.
use Rattle.std.specs.Prelude.{ℕ, ◌+◌, ◌-◌, ◌&&◌, nat_lt, if◌then◌else◌}

-- one more round, where those are counted up to the rounds that the buffer holds
abbrev pub one_more : (count samples : ℕ) → ℕ
one_more c n = if nat_lt c n then c + 1 else n

-- the place after this one, and the one before it
abbrev pub following : (place samples : ℕ) → ℕ
following p n = if nat_lt p 255 && nat_lt (p + 1) n then p + 1 else 0

abbrev pub preceding : (place samples : ℕ) → ℕ
preceding p n = if nat_lt 0 p then p - 1 else n - 1

-- a number that is at most this
abbrev pub limited : (value most : ℕ) → ℕ
limited v m = if nat_lt v m then v else m
