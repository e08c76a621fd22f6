-- How long a report may be.
use Rattle.std.specs.Prelude.{ℕ, nat_lt, Bool, List, length}

-- the most bytes that a report may have
abbrev pub most_bytes : ℕ
most_bytes = 268435456

-- a text is longer than a report may be
abbrev pub is_too_long : List ℕ → Bool
is_too_long text = nat_lt most_bytes (length text)
