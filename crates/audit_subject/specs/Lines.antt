-- Lines of a mask.
use Rattle.std.specs.Prelude.{ℕ, Bool, ◌&&◌}
use Rattle.mcal_base.specs.Bits.{has_bit, bits_of}

-- those of 64 of which a test holds
abbrev pub lines_where : (asked : ℕ) → (ℕ → Bool) → ℕ
lines_where asked test = bits_of (λ l. has_bit asked l && test l) 64
