-- Masks of 64 bits.
use Rattle.std.specs.Prelude.{ℕ, ◌^◌, Bool, ◌==◌, nat_lt, if◌then◌else◌, List, [], ◌∷◌, bit_and, bit_or}
use Rattle.std.specs.List.{list_any}
use Rattle.mcal_base.specs.Bits.{has_bit}

-- a mask with this bit too, where it has such a one
abbrev pub with_bit : (mask number : ℕ) → ℕ
with_bit mask number = if nat_lt number 64 then bit_or mask (2 ^ number) else mask

-- a mask with the bits of these numbers too
abbrev pub with_bits : (mask : ℕ) → List ℕ → ℕ
with_bits mask [] = mask
with_bits mask (n ∷ ns) = with_bits (with_bit mask n) ns

-- one of these bits is set
abbrev pub has_any : (mask : ℕ) → List ℕ → Bool
has_any mask ns = list_any (has_bit mask) ns

-- each bit of the first mask is one of the second
abbrev pub includes : (need have : ℕ) → Bool
includes need have = bit_and need have == need
