-- The bits of a register's value.
use Rattle.std.specs.Prelude.{ℕ, zero, suc, ◌+◌, ◌-◌, ◌*◌, ◌/◌, ◌%◌, ◌^◌, Bool, ◌==◌, if◌then◌else◌, List, map, bit_and}
use Rattle.std.specs.List.{enumerate_from}

-- bit k of the value is set
abbrev pub has_bit : ℕ → ℕ → Bool
has_bit value k = value / 2 ^ k % 2 == 1

-- the value, with the bits that are set in the other one cleared; 32 bits each
abbrev pub without : ℕ → ℕ → ℕ
without value bits = bit_and value (2 ^ 32 - 1 - bits)

-- 1 where it is so, and 0 where it isn't
abbrev pub bit_of : Bool → ℕ
bit_of b = if b then 1 else 0

-- the value whose bits below n are set where the test holds, and whose other bits are clear
unfoldable pub bits_of : (ℕ → Bool) → ℕ → ℕ
bits_of test zero = 0
bits_of test (suc n) = bit_of (test n) * 2 ^ n + bits_of test n

-- each element whose bit is set in the value, changed so; the change is told its number
unfoldable pub at_bits : {T : Type 0} → (ℕ → T → T) → ℕ → List T → List T
at_bits change value xs = map (λ p. if has_bit value p.0 then change p.0 p.1 else p.1) (enumerate_from 0 xs)
