-- Numbers: decimal digits, or 0x and hexadecimal ones.
use Rattle.std.specs.Prelude.{ℕ, ◌+◌, ◌-◌, ◌*◌, ◌&&◌, ◌==◌, min, drop, nat_le, nat_lt, List, [], ◌∷◌, Bool, false, Option, Some, None, Result, Ok, Err, option_map, if◌then◌else◌}
use Rattle.bench_script.specs.declared.fault.LineFault.{LineFault}
use Rattle.bench_script.specs.declared.fault.LineFault.TheVariants as kinds

-- the value of a digit in a base
abbrev pub digit : ℕ → ℕ → Option ℕ
digit base b =
    if nat_le 48 b && nat_le b 57 then Some (b - 48)
    else if nat_lt 10 base && (nat_le 97 b && nat_le b 102) then Some (b - 97 + 10)
    else if nat_lt 10 base && (nat_le 65 b && nat_le b 70) then Some (b - 65 + 10)
    else None

-- the number that digits give after those before them
abbrev pub digits_after : ℕ → Option ℕ → List ℕ → Option ℕ
digits_after base None bs = None
digits_after base (Some n) [] = Some n
digits_after base (Some n) (b ∷ bs) = digits_after base (option_map (λ d. n * base + d) (digit base b)) bs

-- the number that digits are, of which there is at least one
abbrev pub digits : ℕ → List ℕ → Option ℕ
digits base [] = None
digits base (b ∷ bs) = digits_after base (Some 0) (b ∷ bs)

-- begins with 0x
abbrev pub is_hexadecimal : List ℕ → Bool
is_hexadecimal (a ∷ b ∷ bs) = a == 48 && b == 120
is_hexadecimal _ = false

-- the number that a numeral is, however large
abbrev pub numeral : List ℕ → Option ℕ
numeral word = if is_hexadecimal word then digits 16 (drop 2 word) else digits 10 word

-- a number, or 2 to the 32 where that is less
abbrev pub capped : ℕ → ℕ
capped n = min n 4294967296

-- the number that a numeral is, if it is at most so much
abbrev pub up_to : ℕ → Option ℕ → Result ℕ LineFault
up_to most None = Err kinds.Number
up_to most (Some n) = if nat_le n most then Ok n else Err kinds.Number

abbrev pub number_up_to : ℕ → List ℕ → Result ℕ LineFault
number_up_to most word = up_to most (numeral word)
