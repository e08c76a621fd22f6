-- The bits of pins in their halves, when bits of a half are set and cleared.
use Rattle.std.proofs.Common.{◌≡◌, ℕ, ◌/◌, ◌%◌, ◌^◌, ◌<◌, ◌≤◌, ◌≢◌, Bool, true, false, not, ◌&&◌, ◌||◌, List, length, refl, sym, ◌∙◌, ap, arith, length-set, get_or-set_same, get_or-set_other, ◌⊎◌, inl, inr}
use Rattle.std.specs.Prelude.{slice_index, slice_set, bit_or}
use Rattle.std.proofs.lemmas.List.{get_or_past}
use Rattle.mcal_base.specs.facts.Truths.{or_false, or_true}
use Rattle.mcal_base.specs.Bits.{has_bit, without}
use Rattle.mcal_base.proofs.BitLaws.{has_bit-or, has_bit-without}
use Rattle.chip_blocks.specs.units.Pins.{bit_at, ones_set, ones_clear}
use Rattle.chip_blocks.specs.units.WriteHistories.{Spares}

bit_of_pin : (p : ℕ) → p % 32 < 32
bit_of_pin p = omega arith

pub half_of_pin : (p : ℕ) → p < 64 → p / 32 < 2
half_of_pin p lt = omega arith

and_true : (q : Bool) → (q && not false) ≡ q
and_true true = refl
and_true false = refl

and_not : (q : Bool) → (q && not true) ≡ false
and_not true = refl
and_not false = refl

-- a word of the halves that is replaced, seen at another pin's half
other_half : (hs : List ℕ) (p half v : ℕ) → half ≢ p / 32 → bit_at (slice_set hs half v) p ≡ bit_at hs p
other_half hs p half v ne =
    let ne' : p / 32 ≢ half = λ e. ne (sym e) in
    ap (λ w. has_bit w (p % 32)) (get_or-set_other hs half (p / 32) v 0 ne')

same_half : (hs : List ℕ) (p v : ℕ) → p / 32 < length hs → bit_at (slice_set hs (p / 32) v) p ≡ has_bit v (p % 32)
same_half hs p v within = ap (λ w. has_bit w (p % 32)) (get_or-set_same hs (p / 32) v 0 within)

pub bit_at-set : (hs : List ℕ) (p bits : ℕ) → p / 32 < length hs → has_bit bits (p % 32) ≡ true → bit_at (ones_set hs (p / 32) bits) p ≡ true
bit_at-set hs p bits within on =
    let w : ℕ = slice_index hs (p / 32) in
    same_half hs p (bit_or w bits) within ∙ has_bit-or w bits (p % 32) ∙ rw on (or_true (has_bit w (p % 32)))

pub bit_at-clear : (hs : List ℕ) (p bits : ℕ) → p / 32 < length hs → bits < 2 ^ 32 → has_bit bits (p % 32) ≡ true → bit_at (ones_clear hs (p / 32) bits) p ≡ false
bit_at-clear hs p bits within fits on =
    let w : ℕ = slice_index hs (p / 32) in
    same_half hs p (without w bits) within ∙ has_bit-without w bits (p % 32) fits (bit_of_pin p) ∙ rw on (and_not (has_bit w (p % 32)))

pub within_or_not : (k n : ℕ) → (k < n) ⊎ (n ≤ k)
within_or_not k n = grind arith

-- a half that isn't there stays
past_half : (hs : List ℕ) (p half v : ℕ) → length hs ≤ p / 32 → half ≡ p / 32 → bit_at (slice_set hs half v) p ≡ bit_at hs p
past_half hs p half v past at =
    ap (λ w. has_bit w (p % 32)) (get_or_past (slice_set hs half v) (p / 32) 0 (omega (arith, length-set hs half v)) ∙ sym (get_or_past hs (p / 32) 0 past))

pub set_same : (hs : List ℕ) (p bits : ℕ) → (p / 32 < length hs) ⊎ (length hs ≤ p / 32) → has_bit bits (p % 32) ≡ false → bit_at (ones_set hs (p / 32) bits) p ≡ bit_at hs p
set_same hs p bits (inl within) off =
    let w : ℕ = slice_index hs (p / 32) in
    same_half hs p (bit_or w bits) within ∙ has_bit-or w bits (p % 32) ∙ rw off (or_false (has_bit w (p % 32)))
set_same hs p bits (inr past) off = past_half hs p (p / 32) (bit_or (slice_index hs (p / 32)) bits) past refl

clear_same : (hs : List ℕ) (p bits : ℕ) → (p / 32 < length hs) ⊎ (length hs ≤ p / 32) → bits < 2 ^ 32 → has_bit bits (p % 32) ≡ false → bit_at (ones_clear hs (p / 32) bits) p ≡ bit_at hs p
clear_same hs p bits (inl within) fits off =
    let w : ℕ = slice_index hs (p / 32) in
    same_half hs p (without w bits) within ∙ has_bit-without w bits (p % 32) fits (bit_of_pin p) ∙ rw off (and_true (has_bit w (p % 32)))
clear_same hs p bits (inr past) fits off = past_half hs p (p / 32) (without (slice_index hs (p / 32)) bits) past refl

pub half_or_not : (half p : ℕ) → (half ≡ p / 32) ⊎ (half ≢ p / 32)
half_or_not half p = grind arith

pub set-spared : (hs : List ℕ) (p half bits : ℕ) → (half ≡ p / 32) ⊎ (half ≢ p / 32) → Spares p half bits → bit_at (ones_set hs half bits) p ≡ bit_at hs p
set-spared hs p half bits (inr ne) s = other_half hs p half (bit_or (slice_index hs half) bits) ne
set-spared hs p half bits (inl at) (inl ne) = absurd (ne at)
set-spared hs p half bits (inl at) (inr off) = rw at (set_same hs p bits (within_or_not (p / 32) (length hs)) off)

pub clear-spared : (hs : List ℕ) (p half bits : ℕ) → bits < 2 ^ 32 → (half ≡ p / 32) ⊎ (half ≢ p / 32) → Spares p half bits → bit_at (ones_clear hs half bits) p ≡ bit_at hs p
clear-spared hs p half bits fits (inr ne) s = other_half hs p half (without (slice_index hs half) bits) ne
clear-spared hs p half bits fits (inl at) (inl ne) = absurd (ne at)
clear-spared hs p half bits fits (inl at) (inr off) = rw at (clear_same hs p bits (within_or_not (p / 32) (length hs)) fits off)
