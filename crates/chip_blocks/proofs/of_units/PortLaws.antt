-- The latches of pins after a word was put to a port, and after a pin was inverted.
use Rattle.std.proofs.Common.{◌≡◌, ℕ, zero, suc, ◌+◌, ◌-◌, ◌*◌, ◌/◌, ◌%◌, ◌^◌, ◌<◌, ◌≤◌, ◌≢◌, Bool, true, false, not, ◌&&◌, ◌==◌, List, length, refl, sym, ◌∙◌, ap, arith, length-set, ◌⊎◌, inl, inr}
use Rattle.std.specs.Prelude.{slice_index, bit_and, if◌then◌else◌}
use Rattle.std.proofs.lemmas.Nat.{and_le_l, pow_below, pow_pos}
use Rattle.std.proofs.lemmas.Nat.Bits.{bit_at_cat_low, bit_at_cat_high}
use Rattle.std.proofs.lemmas.Bool.{and_left, and_right}
use Rattle.mcal_base.specs.facts.Numbers.{same_or_other}
use Rattle.mcal_base.specs.Bits.{has_bit, without}
use Rattle.mcal_base.proofs.BitLaws.{has_bit-zero, has_bit-above, has_bit-and, has_bit-pow_same, has_bit-pow_other}
use Rattle.chip_blocks.specs.units.Pins.{Pins, bit_at, is_out, latch, ones_set, ones_clear, inverted, flip, at_port, chosen, replaced, put}
use Rattle.chip_blocks.specs.units.WriteHistories.{Spares, PutSpares}
use Rattle.chip_blocks.proofs.of_units.WriteLaws.{half_of_pin, half_or_not, set_same, bit_at-set, bit_at-clear, set-spared, clear-spared}

-- ---- bits at the places of a port

fits_at : (byte r : ℕ) → byte < 256 → r < 4 → byte * 2 ^ (8 * r) < 2 ^ 32
fits_at byte zero few lt = omega (arith, few)
fits_at byte (suc zero) few lt = omega (arith, few)
fits_at byte (suc (suc zero)) few lt = omega (arith, few)
fits_at byte (suc (suc (suc zero))) few lt = omega (arith, few)
fits_at byte (suc (suc (suc (suc r)))) few lt = absurd (omega (arith, lt))

pub port-fits : (q bits : ℕ) → at_port q bits < 2 ^ 32
port-fits q bits = fits_at (bits % 256) (q % 4) (omega arith) (omega arith)

moved_low : (x s k : ℕ) → k < s → has_bit (x * 2 ^ s) k ≡ false
moved_low x s k lt =
    let none : x * 2 ^ s ≡ x * 2 ^ s + 0 = omega arith in
    rw none (ap (λ n. n == 1) (bit_at_cat_low x s 0 k lt)) ∙ has_bit-zero k

moved_high : (x s k : ℕ) → s ≤ k → has_bit (x * 2 ^ s) k ≡ has_bit x (k - s)
moved_high x s k le =
    let none : x * 2 ^ s ≡ x * 2 ^ s + 0 = omega arith in
    rw none (ap (λ n. n == 1) (bit_at_cat_high x s 0 k (pow_pos s) le))

in_bytes : (word : ℕ) → word / 256 * 2 ^ 8 + word % 256 ≡ word
in_bytes word = omega arith

low_byte : (word k : ℕ) → k < 8 → has_bit (word % 256) k ≡ has_bit word k
low_byte word k lt = sym (ap (λ n. n == 1) (bit_at_cat_low (word / 256) 8 (word % 256) k lt)) ∙ ap (λ n. has_bit n k) (in_bytes word)

past_byte : (word k : ℕ) → 8 ≤ k → has_bit (word % 256) k ≡ false
past_byte word k le = has_bit-above (word % 256) 8 k (omega arith) le

eight_less : (k : ℕ) → 8 + k - 8 ≡ k
eight_less k = omega arith

-- a bit of the mask
mask_bit : (word k : ℕ) → has_bit (word / 256) k ≡ has_bit word (8 + k)
mask_bit word k =
    let below : word % 256 < 2 ^ 8 = omega arith in
    let within : 8 ≤ 8 + k = omega arith in
    sym (sym (ap (λ n. has_bit n (8 + k)) (in_bytes word))
    ∙ ap (λ n. n == 1) (bit_at_cat_high (word / 256) 8 (word % 256) (8 + k) below within)
    ∙ ap (λ j. has_bit (word / 256) j) (eight_less k))

-- a bit of a pin of the port, and of another pin of its half
own_bit : (p bits : ℕ) → has_bit (at_port (p / 8) bits) (p % 32) ≡ has_bit bits (p % 8)
own_bit p bits =
    let there : 8 * (p / 8 % 4) ≤ p % 32 = omega arith in
    let at : p % 32 - 8 * (p / 8 % 4) ≡ p % 8 = omega arith in
    moved_high (bits % 256) (8 * (p / 8 % 4)) (p % 32) there
    ∙ ap (λ k. has_bit (bits % 256) k) at
    ∙ low_byte bits (p % 8) (omega arith)

beside : (p q : ℕ) → q ≢ p / 8 → q / 4 ≡ p / 32 → (p % 32 < 8 * (q % 4)) ⊎ (8 * (q % 4) + 8 ≤ p % 32)
beside p q ne at = grind arith

other_bit : (p q bits : ℕ) → q ≢ p / 8 → q / 4 ≡ p / 32 → has_bit (at_port q bits) (p % 32) ≡ false
other_bit p q bits ne at = elim (beside p q ne at) [
  | inl low ↦ moved_low (bits % 256) (8 * (q % 4)) (p % 32) low
  | inr past ↦
      let there : 8 * (q % 4) ≤ p % 32 = omega (arith, past) in
      let far : 8 ≤ p % 32 - 8 * (q % 4) = omega (arith, past) in
      moved_high (bits % 256) (8 * (q % 4)) (p % 32) there ∙ past_byte bits (p % 32 - 8 * (q % 4)) far
]

-- ---- bits of a half that are replaced

spares_some : (p half bits levels : ℕ) → Spares p half bits → Spares p half (bit_and bits levels)
spares_some p half bits levels (inl ne) = inl ne
spares_some p half bits levels (inr off) = inr (has_bit-and bits levels (p % 32) ∙ and_left _ _ off)

replaced-spared : (hs : List ℕ) (p half bits levels : ℕ) → bits < 2 ^ 32 → Spares p half bits → bit_at (replaced hs half bits levels) p ≡ bit_at hs p
replaced-spared hs p half bits levels fits s =
    set-spared (ones_clear hs half bits) p half (bit_and bits levels) (half_or_not half p) (spares_some p half bits levels s)
    ∙ clear-spared hs p half bits fits (half_or_not half p) s

replaced_by : (hs : List ℕ) (p bits levels : ℕ) (v : Bool) → has_bit levels (p % 32) ≡ v → p / 32 < length hs → bits < 2 ^ 32
    → has_bit bits (p % 32) ≡ true → bit_at (replaced hs (p / 32) bits levels) p ≡ v
replaced_by hs p bits levels true e within fits on =
    let there : p / 32 < length (ones_clear hs (p / 32) bits) = omega (arith, within, length-set hs (p / 32) (without (slice_index hs (p / 32)) bits)) in
    bit_at-set (ones_clear hs (p / 32) bits) p (bit_and bits levels) there (has_bit-and bits levels (p % 32) ∙ rw (on, e) refl)
replaced_by hs p bits levels false e within fits on =
    let there : p / 32 < length (ones_clear hs (p / 32) bits) = omega (arith, within, length-set hs (p / 32) (without (slice_index hs (p / 32)) bits)) in
    set_same (ones_clear hs (p / 32) bits) p (bit_and bits levels) (inl there) (has_bit-and bits levels (p % 32) ∙ rw (on, e) refl)
    ∙ bit_at-clear hs p bits within fits on

replaced-named : (hs : List ℕ) (p half bits levels : ℕ) → half ≡ p / 32 → p / 32 < length hs → bits < 2 ^ 32
    → has_bit bits (p % 32) ≡ true → bit_at (replaced hs half bits levels) p ≡ has_bit levels (p % 32)
replaced-named hs p half bits levels at within fits on = rw at (replaced_by hs p bits levels (has_bit levels (p % 32)) refl within fits on)

-- ---- a word that is put to a port

chosen_fits : (b : Pins) (q mask : ℕ) → chosen b q mask < 2 ^ 32
chosen_fits b q mask = omega (arith, port-fits q mask, and_le_l (at_port q mask) (slice_index b.out (q / 4)))

port_half : (p : ℕ) → p / 8 / 4 ≡ p / 32
port_half p = omega arith

seen_out : (b : Pins) (p half : ℕ) → half ≡ p / 32 → has_bit (slice_index b.out half) (p % 32) ≡ is_out b p
seen_out b p half at = rw at refl

pub put-named : (b : Pins) (p word : ℕ) → p < 64 → length b.latches ≡ 2 → is_out b p ≡ true → has_bit word (8 + p % 8) ≡ true
    → latch (put b (p / 8) word) p ≡ has_bit word (p % 8)
put-named b p word lt size out on =
    let within : p / 32 < length b.latches = rw size (half_of_pin p lt) in
    let asked : has_bit (at_port (p / 8) (word / 256)) (p % 32) ≡ true = own_bit p (word / 256) ∙ mask_bit word (p % 8) ∙ on in
    let seen : has_bit (slice_index b.out (p / 8 / 4)) (p % 32) ≡ true = seen_out b p (p / 8 / 4) (port_half p) ∙ out in
    let named : has_bit (chosen b (p / 8) (word / 256)) (p % 32) ≡ true = has_bit-and (at_port (p / 8) (word / 256)) (slice_index b.out (p / 8 / 4)) (p % 32) ∙ rw (asked, seen) refl in
    replaced-named b.latches p (p / 8 / 4) (chosen b (p / 8) (word / 256)) (at_port (p / 8) word) (port_half p) within (chosen_fits b (p / 8) (word / 256)) named
    ∙ own_bit p word

port_or_not : (q p : ℕ) → (q ≡ p / 8) ⊎ (q ≢ p / 8)
port_or_not q p = grind arith

spares_beside : (p q mask more : ℕ) → q ≢ p / 8 → (q / 4 ≡ p / 32) ⊎ (q / 4 ≢ p / 32) → Spares p (q / 4) (bit_and (at_port q mask) more)
spares_beside p q mask more ne (inl at) = inr (has_bit-and (at_port q mask) more (p % 32) ∙ and_left _ _ (other_bit p q mask ne at))
spares_beside p q mask more ne (inr far) = inl far

spares_unasked : (p q word more : ℕ) → q ≡ p / 8 → has_bit word (8 + p % 8) ≡ false → Spares p (q / 4) (bit_and (at_port q (word / 256)) more)
spares_unasked p q word more at off =
    let unasked : has_bit (at_port q (word / 256)) (p % 32) ≡ false = rw at (own_bit p (word / 256) ∙ mask_bit word (p % 8) ∙ off) in
    inr (has_bit-and (at_port q (word / 256)) more (p % 32) ∙ and_left _ _ unasked)

spares_put : (p q word more : ℕ) → (q ≡ p / 8) ⊎ (q ≢ p / 8) → PutSpares p q word → Spares p (q / 4) (bit_and (at_port q (word / 256)) more)
spares_put p q word more (inr ne) s = spares_beside p q (word / 256) more ne (half_or_not (q / 4) p)
spares_put p q word more (inl at) (inl ne) = absurd (ne at)
spares_put p q word more (inl at) (inr off) = spares_unasked p q word more at off

pub put-spared : (b : Pins) (p q word : ℕ) → PutSpares p q word → latch (put b q word) p ≡ latch b p
put-spared b p q word s =
    replaced-spared b.latches p (q / 4) (chosen b q (word / 256)) (at_port q word) (chosen_fits b q (word / 256))
    (spares_put p q word (slice_index b.out (q / 4)) (port_or_not q p) s)

spares_in : (b : Pins) (p q mask : ℕ) → is_out b p ≡ false → (q / 4 ≡ p / 32) ⊎ (q / 4 ≢ p / 32) → Spares p (q / 4) (chosen b q mask)
spares_in b p q mask e (inl at) = inr (has_bit-and (at_port q mask) (slice_index b.out (q / 4)) (p % 32) ∙ and_right _ _ (seen_out b p (q / 4) at ∙ e))
spares_in b p q mask e (inr far) = inl far

-- the latch of a pin that is in stays
pub put-in : (b : Pins) (p q word : ℕ) → is_out b p ≡ false → latch (put b q word) p ≡ latch b p
put-in b p q word e =
    replaced-spared b.latches p (q / 4) (chosen b q (word / 256)) (at_port q word) (chosen_fits b q (word / 256))
    (spares_in b p q (word / 256) e (half_or_not (q / 4) p))

-- ---- a pin that is inverted

inverted_by : (hs : List ℕ) (p : ℕ) (v : Bool) → p / 32 < length hs
    → bit_at (if v then ones_clear hs (p / 32) (2 ^ (p % 32)) else ones_set hs (p / 32) (2 ^ (p % 32))) p ≡ not v
inverted_by hs p true within = bit_at-clear hs p (2 ^ (p % 32)) within (pow_below (p % 32) 32 (omega arith)) (has_bit-pow_same (p % 32))
inverted_by hs p false within = bit_at-set hs p (2 ^ (p % 32)) within (has_bit-pow_same (p % 32))

pub flip-named : (b : Pins) (p : ℕ) → p < 64 → length b.latches ≡ 2 → is_out b p ≡ true → latch (flip b p) p ≡ not (latch b p)
flip-named b p lt size out =
    let within : p / 32 < length b.latches = rw size (half_of_pin p lt) in
    rw out (inverted_by b.latches p (latch b p) within)

place_or_half : (p q : ℕ) → q ≢ p → (q / 32 ≢ p / 32) ⊎ (p % 32 ≢ q % 32)
place_or_half p q ne = grind arith

spares_flip : (p q : ℕ) → (q / 32 ≢ p / 32) ⊎ (p % 32 ≢ q % 32) → Spares p (q / 32) (2 ^ (q % 32))
spares_flip p q (inl far) = inl far
spares_flip p q (inr ne) = inr (has_bit-pow_other (q % 32) (p % 32) ne)

other_by : (hs : List ℕ) (p q : ℕ) (v : Bool) → Spares p (q / 32) (2 ^ (q % 32))
    → bit_at (if v then ones_clear hs (q / 32) (2 ^ (q % 32)) else ones_set hs (q / 32) (2 ^ (q % 32))) p ≡ bit_at hs p
other_by hs p q true s = clear-spared hs p (q / 32) (2 ^ (q % 32)) (pow_below (q % 32) 32 (omega arith)) (half_or_not (q / 32) p) s
other_by hs p q false s = set-spared hs p (q / 32) (2 ^ (q % 32)) (half_or_not (q / 32) p) s

either_latch : (b c : Pins) (p : ℕ) (v : Bool) → latch c p ≡ latch b p → latch (if v then c else b) p ≡ latch b p
either_latch b c p true e = e
either_latch b c p false e = refl

pub flip-other : (b : Pins) (p q : ℕ) → q ≢ p → latch (flip b q) p ≡ latch b p
flip-other b p q ne =
    either_latch b (record b { latches = inverted b.latches q }) p (is_out b q)
    (other_by b.latches p q (latch b q) (spares_flip p q (place_or_half p q ne)))

-- the latch of a pin that is in stays
pub flip-in : (b : Pins) (p q : ℕ) → is_out b p ≡ false → latch (flip b q) p ≡ latch b p
flip-in b p q e = elim (same_or_other q p) [
  | inl at ↦ rw (at, e) refl
  | inr ne ↦ flip-other b p q ne
]
