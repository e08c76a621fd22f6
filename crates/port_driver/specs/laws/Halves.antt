-- What a write by halves leaves of the bits of all pins, and what the four of a side leave.
-- Used by Init, Refresh, Pins, Guests, RefinementRight and 1 more.
use Rattle.std.proofs.Common.{◌≡◌, ◌≢◌, ◌+◌, ◌*◌, ◌/◌, ◌%◌, ◌<◌, ◌^◌, ◌==◌, ◌&&◌, ◌∙◌, if◌then◌else◌}
use Rattle.port_driver.specs.Terms
use Terms.{and_false, ap, arith, asks, bit_at, bit_at-clear, bit_at-set, bit_or, bits_of-lt, Bool, chosen, clear-spared}
use Terms.{false, has_bit, has_bit-bits_of, has_bit-pow_other, has_bit-pow_same, inl, inr, length, length-set, List}
use Terms.{nat_lt, nat_tests, None, ones, ones_clear, ones_set, Option, pow_below, put, refl, set-spared, sets}
use Terms.{slice_index, Some, subst, sym, true, turn, without, ℕ}

abbrev pub halves_after : (set : Bool) → List ℕ → (half bits : ℕ) → List ℕ
halves_after true hs half bits = ones_set hs half bits
halves_after false hs half bits = ones_clear hs half bits

pub length-after : (set : Bool) (hs : List ℕ) (half bits : ℕ) → length (halves_after set hs half bits) ≡ length hs
length-after true hs half bits = length-set hs half (bit_or (slice_index hs half) bits)
length-after false hs half bits = length-set hs half (without (slice_index hs half) bits)

half_within : (p n : ℕ) → n ≡ 2 → p < 64 → p / 32 < n
half_within p n e lt = omega (arith, e, lt)

touched : (set : Bool) (hs : List ℕ) (half bits p : ℕ) → length hs ≡ 2 → bits < 2 ^ 32 → p < 64 → half ≡ p / 32 → has_bit bits (p % 32) ≡ true → bit_at (halves_after set hs half bits) p ≡ set
touched true hs half bits p size fits lt at on = subst (λ k. bit_at (ones_set hs k bits) p ≡ true) (sym at) (bit_at-set hs p bits (half_within p (length hs) size lt) on)
touched false hs half bits p size fits lt at on = subst (λ k. bit_at (ones_clear hs k bits) p ≡ false) (sym at) (bit_at-clear hs p bits (half_within p (length hs) size lt) fits on)

spared_half : (set : Bool) (hs : List ℕ) (half bits p : ℕ) → bits < 2 ^ 32 → half ≢ p / 32 → bit_at (halves_after set hs half bits) p ≡ bit_at hs p
spared_half true hs half bits p fits ne = set-spared hs p half bits (inr ne) (inl ne)
spared_half false hs half bits p fits ne = clear-spared hs p half bits fits (inr ne) (inl ne)

spared_bit : (set : Bool) (hs : List ℕ) (half bits p : ℕ) → bits < 2 ^ 32 → half ≡ p / 32 → has_bit bits (p % 32) ≡ false → bit_at (halves_after set hs half bits) p ≡ bit_at hs p
spared_bit true hs half bits p fits at off = set-spared hs p half bits (inl at) (inr off)
spared_bit false hs half bits p fits at off = clear-spared hs p half bits fits (inl at) (inr off)

-- the bits of the half that are set in the value take it, and no other does
pub bit_after : (set : Bool) (hs : List ℕ) (half bits p : ℕ) → length hs ≡ 2 → bits < 2 ^ 32 → p < 64 → bit_at (halves_after set hs half bits) p ≡ chosen (half == p / 32 && has_bit bits (p % 32)) set (bit_at hs p)
bit_after set hs half bits p size fits lt = by (half == p / 32) refl (has_bit bits (p % 32)) refl
  where
    by : (q : Bool) → (half == p / 32) ≡ q → (r : Bool) → has_bit bits (p % 32) ≡ r → bit_at (halves_after set hs half bits) p ≡ chosen (q && r) set (bit_at hs p)
    by true e true f = touched set hs half bits p size fits lt (grind (arith, nat_tests)) f
    by true e false f = spared_bit set hs half bits p fits (grind (arith, nat_tests)) f
    by false e r f = spared_half set hs half bits p fits (grind (arith, nat_tests))

-- ---- one pin alone

single_bit : (p q : ℕ) → (p / 32 == q / 32 && has_bit (2 ^ (p % 32)) (q % 32)) ≡ (q == p)
single_bit p q = by (q == p) refl
  where
    other : q ≢ p → p / 32 ≡ q / 32 → q % 32 ≢ p % 32
    other ne e f = ne (omega (arith, e, f))

    apart : (r : Bool) → (p / 32 == q / 32) ≡ r → q ≢ p → r && has_bit (2 ^ (p % 32)) (q % 32) ≡ false
    apart true e ne = has_bit-pow_other (p % 32) (q % 32) (other ne (grind (arith, nat_tests)))
    apart false e ne = refl

    same : q ≡ p → (p / 32 == q / 32 && has_bit (2 ^ (p % 32)) (q % 32)) ≡ true
    same e = subst (λ k. (p / 32 == k / 32 && has_bit (2 ^ (p % 32)) (k % 32)) ≡ true) (sym e) (ap (λ b. (p / 32 == p / 32) && b) (has_bit-pow_same (p % 32)) ∙ grind (arith, nat_tests))

    by : (r : Bool) → (q == p) ≡ r → (p / 32 == q / 32 && has_bit (2 ^ (p % 32)) (q % 32)) ≡ r
    by true e = same (grind (arith, nat_tests))
    by false e = apart (p / 32 == q / 32) refl (grind (arith, nat_tests))

below_pow : (p : ℕ) → 2 ^ (p % 32) < 2 ^ 32
below_pow p = pow_below (p % 32) 32 (omega arith)

pub single_after : (set : Bool) (hs : List ℕ) (p q : ℕ) → length hs ≡ 2 → q < 64 → bit_at (halves_after set hs (p / 32) (2 ^ (p % 32))) q ≡ chosen (q == p) set (bit_at hs q)
single_after set hs p q size lt = bit_after set hs (p / 32) (2 ^ (p % 32)) q size (below_pow p) lt ∙ ap (λ b. chosen b set (bit_at hs q)) (single_bit p q)

-- ---- the four writes of a side

-- none of them is made, and all are
pub put_none : (want : Option Bool) (p : ℕ) (old : Bool) → put want p 0 old ≡ old
put_none None p old = refl
put_none (Some high) p old = ap (λ q. if q then high else old) (none (turn p high))
  where
    none : (k : ℕ) → nat_lt k 0 ≡ false
    none k = grind (arith, nat_tests)

abbrev pub put_all : Option Bool → Bool → Bool
put_all None old = old
put_all (Some high) old = high

pub put_whole : (want : Option Bool) (p : ℕ) (old : Bool) → p < 64 → put want p 4 old ≡ put_all want old
put_whole None p old lt = refl
put_whole (Some high) p old lt = ap (λ q. if q then high else old) (within high)
  where
    within : (b : Bool) → nat_lt (turn p b) 4 ≡ true
    within true = let e : 2 * (p / 32) + 0 < 4 = omega (arith, lt) in grind (arith, nat_tests)
    within false = let e : 2 * (p / 32) + 1 < 4 = omega (arith, lt) in grind (arith, nat_tests)

here_turn : (n k : ℕ) (set old : Bool) → nat_lt k (n + 1) ≡ true → set ≡ (if nat_lt k (n + 1) then set else old)
here_turn n k set old e = ap (λ q. if q then set else old) (sym e)

step_turn : (n k : ℕ) (high old : Bool) (it : Bool) → it ≡ (k == n) → chosen it high (if nat_lt k n then high else old) ≡ (if nat_lt k (n + 1) then high else old)
step_turn n k high old true e = let is : k ≡ n = grind (arith, nat_tests) in ap (λ q. if q then high else old) (sym (let lt : k < n + 1 = omega (arith, is) in yes k (n + 1) lt))
  where
    yes : (a b : ℕ) → a < b → nat_lt a b ≡ true
    yes a b lt = grind (arith, nat_tests)
step_turn n k high old false e = ap (λ q. if q then high else old) (let ne : k ≢ n = grind (arith, nat_tests) in same k n ne)
  where
    same : (a b : ℕ) → a ≢ b → nat_lt a b ≡ nat_lt a (b + 1)
    same a b ne = grind (arith, nat_tests)

-- the write that has the turn of a bit, by its half and by whether it sets
its_turn : (n p : ℕ) (high : Bool) → (n / 2 == p / 32 && asks (sets n) (Some high)) ≡ (turn p high == n)
its_turn n p high = by high (sets n) refl
  where
    by : (high q : Bool) → (n % 2 == 0) ≡ q → (n / 2 == p / 32 && asks q (Some high)) ≡ (turn p high == n)
    by true true e = grind (arith, nat_tests)
    by true false e = and_false (n / 2 == p / 32) ∙ grind (arith, nat_tests)
    by false true e = and_false (n / 2 == p / 32) ∙ grind (arith, nat_tests)
    by false false e = grind (arith, nat_tests)

-- and it writes what is wanted
its_value : (n : ℕ) (high it old : Bool) (half : Bool) → half && asks (sets n) (Some high) ≡ it → chosen it (sets n) old ≡ chosen it high old
its_value n high it old half e = by high (sets n) half it e
  where
    by : (high q half it : Bool) → half && asks q (Some high) ≡ it → chosen it q old ≡ chosen it high old
    by true true half it e = refl
    by false false half it e = refl
    by true false half true e = absurd (let f = sym (and_false half) ∙ e in cc)
    by true false half false e = refl
    by false true half true e = absurd (let f = sym (and_false half) ∙ e in cc)
    by false true half false e = refl

put_next : (want : Option Bool) (n p : ℕ) (old : Bool) → chosen (n / 2 == p / 32 && asks (sets n) want) (sets n) (put want p n old) ≡ put want p (n + 1) old
put_next None n p old = ap (λ q. chosen q (sets n) old) (and_false (n / 2 == p / 32))
put_next (Some high) n p old =
    let it = n / 2 == p / 32 && asks (sets n) (Some high) in
    its_value n high it (put (Some high) p n old) (n / 2 == p / 32) refl ∙ step_turn n (turn p high) high old it (its_turn n p high)

place_of_pin : (p : ℕ) → 32 * (p / 32) + p % 32 ≡ p
place_of_pin p = omega arith

-- the bits of a write are those of the pins that ask for it
pub asked_bit : (want : ℕ → Option Bool) (n p : ℕ) → (n / 2 == p / 32 && has_bit (ones want n) (p % 32)) ≡ (n / 2 == p / 32 && asks (sets n) (want p))
asked_bit want n p = by (n / 2 == p / 32) refl
  where
    within : p % 32 < 32
    within = omega arith

    by : (q : Bool) → (n / 2 == p / 32) ≡ q → q && has_bit (ones want n) (p % 32) ≡ q && asks (sets n) (want p)
    by true e =
        let at : n / 2 ≡ p / 32 = grind (arith, nat_tests) in
        has_bit-bits_of (λ k. asks (sets n) (want (32 * (n / 2) + k))) 32 (p % 32) within
        ∙ ap (λ k. asks (sets n) (want k)) (ap (λ j. 32 * j + p % 32) at ∙ place_of_pin p)
    by false e = refl

pub put_written : (want : ℕ → Option Bool) (hs : List ℕ) (n p : ℕ) (old : Bool) → length hs ≡ 2 → p < 64 → bit_at hs p ≡ put (want p) p n old → bit_at (halves_after (sets n) hs (n / 2) (ones want n)) p ≡ put (want p) p (n + 1) old
put_written want hs n p old size lt h =
    bit_after (sets n) hs (n / 2) (ones want n) p size (bits_of-lt (λ k. asks (sets n) (want (32 * (n / 2) + k))) 32) lt
    ∙ (ap (λ q. chosen q (sets n) (bit_at hs p)) (asked_bit want n p)
    ∙ (ap (λ b. chosen (n / 2 == p / 32 && asks (sets n) (want p)) (sets n) b) h ∙ put_next (want p) n p old))
