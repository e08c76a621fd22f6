-- What is known of the bits of a register's value.
use Rattle.std.proofs.Common.{◌≡◌, ℕ, zero, suc, ◌+◌, ◌-◌, ◌*◌, ◌/◌, ◌%◌, ◌^◌, ◌<◌, ◌≤◌, ◌≢◌, min, max, Bool, true, false, not, ◌&&◌, ◌||◌, ◌==◌, List, length, get_or, refl, sym, ◌∙◌, ap, arith, add-one, lit<, inl, inr, ◌⊎◌, set, zero-add, length-set, get_or-set_same, get_or-set_other}
use Rattle.std.specs.Prelude.{bit_and, bit_or, if◌then◌else◌}
use Rattle.std.specs.Int.{bit_at}
use Rattle.std.specs.List.{enumerate_from}
use Rattle.std.proofs.lemmas.Bool.Decides.{nat_tests}
use Rattle.std.proofs.lemmas.Nat.Bits.{bit_at_and, bit_at_or, bit_at-lt, bit_at-zero, bit_at-pow_same, bit_at-pow_other, bit_at_above, bit_at_not, bit_at_cat_low, bit_at_cat_high}
use Rattle.std.proofs.lemmas.List.{ext_get_or, get_or-map, length-map}
use Rattle.std.proofs.lemmas.List.FromFn.{length-enumerate_from, get_or-enumerate_from}
use Rattle.std.proofs.lemmas.Nat.{one_shl, or_comm, or_shifted}
use Rattle.std.proofs.Math.Nat.{pow-succ'}
use Rattle.std.specs.Int.{w32}
use Rattle.mcal_base.specs.Bits.{has_bit, without, bit_of, bits_of, at_bits}

bit_or_test : (a b : ℕ) → a < 2 → b < 2 → (max a b == 1) ≡ (a == 1 || b == 1)
bit_or_test a b ha hb = grind (arith, nat_tests)

bit_and_test : (a b : ℕ) → a < 2 → b < 2 → (min a b == 1) ≡ (a == 1 && b == 1)
bit_and_test a b ha hb = grind (arith, nat_tests)

-- no bit of 0 is set
pub has_bit-zero : (k : ℕ) → has_bit 0 k ≡ false
has_bit-zero k = ap (λ n. n == 1) (bit_at-zero k)

-- a bit of either
pub has_bit-or : (a b k : ℕ) → has_bit (bit_or a b) k ≡ (has_bit a k || has_bit b k)
has_bit-or a b k = ap (λ n. n == 1) (bit_at_or a b k) ∙ bit_or_test (bit_at a k) (bit_at b k) (bit_at-lt a k) (bit_at-lt b k)

-- a bit of both
pub has_bit-and : (a b k : ℕ) → has_bit (bit_and a b) k ≡ (has_bit a k && has_bit b k)
has_bit-and a b k = ap (λ n. n == 1) (bit_at_and a b k) ∙ bit_and_test (bit_at a k) (bit_at b k) (bit_at-lt a k) (bit_at-lt b k)

-- bit k of 2 ^ k, and of a value that has no such bit
pub has_bit-pow_same : (k : ℕ) → has_bit (2 ^ k) k ≡ true
has_bit-pow_same k = ap (λ n. n == 1) (bit_at-pow_same k)

pub has_bit-pow_other : (k i : ℕ) → i ≢ k → has_bit (2 ^ k) i ≡ false
has_bit-pow_other k i ne = ap (λ n. n == 1) (bit_at-pow_other k i ne)

pub has_bit-above : (n k i : ℕ) → n < 2 ^ k → k ≤ i → has_bit n i ≡ false
has_bit-above n k i fits le = ap (λ n. n == 1) (bit_at_above n k i fits le)

-- of 1 << c, as code computes it
pub one_shifted : (c : ℕ) → c < 32 → 1 * 2 ^ c % 2 ^ 32 ≡ 2 ^ c
one_shifted c lt = one_shl c 32 lt

-- a bit of what is left when bits were cleared
bit_not_test : (a b : ℕ) → b < 2 → (a == 1 && (1 - b) == 1) ≡ (a == 1 && not (b == 1))
bit_not_test a b hb = grind (arith, nat_tests)

pub has_bit-without : (value bits k : ℕ) → bits < 2 ^ 32 → k < 32 → has_bit (without value bits) k ≡ (has_bit value k && not (has_bit bits k))
has_bit-without value bits k fits lt =
    has_bit-and value (2 ^ 32 - 1 - bits) k
    ∙ ap (λ n. has_bit value k && n == 1) (bit_at_not w32 bits k fits lt)
    ∙ bit_not_test (bit_at value k) (bit_at bits k) (bit_at-lt bits k)

-- ---- values made of tests

bits_of-suc : (test : ℕ → Bool) (n : ℕ) → bits_of test (suc n) ≡ bit_of (test n) * 2 ^ n + bits_of test n
unfolding bits_of
bits_of-suc test n = refl

bit_of_below : (b : Bool) (p r : ℕ) → r < p → bit_of b * p + r < p + p
bit_of_below true p r lt = omega arith
bit_of_below false p r lt = omega arith

pub bits_of-lt : (test : ℕ → Bool) (n : ℕ) → bits_of test n < 2 ^ n
unfolding bits_of
bits_of-lt test zero = lit< tt
bits_of-lt test (suc n) =
    rw (pow-succ' 2 n) (let below : bit_of (test n) * 2 ^ n + bits_of test n < 2 ^ n + 2 ^ n = bit_of_below (test n) (2 ^ n) (bits_of test n) (bits_of-lt test n) in omega arith)

-- one more bit, clear or set
pub bits_of-clear : (test : ℕ → Bool) (n : ℕ) → test n ≡ false → bits_of test (n + 1) ≡ bits_of test n
bits_of-clear test n off = rw (add-one, bits_of-suc test n, off) (omega arith)

pub bits_of-set : (test : ℕ → Bool) (n : ℕ) → test n ≡ true → n < 32 → bits_of test (n + 1) ≡ bit_or (bits_of test n) (1 * 2 ^ n % 2 ^ 32)
bits_of-set test n on lt =
    rw (add-one, bits_of-suc test n, on, one_shifted n lt, or_comm (bits_of test n) (2 ^ n))
    (let shifted : bit_or (1 * 2 ^ n) (bits_of test n) ≡ 1 * 2 ^ n + bits_of test n = or_shifted 1 n (bits_of test n) (bits_of-lt test n) in
    let one : 1 * 2 ^ n ≡ 2 ^ n = omega arith in
    let joined = rw one at shifted in omega (arith, joined))

pub bits_of-zero : (test : ℕ → Bool) → bits_of test 0 ≡ 0
unfolding bits_of
bits_of-zero test = refl

-- a loop over the bits marks those whose test holds
pub bits_of-marked : (test : ℕ → Bool) (n bits : ℕ) → n < 32 → test n ≡ true → bits ≡ bits_of test n → bit_or bits (1 * 2 ^ n % 2 ^ 32) ≡ bits_of test (n + 1)
bits_of-marked test n bits lt on e = rw e (sym (bits_of-set test n on lt))

pub bits_of-left : (test : ℕ → Bool) (n bits : ℕ) → test n ≡ false → bits ≡ bits_of test n → bits ≡ bits_of test (n + 1)
bits_of-left test n bits off e = e ∙ sym (bits_of-clear test n off)

-- what each bit is
pub has_bit-bits_of_above : (test : ℕ → Bool) (n k : ℕ) → n ≤ k → has_bit (bits_of test n) k ≡ false
has_bit-bits_of_above test n k le = has_bit-above (bits_of test n) n k (bits_of-lt test n) le

below_or_at : (k n : ℕ) → k < suc n → (k < n) ⊎ (k ≡ n)
below_or_at k n lt = grind arith

below_or_at' : (k n : ℕ) → k < n + 1 → (k < n) ⊎ (k ≡ n)
below_or_at' k n lt = grind arith

sub_self : (n : ℕ) → n - n ≡ 0
sub_self n = omega arith

bit_of_is : (b : Bool) → (bit_of b / 2 ^ 0 % 2 == 1) ≡ b
bit_of_is true = refl
bit_of_is false = refl

pub has_bit-bits_of : (test : ℕ → Bool) (n k : ℕ) → k < n → has_bit (bits_of test n) k ≡ test k
has_bit-bits_of test zero k lt = absurd (omega arith)
has_bit-bits_of test (suc n) k lt =
    rw (bits_of-suc test n)
    (elim (below_or_at k n lt) [
      | inl below ↦ ap (λ b. b == 1) (bit_at_cat_low (bit_of (test n)) n (bits_of test n) k below) ∙ has_bit-bits_of test n k below
      | inr at ↦
          rw at
          (ap (λ b. b == 1) (bit_at_cat_high (bit_of (test n)) n (bits_of test n) n (bits_of-lt test n) (omega arith))
          ∙ rw (sub_self n) (bit_of_is (test n)))
    ])

-- ---- lists changed by bits

pub length-at_bits : {T : Type 0} (change : ℕ → T → T) (value : ℕ) (xs : List T) → length (at_bits change value xs) ≡ length xs
unfolding at_bits
length-at_bits {T} change value xs =
    let f : (ℕ × T) → T = λ p. if has_bit value p.0 then change p.0 p.1 else p.1 in
    length-map (enumerate_from 0 xs) f ∙ length-enumerate_from 0 xs

pub get_or-at_bits : {T : Type 0} (change : ℕ → T → T) (value : ℕ) (xs : List T) (k : ℕ) (d : T) → k < length xs
    → get_or (at_bits change value xs) k d ≡ (if has_bit value k then change k (get_or xs k d) else get_or xs k d)
unfolding at_bits
get_or-at_bits {T} change value xs k d lt =
    let f : (ℕ × T) → T = λ p. if has_bit value p.0 then change p.0 p.1 else p.1 in
    let within : k < length (enumerate_from 0 xs) = rw (length-enumerate_from 0 xs) lt in
    get_or-map f (enumerate_from 0 xs) k (0, d) d within
    ∙ ap f (get_or-enumerate_from 0 xs k (0, d) lt)
    ∙ ap (λ i. if has_bit value i then change i (get_or xs k d) else get_or xs k d) (zero-add k)

-- what a loop over the places has made of the list: those below n are done
pub record DoneBelow {T : Type 0} (change : ℕ → T → T) (value n : ℕ) (d : T) (old new : List T) : Type 0 where
  pub size : length new ≡ length old
  pub done : (k : ℕ) → k < n → k < length old → get_or new k d ≡ (if has_bit value k then change k (get_or old k d) else get_or old k d)
  pub rest : (k : ℕ) → n ≤ k → get_or new k d ≡ get_or old k d

pub DoneBelow-none : {T : Type 0} (change : ℕ → T → T) (value : ℕ) (d : T) (xs : List T) → DoneBelow change value 0 d xs xs
DoneBelow-none change value d xs = record { size = refl; done = λ k lt _. absurd (omega arith); rest = λ k _. refl }

-- the place n has no bit
pub DoneBelow-skip : {T : Type 0} (change : ℕ → T → T) (value n : ℕ) (d : T) (old new : List T)
    → has_bit value n ≡ false → DoneBelow change value n d old new → DoneBelow change value (n + 1) d old new
DoneBelow-skip {T} change value n d old new off h = record {
  size = h.size;
  done = λ k lt within. elim (below_or_at' k n lt) [
    | inl below ↦ h.done k below within
    | inr at ↦ rw (at, off) (h.rest n (omega arith))
  ];
  rest = λ k le. h.rest k (omega arith);
}

-- the place n has one
pub DoneBelow-set : {T : Type 0} (change : ℕ → T → T) (value n : ℕ) (d : T) (old new : List T)
    → n < length old → has_bit value n ≡ true → DoneBelow change value n d old new
    → DoneBelow change value (n + 1) d old (set new n (change n (get_or new n d)))
DoneBelow-set {T} change value n d old new lt on h =
    let within : n < length new = rw h.size lt in
    record {
      size = length-set new n (change n (get_or new n d)) ∙ h.size;
      done = λ k below inside. elim (below_or_at' k n below) [
        | inl less ↦ let ne : k ≢ n = omega arith in get_or-set_other new n k (change n (get_or new n d)) d ne ∙ h.done k less inside
        | inr at ↦ rw (at, on) (get_or-set_same new n (change n (get_or new n d)) d within ∙ ap (change n) (h.rest n (omega arith)))
      ];
      rest = λ k le. let ne : k ≢ n = omega arith in get_or-set_other new n k (change n (get_or new n d)) d ne ∙ h.rest k (omega arith);
    }

pub DoneBelow-all : {T : Type 0} (change : ℕ → T → T) (value n : ℕ) (d : T) (old new : List T)
    → length old ≡ n → DoneBelow change value n d old new → new ≡ at_bits change value old
DoneBelow-all change value n d old new size h =
    ext_get_or d new (at_bits change value old) (h.size ∙ sym (length-at_bits change value old))
    (λ k lt. let inside : k < length old = rw (← h.size) lt in
    let below : k < n = rw (← size) inside in
    h.done k below inside ∙ sym (get_or-at_bits change value old k d inside))
