-- Masks of lines are compared as lines are, one by one.
use Rattle.std.proofs.Common.{◌≡◌, ◌≢◌, ◌⊎◌, inl, inr, ℕ, suc, ◌+◌, ◌*◌, ◌%◌, ◌^◌, ◌<◌, nat_lt, ◌≤◌, Bool, true, false, not, ◌&&◌, ◌||◌, ◌==◌, refl, sym, ◌∙◌, ap, arith, add-one, w64}
use Rattle.std.specs.Prelude.{bit_and, bit_or}
use Rattle.std.specs.Int.{bit_not}
use Rattle.std.proofs.lemmas.Nat.Bits.{bit_at_clear_same, bit_at_clear_other}
use Rattle.std.proofs.lemmas.Nat.{and_le_l, one_shl}
use Rattle.mcal_base.specs.Bits.{has_bit, bit_of, bits_of}
use Rattle.mcal_base.proofs.BitLaws.{has_bit-above, has_bit-bits_of, has_bit-bits_of_above, has_bit-or, has_bit-pow_other, has_bit-pow_same, has_bit-zero}
use Rattle.mcal_base.specs.facts.Numbers.{eq_is, eq_from, lt_from, same_or_other}
use Rattle.mcal_base.specs.facts.Truths.{if_true, off_on}
use Rattle.audit_frames.specs.Decides.{Decides}
use Rattle.audit_frames.specs.Masks.{includes, with_bit}
use Rattle.audit_frames.proofs.MaskLaws.{includes_says, includes_shows, same_bits}
use Rattle.audit_subject.proofs.LineMasks.{marked}
use Rattle.audit_whole.specs.Whole.{is_serial_line}

-- what isn't true is false
pub not_true : (b : Bool) → (b ≡ true → ⊥) → b ≡ false
not_true true h = absurd (h refl)
not_true false h = refl

-- and what isn't false is true
pub not_false : (b : Bool) → (b ≡ false → ⊥) → b ≡ true
not_false true h = refl
not_false false h = absurd (h refl)

below_or_above : (l : ℕ) → (l < 32) ⊎ (32 ≤ l)
below_or_above l = grind arith

-- a bit of the mask of a test's lines is one of 32, of which the test holds
bit_below : (test : ℕ → Bool) (l : ℕ) → has_bit (bits_of test 32) l ≡ true → l < 32
bit_below test l on = elim (below_or_above l) [
  | inl below ↦ below
  | inr above ↦ off_on (sym (has_bit-bits_of_above test 32 l above) ∙ on)
]

bit_holds : (test : ℕ → Bool) (l : ℕ) → has_bit (bits_of test 32) l ≡ true → test l ≡ true
bit_holds test l on = sym (has_bit-bits_of test 32 l (bit_below test l on)) ∙ on

-- and where the test holds of no greater line, a bit is set exactly where the test holds
bit_where : (test : ℕ → Bool) → ((l : ℕ) → test l ≡ true → l < 32) → (b : Bool) (l : ℕ) → test l ≡ b → has_bit (bits_of test 32) l ≡ b
bit_where test small true l e = has_bit-bits_of test 32 l (small l e) ∙ e
bit_where test small false l e = not_true _ (λ on. off_on (sym e ∙ bit_holds test l on))

pub bit_is : (test : ℕ → Bool) → ((l : ℕ) → test l ≡ true → l < 32) → (l : ℕ) → has_bit (bits_of test 32) l ≡ test l
bit_is test small l = bit_where test small (test l) l refl

-- ---- the lines that are asked: those that are used, and the serial units'

serial_by : (l : ℕ) (p q : Bool) → (l == 26) ≡ p → (l == 27) ≡ q → p || q ≡ true → has_bit 201326592 l ≡ true
serial_by l true q e f on = ap (λ k. has_bit 201326592 k) (eq_is l 26 e)
serial_by l false true e f on = ap (λ k. has_bit 201326592 k) (eq_is l 27 f)
serial_by l false false e f on = off_on on

one_of : (x y z : Bool) → (y ≡ true → z ≡ true) → x || y ≡ true → x || z ≡ true
one_of true y z f e = refl
one_of false y z f e = f e

-- a line that is one or the other is asked
pub line_asked : (lines : ℕ → Bool) (used : ℕ) → ((l : ℕ) → lines l ≡ true → l < 32) → used ≡ bits_of lines 32 → (l : ℕ) → lines l || is_serial_line l ≡ true → has_bit (bit_or used 201326592) l ≡ true
line_asked lines used small e l on =
    has_bit-or used 201326592 l
    ∙ (ap (λ b. b || has_bit 201326592 l) (ap (λ m. has_bit m l) e ∙ bit_is lines small l)
    ∙ one_of (lines l) (is_serial_line l) (has_bit 201326592 l) (serial_by l (l == 26) (l == 27) refl refl) on)

-- ---- a mask of which one bit is cleared

mask_or_above : (n : ℕ) → (n < 64) ⊎ (64 ≤ n)
mask_or_above n = grind arith

pub bit_cleared : (mask n : ℕ) → n < 64 → has_bit (bit_and mask (bit_not w64 (1 * 2 ^ n % 2 ^ 64))) n ≡ false
bit_cleared mask n within = ap (λ b. b == 1) (bit_at_clear_same w64 mask n within)

pub bits_kept : (mask n k : ℕ) → mask < 2 ^ 64 → n < 64 → k ≢ n → has_bit (bit_and mask (bit_not w64 (1 * 2 ^ n % 2 ^ 64))) k ≡ has_bit mask k
bits_kept mask n k fits within apart = elim (mask_or_above k) [
  | inl low ↦ ap (λ b. b == 1) (bit_at_clear_other w64 mask n within k low apart)
  | inr high ↦
      let less = and_le_l mask (bit_not w64 (1 * 2 ^ n % 2 ^ 64)) in
      has_bit-above (bit_and mask (bit_not w64 (1 * 2 ^ n % 2 ^ 64))) 64 k (omega (arith, less, fits)) high ∙ sym (has_bit-above mask 64 k fits high)
]

less_or_same : (a b : ℕ) → a ≤ b → (a < b) ⊎ (a ≡ b)
less_or_same a b le = grind (arith, le)

pub less_without : (mask n : ℕ) → n < 64 → has_bit mask n ≡ true → bit_and mask (bit_not w64 (1 * 2 ^ n % 2 ^ 64)) < mask
less_without mask n within on = elim (less_or_same (bit_and mask (bit_not w64 (1 * 2 ^ n % 2 ^ 64))) mask (and_le_l mask (bit_not w64 (1 * 2 ^ n % 2 ^ 64)))) [
  | inl less ↦ less
  | inr same ↦ off_on (sym (bit_cleared mask n within) ∙ (ap (λ m. has_bit m n) same ∙ on))
]

-- ---- lines of a test are found one by one, of a mask that has all of them

off_unless : (x y : Bool) → (x ≡ true → y ≡ true) → x && not y ≡ false
off_unless true y f = ap not (f refl)
off_unless false y f = refl

pub none_found : (test : ℕ → Bool) (asked k : ℕ) → (test k ≡ true → has_bit asked k ≡ true) → has_bit 0 k ≡ (test k && not (has_bit asked k))
none_found test asked k f = has_bit-zero k ∙ sym (off_unless (test k) (has_bit asked k) f)

and_off : (x y z : Bool) → x ≡ false → (x && not y) ≡ (x && not z)
and_off false y z e = refl
and_off true y z e = off_on (sym e)

-- one that isn't so
pub still_found : (test : ℕ → Bool) (left left2 n found : ℕ) → test n ≡ false → ((k : ℕ) → k ≢ n → has_bit left2 k ≡ has_bit left k)
    → ((k : ℕ) → has_bit found k ≡ (test k && not (has_bit left k))) → (k : ℕ) → has_bit found k ≡ (test k && not (has_bit left2 k))
still_found test left left2 n found off kept before k = elim (same_or_other k n) [
  | inl is ↦ before k ∙ and_off (test k) (has_bit left k) (has_bit left2 k) (ap test is ∙ off)
  | inr apart ↦ before k ∙ ap (λ b. test k && not b) (sym (kept k apart))
]

or_on : (x : Bool) → x || true ≡ true
or_on true = refl
or_on false = refl

or_off : (x : Bool) → x || false ≡ x
or_off true = refl
or_off false = refl

and_on : (x y : Bool) → x ≡ true → y ≡ false → x && not y ≡ true
and_on true y e f = ap not f
and_on false y e f = off_on e

marked_bit : (found n k : ℕ) → n < 64 → has_bit (with_bit found n) k ≡ (has_bit found k || has_bit (2 ^ n) k)
marked_bit found n k within = ap (λ m. has_bit m k) (if_true (nat_lt n 64) (bit_or found (2 ^ n)) found (lt_from n 64 within)) ∙ has_bit-or found (2 ^ n) k

-- one that is
pub line_found : (test : ℕ → Bool) (left left2 n found : ℕ) → test n ≡ true → n < 64 → has_bit left2 n ≡ false → ((k : ℕ) → k ≢ n → has_bit left2 k ≡ has_bit left k)
    → ((k : ℕ) → has_bit found k ≡ (test k && not (has_bit left k))) → (k : ℕ) → has_bit (with_bit found n) k ≡ (test k && not (has_bit left2 k))
line_found test left left2 n found on within clear kept before k = elim (same_or_other k n) [
  | inl is ↦ marked_bit found n k within ∙ (ap (λ b. has_bit found k || b) (ap (has_bit (2 ^ n)) is ∙ has_bit-pow_same n) ∙ (or_on (has_bit found k) ∙ sym (and_on (test k) (has_bit left2 k) (ap test is ∙ on) (ap (has_bit left2) is ∙ clear))))
  | inr apart ↦ marked_bit found n k within ∙ (ap (λ b. has_bit found k || b) (has_bit-pow_other n k apart) ∙ (or_off (has_bit found k) ∙ (before k ∙ ap (λ b. test k && not b) (sym (kept k apart)))))
]

and_all : (x y : Bool) → y ≡ false → x && not y ≡ x
and_all true y e = ap not e
and_all false y e = refl

-- and all of them
pub all_found : (test : ℕ → Bool) (left found : ℕ) → left ≡ 0 → ((l : ℕ) → test l ≡ true → l < 32) → ((k : ℕ) → has_bit found k ≡ (test k && not (has_bit left k))) → found ≡ bits_of test 32
all_found test left found none small found_so =
    same_bits found (bits_of test 32) (λ k. found_so k ∙ (and_all (test k) (has_bit left k) (ap (λ m. has_bit m k) none ∙ has_bit-zero k) ∙ sym (bit_is test small k)))

-- ---- a mask of the lines so far

next : (test : ℕ → Bool) (n : ℕ) → bits_of test (suc n) ≡ bit_of (test n) * 2 ^ n + bits_of test n
unfolding bits_of
next test n = refl

-- a line of which the test holds is marked
pub with_line : (test : ℕ → Bool) (n found : ℕ) → n < 64 → test n ≡ true → found ≡ bits_of test n → with_bit found n ≡ bits_of test (n + 1)
with_line test n found lt on e =
    if_true (nat_lt n 64) (bit_or found (2 ^ n)) found (lt_from n 64 lt) ∙ (sym (ap (λ b. bit_or found b) (one_shl n 64 lt)) ∙ marked test n found lt on e)

-- and another one isn't
pub without_line : (test : ℕ → Bool) (n found : ℕ) → test n ≡ false → found ≡ bits_of test n → found ≡ bits_of test (n + 1)
without_line test n found off e = rw (add-one, next test n, off) (omega (arith, e))

-- ---- masks of all lines

module _ (test seen : ℕ → Bool) (mask : ℕ) (same : (l : ℕ) → has_bit mask l ≡ seen l) (small : (l : ℕ) → test l ≡ true → l < 32) where
  -- each line of the test is seen
  pub each_seen : Decides (includes (bits_of test 32) mask) ((l : ℕ) → test l ≡ true → seen l ≡ true)
  each_seen = record {
    says = λ e l on. sym (same l) ∙ includes_says (bits_of test 32) mask e l (bit_is test small l ∙ on);
    shows = λ h. includes_shows (bits_of test 32) mask (λ l on. same l ∙ h l (bit_holds test l on));
  }

  -- no other line is seen
  pub none_else : Decides (includes mask (bits_of test 32)) ((l : ℕ) → test l ≡ false → seen l ≡ false)
  none_else = record {
    says = λ e l off. not_true (seen l) (λ on. off_on (sym off ∙ bit_holds test l (includes_says mask (bits_of test 32) e l (same l ∙ on))));
    shows = λ h. includes_shows mask (bits_of test 32) (λ l on. bit_is test small l ∙ not_false (test l) (λ off. off_on (sym (h l off) ∙ (sym (same l) ∙ on))));
  }

  -- exactly these lines are seen
  pub all_same : Decides (mask == bits_of test 32) ((l : ℕ) → seen l ≡ test l)
  all_same = record {
    says = λ e l. sym (same l) ∙ (ap (λ x. has_bit x l) (eq_is mask (bits_of test 32) e) ∙ bit_is test small l);
    shows = λ h. eq_from mask (bits_of test 32) (same_bits mask (bits_of test 32) (λ l. same l ∙ (h l ∙ sym (bit_is test small l))));
  }
