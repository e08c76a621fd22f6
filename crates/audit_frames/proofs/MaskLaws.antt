-- The bits of masks, and lists of lines.
use Rattle.std.proofs.Common.{◌≡◌, ◌≢◌, ◌⊎◌, inl, inr, ℕ, ◌<◌, ◌≤◌, ◌^◌, Bool, true, false, ◌&&◌, ◌||◌, ◌==◌, List, [], ◌∷◌, refl, sym, ◌∙◌, ap, subst, arith}
use Rattle.std.specs.Prelude.{bit_and, bit_or, if◌then◌else◌}
use Rattle.std.specs.Int.{bit_at}
use Rattle.std.specs.List.{list_any, list_all}
use Rattle.std.proofs.lemmas.Nat.Bits.{bit_at-lt, same_from_bits}
use Rattle.mcal_base.proofs.BitLaws.{has_bit-above, has_bit-and, has_bit-or, has_bit-pow_same, has_bit-pow_other}
use Rattle.mcal_base.specs.Bits.{has_bit}
use Rattle.mcal_base.specs.facts.Numbers.{eq_from, eq_is, eq_other, eq_self, lt_from, same_or_other}
use Rattle.mcal_base.specs.facts.Truths.{and_first, and_second, off_on, on_off}
use Rattle.run_model.specs.Legal.{has_line}
use Rattle.audit_frames.specs.Decides.{Decides}
use Rattle.audit_frames.specs.Masks.{with_bit, with_bits, has_any, includes}
use Rattle.audit_frames.proofs.Deciding.{and_join, or_left, or_right, or_turned}

low_or_high : (n : ℕ) → (n < 64) ⊎ (64 ≤ n)
low_or_high n = grind arith

-- a mask has no bit from 64 on
pub bit_small : (mask n : ℕ) → mask < 2 ^ 64 → has_bit mask n ≡ true → n < 64
bit_small mask n fits on = elim (low_or_high n) [
  | inl low ↦ low
  | inr high ↦ off_on (sym (has_bit-above mask 64 n fits high) ∙ on)
]

-- ---- one more bit, and bits of numbers

pub with_bit_is : (mask n : ℕ) → n < 64 → with_bit mask n ≡ bit_or mask (2 ^ n)
with_bit_is mask n lt = ap (λ b. if b then bit_or mask (2 ^ n) else mask) (lt_from n 64 lt)

pow_bit : (n k : ℕ) → has_bit (2 ^ n) k ≡ (n == k)
pow_bit n k = elim (same_or_other k n) [
  | inl same ↦ ap (λ j. has_bit (2 ^ n) j) same ∙ (has_bit-pow_same n ∙ sym (eq_from n k (sym same)))
  | inr other ↦ has_bit-pow_other n k other ∙ sym (eq_other n k (λ e. other (sym e)))
]

pub with_bit_bits : (mask n k : ℕ) → n < 64 → has_bit (with_bit mask n) k ≡ (n == k || has_bit mask k)
with_bit_bits mask n k lt =
    ap (λ m. has_bit m k) (with_bit_is mask n lt)
    ∙ (has_bit-or mask (2 ^ n) k
    ∙ (ap (λ b. has_bit mask k || b) (pow_bit n k)
    ∙ or_turned (has_bit mask k) (n == k)))

or_twice : (a b c : Bool) → c || (a || b) ≡ (a || c || b)
or_twice true b true = refl
or_twice true b false = refl
or_twice false b true = refl
or_twice false b false = refl

pub with_bits_bits : (mask : ℕ) (ns : List ℕ) (k : ℕ) → ((n : ℕ) → has_line ns n ≡ true → n < 64) → has_bit (with_bits mask ns) k ≡ (has_line ns k || has_bit mask k)
with_bits_bits mask [] k small = refl
with_bits_bits mask (n ∷ ns) k small =
    with_bits_bits (with_bit mask n) ns k (λ x h. small x (or_right (n == x) (has_line ns x) h))
    ∙ (ap (λ b. has_line ns k || b) (with_bit_bits mask n k (small n (or_left (n == n) (has_line ns n) (eq_self n))))
    ∙ or_twice (n == k) (has_bit mask k) (has_line ns k))

pub has_any_is : (mask : ℕ) (p : ℕ → Bool) (ns : List ℕ) → ((n : ℕ) → has_bit mask n ≡ p n) → has_any mask ns ≡ list_any p ns
has_any_is mask p [] same = refl
has_any_is mask p (n ∷ ns) same = ap (λ b. b || has_any mask ns) (same n) ∙ ap (λ b. p n || b) (has_any_is mask p ns same)

-- ---- masks that cover masks

zero_or_one : (a : ℕ) → a < 2 → (a ≡ 0) ⊎ (a ≡ 1)
zero_or_one a h = grind arith

zero_one : (a : ℕ) → a ≡ 0 → a ≢ 1
zero_one a e x = absurd (omega (arith, e, x))

bit_is : (a b : ℕ) → a < 2 → b < 2 → (a == 1) ≡ (b == 1) → a ≡ b
bit_is a b ha hb e = elim (zero_or_one a ha) [
  | inl a0 ↦ elim (zero_or_one b hb) [
    | inl b0 ↦ a0 ∙ sym b0
    | inr b1 ↦ off_on (sym (eq_other a 1 (zero_one a a0)) ∙ (e ∙ eq_from b 1 b1))
  ]
  | inr a1 ↦ elim (zero_or_one b hb) [
    | inl b0 ↦ on_off (sym (eq_from a 1 a1) ∙ (e ∙ eq_other b 1 (zero_one b b0)))
    | inr b1 ↦ a1 ∙ sym b1
  ]
]

-- masks of the same bits are the same
pub same_bits : (a b : ℕ) → ((k : ℕ) → has_bit a k ≡ has_bit b k) → a ≡ b
same_bits a b same = same_from_bits a b (λ k. bit_is (bit_at a k) (bit_at b k) (bit_at-lt a k) (bit_at-lt b k) (same k))

and_kept : (a b : Bool) → (a ≡ true → b ≡ true) → a && b ≡ a
and_kept true b h = h refl
and_kept false b h = refl

pub includes_says : (need have : ℕ) → includes need have ≡ true → (k : ℕ) → has_bit need k ≡ true → has_bit have k ≡ true
includes_says need have e k on =
    let same : bit_and need have ≡ need = eq_is (bit_and need have) need e in
    and_second (has_bit need k) (has_bit have k) (sym (has_bit-and need have k) ∙ (ap (λ m. has_bit m k) same ∙ on))

pub includes_shows : (need have : ℕ) → ((k : ℕ) → has_bit need k ≡ true → has_bit have k ≡ true) → includes need have ≡ true
includes_shows need have h =
    eq_from (bit_and need have) need (same_bits (bit_and need have) need (λ k. has_bit-and need have k ∙ and_kept (has_bit need k) (has_bit have k) (h k)))

-- ---- lists of lines

line_cases : (p : ℕ → Bool) (n k : ℕ) (b rest : Bool) → p n ≡ true → (rest ≡ true → p k ≡ true) → (n == k) ≡ b → b || rest ≡ true → p k ≡ true
line_cases p n k true rest first later e on = subst (λ x. p x ≡ true) (eq_is n k e) first
line_cases p n k false rest first later e on = later on

-- what a test says of all it says of each
pub all_says : (p : ℕ → Bool) (ns : List ℕ) → list_all p ns ≡ true → (k : ℕ) → has_line ns k ≡ true → p k ≡ true
all_says p [] h k on = off_on on
all_says p (n ∷ ns) h k on = line_cases p n k (n == k) (has_line ns k) (and_first (p n) (list_all p ns) h) (all_says p ns (and_second (p n) (list_all p ns) h) k) refl on

pub all_shows : (p : ℕ → Bool) (ns : List ℕ) → ((k : ℕ) → has_line ns k ≡ true → p k ≡ true) → list_all p ns ≡ true
all_shows p [] h = refl
all_shows p (n ∷ ns) h = and_join (p n) (list_all p ns) (h n (or_left (n == n) (has_line ns n) (eq_self n))) (all_shows p ns (λ k on. h k (or_right (n == k) (has_line ns k) on)))

-- a mask of lines is covered exactly where a test holds of each, which the other mask tells of these lines
pub covering : (need have : ℕ) (p : ℕ → Bool) (ns : List ℕ) → ((k : ℕ) → has_bit need k ≡ has_line ns k) → ((k : ℕ) → has_line ns k ≡ true → has_bit have k ≡ p k) → Decides (includes need have) (list_all p ns ≡ true)
covering need have p ns lines tells = record {
  says = λ e. all_shows p ns (λ k on. sym (tells k on) ∙ includes_says need have e k (lines k ∙ on));
  shows = λ h. includes_shows need have (λ k on. let there : has_line ns k ≡ true = sym (lines k) ∙ on in tells k there ∙ all_says p ns h k there);
}
