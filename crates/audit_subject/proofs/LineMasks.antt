-- Masks of the lines of which a test holds.
use Rattle.std.proofs.Common.{◌≡◌, ℕ, zero, suc, ◌+◌, ◌-◌, ◌*◌, ◌/◌, ◌%◌, ◌^◌, ◌<◌, ◌≤◌, Bool, true, false, ◌&&◌, ◌==◌, refl, sym, ◌∙◌, ap, subst, arith, add-one}
use Rattle.std.specs.Prelude.{bit_or}
use Rattle.std.proofs.Math.Nat.{lt-div-mul-add}
use Rattle.std.proofs.lemmas.Nat.{one_shl, or_comm, or_shifted, pow_pos}
use Rattle.mcal_base.specs.Bits.{has_bit, bit_of, bits_of}
use Rattle.mcal_base.specs.facts.Numbers.{eq_is}
use Rattle.mcal_base.proofs.BitLaws.{bits_of-lt, bits_of-zero, has_bit-bits_of, has_bit-zero}
use Rattle.audit_frames.proofs.MaskLaws.{bit_small}
use Rattle.audit_subject.specs.Lines.{lines_where}

next : (test : ℕ → Bool) (n : ℕ) → bits_of test (suc n) ≡ bit_of (test n) * 2 ^ n + bits_of test n
unfolding bits_of
next test n = refl

set : (test : ℕ → Bool) (n : ℕ) → test n ≡ true → bits_of test (n + 1) ≡ bit_or (bits_of test n) (2 ^ n)
set test n on =
    rw (add-one, next test n, on, or_comm (bits_of test n) (2 ^ n))
    (let shifted : bit_or (1 * 2 ^ n) (bits_of test n) ≡ 1 * 2 ^ n + bits_of test n = or_shifted 1 n (bits_of test n) (bits_of-lt test n) in
    let one : 1 * 2 ^ n ≡ 2 ^ n = omega arith in
    let joined = rw one at shifted in omega (arith, joined))

-- a loop over the lines marks those of which the test holds
pub marked : (test : ℕ → Bool) (n found : ℕ) → n < 64 → test n ≡ true → found ≡ bits_of test n → bit_or found (1 * 2 ^ n % 2 ^ 64) ≡ bits_of test (n + 1)
marked test n found lt on e = ap (λ b. bit_or found b) (one_shl n 64 lt) ∙ (ap (λ b. bit_or b (2 ^ n)) e ∙ sym (set test n on))

-- of no line that isn't asked for
pub none_asked : (asked : ℕ) (test : ℕ → Bool) (n : ℕ) → asked ≡ 0 → bits_of (λ l. has_bit asked l && test l) n ≡ 0
none_asked asked test zero none = bits_of-zero (λ l. has_bit asked l && test l)
none_asked asked test (suc n) none =
    let off : has_bit asked n && test n ≡ false = ap (λ b. b && test n) (ap (λ m. has_bit m n) none ∙ has_bit-zero n) in
    let rest = none_asked asked test n none in
    rw (next (λ l. has_bit asked l && test l) n, off, rest) (omega arith)

-- a mask whose bits from one on are none
pub below_shift : (asked line : ℕ) → asked / 2 ^ line == 0 ≡ true → asked < 2 ^ line
below_shift asked line none =
    let fits = subst (λ q. asked < q * 2 ^ line + 2 ^ line) (eq_is (asked / 2 ^ line) 0 none) (lt-div-mul-add (pow_pos line)) in
    omega (arith, fits)

-- nor of one behind the last that is asked for
ended_by : (test : ℕ → Bool) (n k : ℕ) → ((l : ℕ) → n ≤ l → test l ≡ false) → bits_of test (k + n) ≡ bits_of test n
ended_by test n zero off =
    let same : 0 + n ≡ n = omega arith in
    ap (λ m. bits_of test m) same
ended_by test n (suc k) off =
    let rest = ended_by test n k off in
    let none = off (k + n) (omega arith) in
    let one : suc k + n ≡ suc (k + n) = omega arith in
    ap (λ m. bits_of test m) one ∙ rw (next test (k + n), none) (omega (arith, rest))

pub ended : (test : ℕ → Bool) (n : ℕ) → n < 64 → ((l : ℕ) → n ≤ l → test l ≡ false) → bits_of test 64 ≡ bits_of test n
ended test n lt off =
    let all : (64 - n) + n ≡ 64 = omega arith in
    sym (ap (λ m. bits_of test m) all) ∙ ended_by test n (64 - n) off

-- a line that is asked for is among them exactly where the test holds of it
pub asked_line : (asked : ℕ) (test : ℕ → Bool) (l : ℕ) → asked < 2 ^ 64 → has_bit asked l ≡ true → has_bit (lines_where asked test) l ≡ test l
asked_line asked test l fits on = has_bit-bits_of (λ l. has_bit asked l && test l) 64 l (bit_small asked l fits on) ∙ ap (λ b. b && test l) on
