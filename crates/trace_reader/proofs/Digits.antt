-- What the digits of a number are, and that they are read as it.
use Rattle.std.proofs.Common.{◌≡◌, ℕ, ◌+◌, ◌-◌, ◌*◌, ◌<◌, List, [], ◌∷◌, ◌++◌, length, Bool, true, false, Some, refl, ◌∙◌, ap, arith, rules}
use Rattle.std.specs.Prelude.{min, nat_lt, decimal, not, ◌==◌, ◌||◌, if◌then◌else◌}
use Rattle.std.specs.Char.{is_ascii_digit}
use Rattle.std.specs.Str.{all_ascii_digits}
use Rattle.std.proofs.lemmas.Bool.{and_parts}
use Rattle.std.proofs.lemmas.Bool.Decides.{nat_tests}
use Rattle.std.proofs.lemmas.Fmt.{digits_decimal, digits_value-decimal, decimal_nonempty}
use Rattle.std.proofs.lemmas.Str.Parse.{IsNumeralModel, numerals_by_fold}
use Rattle.trace_reader.specs.Numbers.{number_from, number}
use Rattle.bench_report.specs.Numbers.{IsNumber}

-- the number that digits give after a number
abbrev pub read_on : ℕ → List ℕ → ℕ
read_on n [] = n
read_on n (b ∷ bs) = read_on (n * 10 + (b - 48)) bs

own : IsNumeralModel (λ ds. all_ascii_digits ds ≡ true) (read_on 0)
own = numerals_by_fold _ (search rules) read_on (search rules)

pub digits_of : (n : ℕ) → IsNumber n → all_ascii_digits (decimal n) ≡ true
digits_of n h = digits_decimal own n (omega arith)

value_of : (n : ℕ) → IsNumber n → read_on 0 (decimal n) ≡ n
value_of n h = digits_value-decimal own n (omega arith)

pub some_digit : (n : ℕ) → IsNumber n → 0 < length (decimal n)
some_digit n h = decimal_nonempty n (omega arith)

small_lt : (m n : ℕ) → m ≡ min n 4294967296 → n < 4294967296 → nat_lt m 4294967296 ≡ true
small_lt m n e h = grind (arith, nat_tests)

small_same : (m n : ℕ) → m ≡ min n 4294967296 → n < 4294967296 → m ≡ n
small_same m n e h = omega arith

capped_next : (m n d : ℕ) → m ≡ min n 4294967296 → min (m * 10 + d) 4294967296 ≡ min (n * 10 + d) 4294967296
capped_next m n d e = omega arith

number_read : (ds : List ℕ) (n m : ℕ) → all_ascii_digits ds ≡ true → m ≡ min n 4294967296 → read_on n ds < 4294967296 → number_from m ds ≡ Some (read_on n ds)
number_read [] n m h e less = rw (small_lt m n e less) (ap (λ (k : ℕ). Some k) (small_same m n e less))
number_read (b ∷ bs) n m h e less =
    let parts = and_parts (is_ascii_digit b) (all_ascii_digits bs) h in
    rw parts.0 (number_read bs (n * 10 + (b - 48)) (min (m * 10 + (b - 48)) 4294967296) parts.1 (capped_next m n (b - 48) e) less)

-- a number is read as it is printed
pub number_again : (n : ℕ) → IsNumber n → number (decimal n) ≡ Some n
number_again n h =
    let v = value_of n h in
    let less : read_on 0 (decimal n) < 4294967296 = rw v h in
    number_read (decimal n) 0 0 (digits_of n h) refl less ∙ ap (λ (k : ℕ). Some k) v

-- no byte passes
abbrev pub none : (ℕ → Bool) → List ℕ → Bool
none p [] = true
none p (b ∷ bs) = if p b then false else none p bs

pub digits_none : (p : ℕ → Bool) → ((b : ℕ) → is_ascii_digit b ≡ true → p b ≡ false) → (ds : List ℕ) → all_ascii_digits ds ≡ true → none p ds ≡ true
digits_none p apart [] h = refl
digits_none p apart (b ∷ bs) h =
    let parts = and_parts (is_ascii_digit b) (all_ascii_digits bs) h in
    rw (apart b parts.0) (digits_none p apart bs parts.1)

-- none stands before what doesn't
none_append_case : (p : ℕ → Bool) (x : ℕ) (xs ys : List ℕ) (b : Bool) → p x ≡ b → (if b then false else none p xs) ≡ true → (none p xs ≡ true → none p (xs ++ ys) ≡ true) → none p (x ∷ (xs ++ ys)) ≡ true
none_append_case p x xs ys true e h ih = rw e h
none_append_case p x xs ys false e h ih = rw e (ih h)

pub none_append : (p : ℕ → Bool) (xs ys : List ℕ) → none p xs ≡ true → none p ys ≡ true → none p (xs ++ ys) ≡ true
none_append p [] ys h k = k
none_append p (x ∷ xs) ys h k = none_append_case p x xs ys (p x) refl h (λ g. none_append p xs ys g k)

not_space : (b : ℕ) → is_ascii_digit b ≡ true → (b == 32) ≡ false
not_space b h = grind (arith, nat_tests)

not_feed : (b : ℕ) → is_ascii_digit b ≡ true → (b == 10) ≡ false
not_feed b h = grind (arith, nat_tests)

not_blank : (b : ℕ) → is_ascii_digit b ≡ true → ((b == 32) || (b == 10)) ≡ false
not_blank b h = rw (not_space b h, not_feed b h) refl

not_stroke : (b : ℕ) → is_ascii_digit b ≡ true → (b == 47) ≡ false
not_stroke b h = grind (arith, nat_tests)

not_letter : (b : ℕ) → is_ascii_digit b ≡ true → not (is_ascii_digit b) ≡ false
not_letter b h = rw h refl

pub not_n : (b : ℕ) → is_ascii_digit b ≡ true → (b == 110) ≡ false
not_n b h = grind (arith, nat_tests)

pub no_space : (n : ℕ) → IsNumber n → none (λ b. b == 32) (decimal n) ≡ true
no_space n h = digits_none (λ b. b == 32) not_space (decimal n) (digits_of n h)

pub no_feed : (n : ℕ) → IsNumber n → none (λ b. b == 10) (decimal n) ≡ true
no_feed n h = digits_none (λ b. b == 10) not_feed (decimal n) (digits_of n h)

pub no_blank : (n : ℕ) → IsNumber n → none (λ b. (b == 32) || (b == 10)) (decimal n) ≡ true
no_blank n h = digits_none (λ b. (b == 32) || (b == 10)) not_blank (decimal n) (digits_of n h)

pub no_stroke : (n : ℕ) → IsNumber n → none (λ b. b == 47) (decimal n) ≡ true
no_stroke n h = digits_none (λ b. b == 47) not_stroke (decimal n) (digits_of n h)

pub no_letter : (n : ℕ) → IsNumber n → none (λ b. not (is_ascii_digit b)) (decimal n) ≡ true
no_letter n h = digits_none (λ b. not (is_ascii_digit b)) not_letter (decimal n) (digits_of n h)

-- the first byte passes, if there is one
abbrev pub starts : (ℕ → Bool) → List ℕ → Bool
starts p [] = true
starts p (b ∷ bs) = p b

starts_digits : (ds s : List ℕ) → 0 < length ds → all_ascii_digits ds ≡ true → starts is_ascii_digit (ds ++ s) ≡ true
starts_digits [] s some h = absurd (omega arith)
starts_digits (b ∷ bs) s some h = (and_parts (is_ascii_digit b) (all_ascii_digits bs) h).0

pub starts_number : (n : ℕ) (s : List ℕ) → IsNumber n → starts is_ascii_digit (decimal n ++ s) ≡ true
starts_number n s h = starts_digits (decimal n) s (some_digit n h) (digits_of n h)
