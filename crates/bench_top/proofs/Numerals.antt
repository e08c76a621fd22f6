-- The number that a word of decimal digits writes.
use Rattle.std.proofs.Common.{◌≡◌, ℕ, ◌^◌, ◌<◌, ◌≤◌, Bool, true, false, List, [], ◌∷◌, refl, ap, sym, subst, ◌∙◌, arith, Some, None, Err}
use Rattle.std.specs.Prelude.{◌==◌, ◌&&◌, slice_index}
use Rattle.std.specs.List.{list_all}
use Rattle.std.specs.Char.{is_digit}
use Rattle.std.specs.Str.Parse.{AllDigits, IsNumeral, ParsesUnsigned, digits_value, without_leading_plus}
use Rattle.std.proofs.lemmas.Bool.Decides.{nat_tests}
use Rattle.bench_top.specs.Words.{is_decimal, is_between, number_between}

no_plus : (bs : List ℕ) → (slice_index bs 0 == 43) ≡ false → without_leading_plus bs ≡ bs
no_plus bs e = rw e refl

are_digits : (bs : List ℕ) → AllDigits 10 bs → list_all (λ c. is_digit c 10) bs ≡ true
are_digits [] h = refl
are_digits (b ∷ bs) h = let low = h.0 in let first : is_digit b 10 ≡ true = grind (arith, nat_tests, low) in rw first (are_digits bs h.1)

digits_by : (b : ℕ) (bs : List ℕ) (t : Bool) → is_digit b 10 ≡ t → t && list_all (λ c. is_digit c 10) bs ≡ true → (list_all (λ c. is_digit c 10) bs ≡ true → AllDigits 10 bs) → AllDigits 10 (b ∷ bs)
digits_by b bs true e h more = (grind (arith, nat_tests, e), more h)
digits_by b bs false e h more = cc

digits_are : (bs : List ℕ) → list_all (λ c. is_digit c 10) bs ≡ true → AllDigits 10 bs
digits_are [] h = tt
digits_are (b ∷ bs) h = digits_by b bs (is_digit b 10) refl h (λ rest. digits_are bs rest)

numeral_is : (bs : List ℕ) → IsNumeral 10 bs → is_decimal bs ≡ true
numeral_is [] h = let some = h.0 in absurd (omega (arith, some))
numeral_is (b ∷ bs) h = are_digits (b ∷ bs) h.1

is_numeral : (bs : List ℕ) → is_decimal bs ≡ true → IsNumeral 10 bs
is_numeral [] h = cc
is_numeral (b ∷ bs) h = (omega arith, digits_are (b ∷ bs) h)

-- what was read of a word
pub number_read : (least most : ℕ) (bs : List ℕ) (n : ℕ) → (slice_index bs 0 == 43) ≡ false → IsNumeral 10 (without_leading_plus bs) → n ≡ digits_value 10 (without_leading_plus bs) → least ≤ n → n ≤ most →
    Some n ≡ number_between least most bs
number_read least most bs n plus h is low high =
    let same = no_plus bs plus in
    let numeral = subst (λ (ws : List ℕ). IsNumeral 10 ws) same h in
    let value : n ≡ digits_value 10 bs = is ∙ ap (λ ws. digits_value 10 ws) same in
    let inside : is_between least most n ≡ true = grind (arith, nat_tests, low, high) in
    let range : is_between least most (digits_value 10 bs) ≡ true = sym (ap (λ k. is_between least most k) value) ∙ inside in
    rw (numeral_is bs numeral, range) (ap (λ k. Some k) value)

none_by : (least most : ℕ) (bs : List ℕ) (t u : Bool) → most ≤ 4294967295 → is_decimal bs ≡ t → is_between least most (digits_value 10 bs) ≡ u → (IsNumeral 10 bs × (digits_value 10 bs < 2 ^ 64) → ⊥) →
    None ≡ number_between least most bs
none_by least most bs false u few e f h = rw e refl
none_by least most bs true false few e f h = rw (e, f) refl
none_by least most bs true true few e f h = let low : digits_value 10 bs ≤ most = grind (arith, nat_tests, f) in absurd (h (is_numeral bs e, omega (arith, low, few)))

pub none_read : (E : Type 0) (least most : ℕ) (bs : List ℕ) (e : E) → most ≤ 4294967295 → (slice_index bs 0 == 43) ≡ false → ParsesUnsigned 64 10 bs (Err e) → None ≡ number_between least most bs
none_read E least most bs e few plus h =
    let same = no_plus bs plus in
    none_by least most bs (is_decimal bs) (is_between least most (digits_value 10 bs)) few refl refl (λ both. h (subst (λ (ws : List ℕ). IsNumeral 10 ws × (digits_value 10 ws < 2 ^ 64)) (sym same) both))
