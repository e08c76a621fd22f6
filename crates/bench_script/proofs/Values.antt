-- Numerals whose value is capped while it is read.
use Rattle.std.proofs.Common.{◌≡◌, ℕ, zero, suc, ◌+◌, ◌*◌, ◌<◌, List, [], ◌∷◌, Option, Some, None, length, drop, get_or, refl, ◌∙◌, ap, arith, add-one, drop-cons, ⊎_elim}
use Rattle.std.specs.Prelude.{option_map, min}
use Rattle.std.proofs.lemmas.Bool.{cases_eq}
use Rattle.bench_script.specs.Numbers.{digit, digits_after, capped}

-- one more digit after numbers that are equal, or both past the cap
capped_apart : (a b base d : ℕ) → (a ≡ b → ⊥) → capped a ≡ capped b → capped (a * suc base + d) ≡ capped (b * suc base + d)
capped_apart a b base d apart e = omega arith

capped_more : (a b base d : ℕ) → 0 < base → capped a ≡ capped b → capped (a * base + d) ≡ capped (b * base + d)
capped_more a b zero d some e = absurd (omega arith)
capped_more a b (suc base) d some e = ⊎_elim (λ (h : a ≡ b). ap (λ (n : ℕ). capped (n * suc base + d)) h) (λ (h : a ≡ b → ⊥). capped_apart a b base d h e) (cases_eq a b)

-- what follows gives the same
capped_rest : (base a b : ℕ) (bs : List ℕ) (o : Option ℕ) → 0 < base → capped a ≡ capped b → ((x y : ℕ) → capped x ≡ capped y → option_map capped (digits_after base (Some x) bs) ≡ option_map capped (digits_after base (Some y) bs)) → option_map capped (digits_after base (option_map (λ d. a * base + d) o) bs) ≡ option_map capped (digits_after base (option_map (λ d. b * base + d) o) bs)
capped_rest base a b bs None some e rest = refl
capped_rest base a b bs (Some d) some e rest = rest (a * base + d) (b * base + d) (capped_more a b base d some e)

capped_after : (base a b : ℕ) (bs : List ℕ) → 0 < base → capped a ≡ capped b → option_map capped (digits_after base (Some a) bs) ≡ option_map capped (digits_after base (Some b) bs)
capped_after base a b [] some e = ap (λ (n : ℕ). Some n) e
capped_after base a b (x ∷ bs) some e = capped_rest base a b bs (digit base x) some e (λ y z h. capped_after base y z bs some h)

-- one digit is read
pub digits_step : (base n m d i : ℕ) (word : List ℕ) → 0 < base → i < length word → digit base (get_or word i 0) ≡ Some d → m ≡ min (n * base + d) 4294967296 → option_map capped (digits_after base (Some n) (drop i word)) ≡ option_map capped (digits_after base (Some m) (drop (i + 1) word))
digits_step base n m d i word some within here e =
    let same : capped (n * base + d) ≡ capped m = omega arith in
    rw (add-one, drop-cons word i 0 within) (ap (λ (o : Option ℕ). option_map capped (digits_after base (option_map (λ k. n * base + k) o) (drop (suc i) word))) here ∙ capped_after base (n * base + d) m (drop (suc i) word) some same)
