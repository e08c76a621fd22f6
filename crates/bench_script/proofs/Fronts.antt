-- The services that a word may name, by its first letter and its length, and the keywords, by their first letter.
use Rattle.std.proofs.Common.{◌≡◌, ℕ, ◌+◌, ◌≤◌, ◌==◌, List, [], ◌∷◌, None, Bool, true, not, ap, length, refl, sym, ◌∙◌, arith, eq-eqb, get_or}
use Rattle.std.specs.Prelude.{◌&&◌}
use Rattle.std.specs.List.{filter}
use Rattle.std.proofs.lemmas.Bool.{and_from, not-true}
use Rattle.mcal_base.specs.facts.Truths.{and_first, and_second}
use Rattle.mcal_base.specs.Names.{service_text}
use Rattle.mcal_base.specs.declared.service.Service.{Service}
use Rattle.bench_script.specs.Scanned.{begins}
use Rattle.bench_script.specs.Words.{named, all_services, keyword_text, all_keywords}
use Rattle.bench_script.specs.declared.words.Keyword.{Keyword}
use Rattle.bench_script.proofs.Keywords.{alike}

-- those that begin so
under_letter : (letter : ℕ) (rest : List ℕ) → named service_text all_services (letter ∷ rest) ≡ named service_text (filter (λ s. begins (λ b. letter == b) (service_text s)) all_services) (letter ∷ rest)
under_letter letter rest = alike service_text (begins (λ b. letter == b)) all_services (letter ∷ rest) (eq-eqb letter letter refl)

so_long : (letter n : ℕ) (rest : List ℕ) → length rest + 1 ≡ n → (begins (λ b. letter == b) (letter ∷ rest) && n == length (letter ∷ rest)) ≡ true
so_long letter n rest e =
    let long : n ≡ length (letter ∷ rest) = omega arith in
    and_from _ _ (eq-eqb letter letter refl) (eq-eqb n (length (letter ∷ rest)) long)

pub of_length : (letter n : ℕ) (rest : List ℕ) → length rest + 1 ≡ n → named service_text (filter (λ s. begins (λ b. letter == b) (service_text s) && n == length (service_text s)) all_services) (letter ∷ rest) ≡ named service_text all_services (letter ∷ rest)
of_length letter n rest e = sym (alike service_text (λ w. begins (λ b. letter == b) w && n == length w) all_services (letter ∷ rest) (so_long letter n rest e))

-- where none passes a test none is left
abbrev pub none_pass : {T : Type 0} → (T → Bool) → List T → Bool
none_pass p [] = true
none_pass p (x ∷ xs) = not (p x) && none_pass p xs

none_left : {T : Type 0} (p : T → Bool) (xs : List T) → none_pass p xs ≡ true → filter p xs ≡ []
none_left p [] e = refl
none_left p (x ∷ xs) e = rw (not-true (p x) (and_first _ _ e)) (none_left p xs (and_second _ _ e))

none_named : (some : List Service) (word : List ℕ) → some ≡ [] → named service_text [] word ≡ named service_text some word
none_named some word e = ap (λ (ss : List Service). named service_text ss word) (sym e)

pub none_so_long : (letter n : ℕ) → none_pass (λ s. begins (λ b. letter == b) (service_text s) && n == length (service_text s)) all_services ≡ true → (rest : List ℕ) → length rest + 1 ≡ n → named service_text [] (letter ∷ rest) ≡ named service_text all_services (letter ∷ rest)
none_so_long letter n none rest e = none_named (filter (λ s. begins (λ b. letter == b) (service_text s) && n == length (service_text s)) all_services) (letter ∷ rest) (none_left (λ s. begins (λ b. letter == b) (service_text s) && n == length (service_text s)) all_services none) ∙ of_length letter n rest e

pub none_begin : (letter : ℕ) → none_pass (λ s. begins (λ b. letter == b) (service_text s)) all_services ≡ true → (rest : List ℕ) → named service_text [] (letter ∷ rest) ≡ named service_text all_services (letter ∷ rest)
none_begin letter none rest = none_named (filter (λ s. begins (λ b. letter == b) (service_text s)) all_services) (letter ∷ rest) (none_left (λ s. begins (λ b. letter == b) (service_text s)) all_services none) ∙ sym (under_letter letter rest)

-- what is found for a first letter and a length is found for the word
pub by_front : (some : List Service) (word : List ℕ) → 1 ≤ length word → ((rest : List ℕ) → length rest + 1 ≡ length word → named service_text some (get_or word 0 0 ∷ rest) ≡ named service_text all_services (get_or word 0 0 ∷ rest)) → named service_text some word ≡ named service_text all_services word
by_front some [] n h = absurd (omega (arith, n))
by_front some (b ∷ bs) n h = h bs (omega arith)

-- the keywords that begin as a word does
pub keyword_under : (letter : ℕ) (word : List ℕ) → begins (λ b. letter == b) word ≡ true → named keyword_text (filter (λ k. begins (λ b. letter == b) (keyword_text k)) all_keywords) word ≡ named keyword_text all_keywords word
keyword_under letter word t = sym (alike keyword_text (begins (λ b. letter == b)) all_keywords word t)

pub no_keyword : (letter : ℕ) (word : List ℕ) → none_pass (λ k. begins (λ b. letter == b) (keyword_text k)) all_keywords ≡ true → begins (λ b. letter == b) word ≡ true → None ≡ named keyword_text all_keywords word
no_keyword letter word none t = ap (λ (ks : List Keyword). named keyword_text ks word) (sym (none_left (λ k. begins (λ b. letter == b) (keyword_text k)) all_keywords none)) ∙ keyword_under letter word t

pub begins_so : (word : List ℕ) → 1 ≤ length word → begins (λ b. get_or word 0 0 == b) word ≡ true
begins_so [] n = absurd (omega (arith, n))
begins_so (b ∷ bs) n = eq-eqb b b refl
