-- What is kept of texts, and whether a report is too long.
use Rattle.std.proofs.Common.{◌≡◌, ℕ, ◌<◌, ◌≤◌, Bool, true, false, List, [], ◌∷◌, ◌++◌, refl, ap, sym, subst, ◌∙◌, cond, arith, Some, None, length}
use Rattle.std.proofs.lemmas.Bool.{ltb-true, ltb-false}
use Rattle.std.proofs.lemmas.Bool.Decides.{nat_tests}
use Rattle.std.proofs.lemmas.Grind.{flat_map-append}
use Rattle.std.proofs.lemmas.List.{length-append}
use Rattle.bench_report.specs.Limit.{most_bytes, is_too_long}
use Rattle.bench_report.specs.Pages.{fitting_text}
use Rattle.bench_report.specs.Shown.{joined, kept, push}

longer : (xs ys : List ℕ) → is_too_long xs ≡ true → is_too_long (xs ++ ys) ≡ true
longer xs ys h = let more = length-append xs ys in grind (arith, nat_tests)

push_by : (b : Bool) (texts : List (List ℕ)) (text : List ℕ) → is_too_long (joined texts) ≡ b → push (cond b None (Some texts)) text ≡ kept (texts ++ text ∷ [])
push_by true texts text h =
    let more : is_too_long (joined (texts ++ text ∷ [])) ≡ true = ap (λ t. is_too_long t) (flat_map-append (λ t. t) texts (text ∷ [])) ∙ longer (joined texts) (joined (text ∷ [])) h in
    rw more
push_by false texts text h = refl

-- one more text is kept beside those that are kept
pub push_kept : (texts : List (List ℕ)) (text : List ℕ) → push (kept texts) text ≡ kept (texts ++ text ∷ [])
push_kept texts text = push_by (is_too_long (joined texts)) texts text refl

kept_by : (b : Bool) (texts : List (List ℕ)) → is_too_long (joined texts) ≡ b → cond b None (Some texts) ≡ None → most_bytes < length (joined texts)
kept_by true texts h e = ltb-true most_bytes (length (joined texts)) h
kept_by false texts h e = cc

-- what isn't kept is too long
pub unkept : (texts : List (List ℕ)) → kept texts ≡ None → most_bytes < length (joined texts)
unkept texts e = kept_by (is_too_long (joined texts)) texts refl e

some_by : (b : Bool) (texts ts : List (List ℕ)) → cond b None (Some texts) ≡ Some ts → texts ≡ ts
some_by true texts ts e = cc
some_by false texts ts e = cc

-- what is kept is all
pub kept_all : (texts ts : List (List ℕ)) → kept texts ≡ Some ts → texts ≡ ts
kept_all texts ts e = some_by (is_too_long (joined texts)) texts ts e

text_by : (b : Bool) (r t : List ℕ) → is_too_long r ≡ b → cond b None (Some r) ≡ Some t → (t ≡ r) × (length t ≤ most_bytes)
text_by true r t h e = cc
text_by false r t h e = let same : r ≡ t = cc in (sym same, subst (λ (x : List ℕ). length x ≤ most_bytes) same (ltb-false most_bytes (length r) h))

-- a text that fits is the whole text
pub fits : (r t : List ℕ) → fitting_text r ≡ Some t → (t ≡ r) × (length t ≤ most_bytes)
fits r t e = text_by (is_too_long r) r t refl e

long_by : (b : Bool) (r : List ℕ) → is_too_long r ≡ b → cond b None (Some r) ≡ None → most_bytes < length r
long_by true r h e = ltb-true most_bytes (length r) h
long_by false r h e = cc

-- and one that doesn't is too long
pub too_long : (r : List ℕ) → fitting_text r ≡ None → most_bytes < length r
too_long r e = long_by (is_too_long r) r refl e
