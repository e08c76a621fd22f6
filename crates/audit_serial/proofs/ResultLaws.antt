-- The results of jobs, set one after another.
use Rattle.std.proofs.Common.{◌≡◌, ℕ, ◌+◌, ◌<◌, ◌≤◌, List, [], ◌∷◌, length, refl, sym, ap, ◌∙◌, arith, drop, get_or, inl, inr, min, ◌⊎◌}
use Rattle.std.proofs.lemmas.List.{drop_all, drop_more}
use Rattle.mcal_base.specs.declared.answer_name.AnswerName.{AnswerName}
use Rattle.mcal_base.specs.declared.answer_name.AnswerName.TheVariants.{SpiJobOk}
use Rattle.spi_machine.specs.Numbered.{with_item}
use Rattle.spi_machine.specs.Pending.{all_get, with_results}

pub one_gets : (x : AnswerName) (k : ℕ) (js : List ℕ) (rs : List AnswerName) (d : ℕ) → k < length js
    → all_get x (drop k js) rs ≡ all_get x (drop (k + 1) js) (with_item SpiJobOk rs (get_or js k d) x)
one_gets x k js rs d lt = ap (λ zs. all_get x zs rs) (drop_more js k d lt)

pub all_got : (x : AnswerName) (k : ℕ) (js : List ℕ) (rs : List AnswerName) → length js ≤ k → all_get x (drop k js) rs ≡ rs
all_got x k js rs le = ap (λ zs. all_get x zs rs) (drop_all k js le)

pub one_given : (k : ℕ) (js : List ℕ) (xs rs : List AnswerName) (d : ℕ) (e : AnswerName) → k < length js → k < length xs
    → with_results (drop k js) (drop k xs) rs ≡ with_results (drop (k + 1) js) (drop (k + 1) xs) (with_item SpiJobOk rs (get_or js k d) (get_or xs k e))
one_given k js xs rs d e lt small =
    ap (λ zs. with_results zs (drop k xs) rs) (drop_more js k d lt)
    ∙ ap (λ zs. with_results (get_or js k d ∷ drop (k + 1) js) zs rs) (drop_more xs k e small)

no_results : (js : List ℕ) (rs : List AnswerName) → with_results js [] rs ≡ rs
no_results [] rs = refl
no_results (j ∷ js) rs = refl

pub none_given : (k : ℕ) (js : List ℕ) (xs rs : List AnswerName) → min (length js) (length xs) ≤ k → with_results (drop k js) (drop k xs) rs ≡ rs
none_given k js xs rs le = by (le_or k (length js) (length xs) le)
  where
    le_or : (k a b : ℕ) → min a b ≤ k → (a ≤ k) ⊎ (b ≤ k)
    le_or k a b le = grind arith

    by : (length js ≤ k) ⊎ (length xs ≤ k) → with_results (drop k js) (drop k xs) rs ≡ rs
    by (inl le) = ap (λ zs. with_results zs (drop k xs) rs) (drop_all k js le)
    by (inr le) = ap (λ zs. with_results (drop k js) zs rs) (drop_all k xs le) ∙ no_results (drop k js) rs

-- from a place on that is past the end of one of them, as from that end
pub given_from : (k n : ℕ) (js : List ℕ) (xs rs : List AnswerName) → n ≡ min (length js) (length xs) → with_results (drop (min k n) js) (drop (min k n) xs) rs ≡ with_results (drop k js) (drop k xs) rs
given_from k n js xs rs e = by (k_or k n)
  where
    k_or : (k n : ℕ) → (min k n ≡ k) ⊎ ((min k n ≡ n) × (n ≤ k))
    k_or k n = grind arith

    by : (min k n ≡ k) ⊎ ((min k n ≡ n) × (n ≤ k)) → with_results (drop (min k n) js) (drop (min k n) xs) rs ≡ with_results (drop k js) (drop k xs) rs
    by (inl same) = ap (λ m. with_results (drop m js) (drop m xs) rs) same
    by (inr h) = none_given (min k n) js xs rs (omega (arith, h.0, e)) ∙ sym (none_given k js xs rs (omega (arith, h.1, e)))
