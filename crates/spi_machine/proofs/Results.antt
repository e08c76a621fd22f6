-- Results of jobs that are given, and lists in which no number stands twice.
use Rattle.std.proofs.Common.{◌≡◌, ℕ, zero, suc, false, ◌==◌, ◌≢◌, List, [], ◌∷◌, Some, drop, slice_get, slice_index_or, refl, ◌∙◌, arith}
use Rattle.std.specs.List.{list_any}
use Rattle.std.proofs.lemmas.Bool.Decides.{nat_tests}
use Rattle.std.proofs.lemmas.Bool.{or_parts}
use Rattle.mcal_base.specs.declared.answer_name.AnswerName.{AnswerName}
use Rattle.mcal_base.specs.declared.answer_name.AnswerName.TheVariants.{SpiJobOk}
use Rattle.spi_machine.proofs.Numbers.{item-same, item-other}
use Rattle.spi_machine.specs.Promised.{repeats}
use Rattle.spi_machine.specs.Numbered.{with_item}
use Rattle.spi_machine.specs.Pending.{with_results, job_result}

-- ---- no number stands twice

pub not_later : (xs : List ℕ) (n : ℕ) → repeats xs ≡ false → list_any (λ j. j == slice_index_or xs n 0) (drop (suc n) xs) ≡ false
not_later [] n h = refl
not_later (x ∷ xs) zero h = (or_parts (list_any (λ m. m == x) xs) (repeats xs) h).0
not_later (x ∷ xs) (suc n) h = not_later xs n (or_parts (list_any (λ m. m == x) xs) (repeats xs) h).1

pub repeats-drop : (n : ℕ) (xs : List ℕ) → repeats xs ≡ false → repeats (drop n xs) ≡ false
repeats-drop zero xs h = h
repeats-drop (suc n) [] h = h
repeats-drop (suc n) (x ∷ xs) h = repeats-drop n xs (or_parts (list_any (λ m. m == x) xs) (repeats xs) h).1

-- ---- results

pub results-other : (js : List ℕ) (xs rs : List AnswerName) (j : ℕ) → list_any (λ k. k == j) js ≡ false → job_result (with_results js xs rs) j ≡ job_result rs j
results-other [] xs rs j h = refl
results-other (k ∷ js) [] rs j h = refl
results-other (k ∷ js) (x ∷ xs) rs j h =
    let parts = or_parts (k == j) (list_any (λ k. k == j) js) h in
    results-other js xs (with_item SpiJobOk rs k x) j parts.1 ∙ item-other SpiJobOk rs k j x (differ k j parts.0)
  where
    differ : (k j : ℕ) → (k == j) ≡ false → j ≢ k
    differ k j h = grind (arith, nat_tests)

-- each job has the result at its own place
pub results-own : (js : List ℕ) (xs rs : List AnswerName) (n j : ℕ) (x : AnswerName) → repeats js ≡ false → slice_get js n ≡ Some j → slice_get xs n ≡ Some x
    → job_result (with_results js xs rs) j ≡ x
results-own [] xs rs n j x h a b = absurd (cc a)
results-own (k ∷ js) [] rs n j x h a b = absurd (cc b)
results-own (k ∷ js) (y ∷ ys) rs zero j x h a b =
    let e : k ≡ j = cc a in
    let f : y ≡ x = cc b in
    rw (← e, ← f) (results-other js ys (with_item SpiJobOk rs k y) k (or_parts (list_any (λ m. m == k) js) (repeats js) h).0 ∙ item-same SpiJobOk rs k y)
results-own (k ∷ js) (y ∷ ys) rs (suc n) j x h a b =
    results-own js ys (with_item SpiJobOk rs k y) n j x (or_parts (list_any (λ m. m == k) js) (repeats js) h).1 a b
