-- How many steps directives made, counted step by step.
use Rattle.std.proofs.Common.{◌≡◌, ℕ, ◌+◌, ◌<◌, ◌≤◌, ◌==◌, List, [], ◌∷◌, ◌++◌, Bool, true, false, cond, length, drop, take, get_or, replicate, min, zero, suc, refl, sym, ap, ap₂, inl, inr, ◌∙◌, arith, eq-eqb, eqb-true}
use Rattle.std.specs.Prelude.{count_by, slice_set}
use Rattle.std.proofs.lemmas.Bool.Decides.{leb_tells}
use Rattle.std.proofs.lemmas.List.{drop_all, take_more}
use Rattle.std.proofs.lemmas.List.Sums.{sum_by_push}
use Rattle.sweep_trials.specs.declared.seen.StepSeen.{StepSeen}
use Rattle.sweep_trials.specs.Counts.{counts, counts_from, steps_on, with_step, with_step_at}

pub drop_least : {X : Type 0} (n : ℕ) (xs : List X) → drop (min n (length xs)) xs ≡ drop n xs
drop_least n xs =
    elim (leb_tells n (length xs)) [
      | inl h ↦ let e : min n (length xs) ≡ n = omega (arith, h.1) in ap (λ k. drop k xs) e
      | inr h ↦ drop_all (min n (length xs)) xs (omega (arith, h.1)) ∙ sym (drop_all n xs (omega (arith, h.1)))
    ]

pub step_there : (ns : List ℕ) (i n : ℕ) → i < length ns → n ≡ get_or ns i 0 → with_step_at i ns ≡ slice_set ns i (min (n + 1) 4294967295)
step_there [] i n l e = absurd (omega (arith, l))
step_there (m ∷ ms) zero n l e = ap (λ k. min (k + 1) 4294967295 ∷ ms) (sym e)
step_there (m ∷ ms) (suc i) n l e = ap (λ zs. m ∷ zs) (step_there ms i n (omega (arith, l)) e)

pub step_past : (ns : List ℕ) (i : ℕ) → length ns ≤ i → with_step_at i ns ≡ ns
step_past [] i l = refl
step_past (m ∷ ms) zero l = absurd (omega (arith, l))
step_past (m ∷ ms) (suc i) l = ap (λ zs. m ∷ zs) (step_past ms i (omega (arith, l)))

abbrev one : Bool → ℕ
one b = cond b 1 0

count_push : (line : ℕ) (seen : List StepSeen) (s : StepSeen) → count_by (λ x. x.line == line) (seen ++ s ∷ []) ≡ count_by (λ x. x.line == line) seen + one (s.line == line)
count_push line seen s = sum_by_push (λ (x : StepSeen). cond (x.line == line) 1 0) seen s

steps_more : (line : ℕ) (seen : List StepSeen) (s : StepSeen) → s.line ≡ line → steps_on line (seen ++ s ∷ []) ≡ min (steps_on line seen + 1) 4294967295
steps_more line seen s e =
    let c : one (s.line == line) ≡ 1 = ap one (eq-eqb s.line line e) in
    omega (arith, count_push line seen s, c)

not_one : (a b : ℕ) (c : Bool) → (a == b) ≡ c → (a ≡ b → ⊥) → one (a == b) ≡ 0
not_one a b true e n = absurd (n (eqb-true a b e))
not_one a b false e n = ap one e

steps_same : (line : ℕ) (seen : List StepSeen) (s : StepSeen) → (s.line ≡ line → ⊥) → steps_on line (seen ++ s ∷ []) ≡ steps_on line seen
steps_same line seen s n = omega (arith, count_push line seen s, not_one s.line line (s.line == line) refl n)

counts_none : (line n : ℕ) → counts_from line n [] ≡ replicate n 0
counts_none line zero = refl
counts_none line (suc n) = ap (λ zs. 0 ∷ zs) (counts_none (line + 1) n)

counts_above : (line n : ℕ) (seen : List StepSeen) (s : StepSeen) → s.line < line → counts_from line n (seen ++ s ∷ []) ≡ counts_from line n seen
counts_above line zero seen s l = refl
counts_above line (suc n) seen s l = ap₂ (λ (z : ℕ) (zs : List ℕ). z ∷ zs) (steps_same line seen s (λ e. omega (arith, l, e))) (counts_above (line + 1) n seen s (omega (arith, l)))

counts_push : (line n : ℕ) (seen : List StepSeen) (s : StepSeen) (place : ℕ) → s.line ≡ line + place → counts_from line n (seen ++ s ∷ []) ≡ with_step_at place (counts_from line n seen)
counts_push line zero seen s place e = refl
counts_push line (suc n) seen s zero e = ap₂ (λ (z : ℕ) (zs : List ℕ). z ∷ zs) (steps_more line seen s (omega (arith, e))) (counts_above (line + 1) n seen s (omega (arith, e)))
counts_push line (suc n) seen s (suc place) e = ap₂ (λ (z : ℕ) (zs : List ℕ). z ∷ zs) (steps_same line seen s (λ h. omega (arith, e, h))) (counts_push (line + 1) n seen s place (omega (arith, e)))

counted : (n : ℕ) (seen : List StepSeen) (s : StepSeen) (line : ℕ) → s.line ≡ line → counts n (seen ++ s ∷ []) ≡ with_step line (counts n seen)
counted n seen s zero e = counts_above 1 n seen s (omega (arith, e))
counted n seen s (suc place) e = counts_push 1 n seen s place (omega (arith, e))

pub counts_more : (n : ℕ) (seen : List StepSeen) (i : ℕ) (d : StepSeen) → i < length seen → counts n (take (i + 1) seen) ≡ with_step (get_or seen i d).line (counts n (take i seen))
counts_more n seen i d l = ap (λ (xs : List StepSeen). counts n xs) (take_more seen i d l) ∙ counted n (take i seen) (get_or seen i d) (get_or seen i d).line refl

pub none_counted : (n : ℕ) → counts n [] ≡ replicate n 0
none_counted n = counts_none 1 n

pub counted_next : (n : ℕ) (seen : List StepSeen) (i : ℕ) (d : StepSeen) (steps next : List ℕ) → i < length seen → next ≡ with_step (get_or seen i d).line steps → steps ≡ counts n (take i seen) → next ≡ counts n (take (i + 1) seen)
counted_next n seen i d steps next l e f = e ∙ ap (λ ns. with_step (get_or seen i d).line ns) f ∙ sym (counts_more n seen i d l)
