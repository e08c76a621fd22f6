-- The words of jobs, one after another.
use Rattle.std.proofs.Common.{◌≡◌, ℕ, ◌+◌, ◌*◌, ◌^◌, ◌<◌, ◌≤◌, List, [], ◌∷◌, ◌++◌, length, sym, ap, ◌∙◌, arith, le_refl, subst, ◌-◌, append_assoc, drop, map, mod-eq_of_lt, slice_index_or}
use Rattle.std.proofs.lemmas.List.{drop_all, drop_more}
use Rattle.std.proofs.lemmas.Nat.{mul-le, pow-add, pow_pos}
use Rattle.std.specs.List.{enumerate_from}
use Rattle.spi_machine.specs.Transfers.{Goes, JobWord, masked}

-- a word of 32 bits stays as it is in a width that isn't less
pub masked_wide : (width word : ℕ) → 32 ≤ width → word < 2 ^ 32 → word ≡ masked width word
masked_wide width word le small = sym (mod-eq_of_lt (by (width - 32) (omega (arith, le))))
  where
    more : (m p : ℕ) → word < m → 0 < p → word < m * p
    more m p lt pos = omega (arith, lt, mul-le m 1 m p (le_refl m) pos)

    by : (j : ℕ) → width ≡ 32 + j → word < 2 ^ width
    by j e = subst (λ n. word < n) (sym (ap (λ n. 2 ^ n) e ∙ pow-add 2 32 j)) (more (2 ^ 32) (2 ^ j) small (pow_pos j))

-- the words of a channel from a place on
abbrev pub words_from_place : (channel width : ℕ) → Goes → (place : ℕ) → List ℕ → List JobWord
words_from_place c w g k vs = map (λ p. record { channel = c; place = p.0; width = w; sent = masked w p.1; goes = g }) (enumerate_from k vs)

pub next_word : (c w : ℕ) (g : Goes) (k : ℕ) (vs : List ℕ) → k < length vs
    → words_from_place c w g k (drop k vs) ≡ record { channel = c; place = k; width = w; sent = masked w (slice_index_or vs k 0); goes = g } ∷ words_from_place c w g (k + 1) (drop (k + 1) vs)
next_word c w g k vs lt = ap (words_from_place c w g k) (drop_more vs k 0 lt)

pub no_further : (c w : ℕ) (g : Goes) (k : ℕ) (vs : List ℕ) → length vs ≤ k → words_from_place c w g k (drop k vs) ≡ []
no_further c w g k vs le = ap (words_from_place c w g k) (drop_all k vs le)

-- one more is stored of what is left
pub one_stored : {A : Type 0} (xs ys rest all : List A) (x : A) → ys ≡ xs ++ x ∷ [] → all ≡ xs ++ (x ∷ rest) → ys ++ rest ≡ all
one_stored xs ys rest all x e is = ap (λ zs. zs ++ rest) e ∙ (append_assoc xs (x ∷ []) rest ∙ sym is)
