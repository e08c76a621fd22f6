-- What is known of driver words that are all 0. Nothing here computes the list.
use Rattle.std.proofs.Common.{◌≡◌, ℕ, ◌+◌, [], ◌++◌, length, take, get_or, replicate, refl, ◌∙◌, ap, ◌<◌, ◌≤◌, ◌⊎◌, inl, inr, arith}
use Rattle.std.specs.Prelude.{slice_index}
use Rattle.std.proofs.lemmas.List.{length-replicate, get_or-replicate, get_or_past, take-replicate, replicate-append-replicate}
use Rattle.mcal_base.specs.declared.TheConstants.{WORDS}
use Rattle.chip_model.specs.Words.{zeros, blank}

pub length-zeros : (n : ℕ) → length (zeros n) ≡ n
unfolding zeros
length-zeros n = length-replicate n 0

read_zeros : (n k : ℕ) → (k < n) ⊎ (n ≤ k) → ◌≡◌ {A = ℕ} (get_or (replicate n 0) k 0) 0
read_zeros n k (inl lt) = get_or-replicate n k 0 0 lt
read_zeros n k (inr le) = get_or_past (replicate n 0) k 0 (rw (length-replicate {A = ℕ} n 0) le)

within_or_past : (n k : ℕ) → (k < n) ⊎ (n ≤ k)
within_or_past n k = grind arith

pub index-replicate : (n k : ℕ) → ◌≡◌ {A = ℕ} (slice_index (replicate n 0) k) 0
index-replicate n k = read_zeros n k (within_or_past n k)

pub slice_index-zeros : (n k : ℕ) → slice_index (zeros n) k ≡ 0
unfolding zeros
slice_index-zeros n k = index-replicate n k

pub zeros-none : [] ≡ zeros 0
unfolding zeros
zeros-none = refl

-- zeros and the first ones of a block of zeros
pub zeros-more : (n m block : ℕ) → m ≤ block → zeros n ++ take m (zeros block) ≡ zeros (n + m)
unfolding zeros
zeros-more n m block le = ap (λ xs. replicate n 0 ++ xs) (take-replicate m block 0 le) ∙ replicate-append-replicate n m 0

pub blank-zeros : (n : ℕ) → n ≡ WORDS → zeros n ≡ blank
unfolding blank
blank-zeros n e = ap zeros e

-- there are as many as driver words, and each is 0
pub length-blank : length blank ≡ WORDS
unfolding blank
length-blank = length-zeros WORDS

pub slice_index-blank : (k : ℕ) → slice_index blank k ≡ 0
unfolding blank
slice_index-blank k = slice_index-zeros WORDS k
