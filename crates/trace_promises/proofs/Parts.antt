-- A text that ends with a line, and what stands behind it, cut at their line feeds.
use Rattle.std.proofs.Common.{◌≡◌, ℕ, ◌==◌, List, [], ◌∷◌, ◌++◌, Bool, true, false, refl, ◌∙◌, ap, sym, append_assoc}
use Rattle.std.specs.Prelude.{All}
use Rattle.std.specs.List.{slice_split, onto_first, join_with_byte}
use Rattle.std.proofs.lemmas.List.Elements.{All-nil, All-cons}
use Rattle.std.proofs.lemmas.List.Splits.{slice_split_none, slice_split_at}
use Rattle.bench_script.proofs.Parts.{some_part}
use Rattle.bench_report.specs.Numbers.{Each}

-- the parts of a text between its line feeds
abbrev pub parts : List ℕ → List (List ℕ)
parts text = slice_split (λ b. b == 10) text

-- a part has no line feed
abbrev pub Feedless : List ℕ → Type 0
Feedless part = All (λ b. (b == 10) ≡ false) part

-- ---- a text behind a line feed

onto_more : (x : ℕ) (ps : List (List ℕ)) (qs : List (List ℕ)) (p : List ℕ) (more : List (List ℕ)) → ps ≡ p ∷ more → onto_first x (ps ++ qs) ≡ onto_first x ps ++ qs
onto_more x ps qs p more e = rw e refl

split_more : (x : ℕ) (xs ys : List ℕ) (b : Bool) → (x == 10) ≡ b → parts (xs ++ 10 ∷ ys) ≡ parts xs ++ parts ys → parts (x ∷ (xs ++ 10 ∷ ys)) ≡ parts (x ∷ xs) ++ parts ys
split_more x xs ys true e h = rw e (ap (λ (ps : List (List ℕ)). [] ∷ ps) h)
split_more x xs ys false e h = let s = some_part (λ b. b == 10) xs in rw e (ap (onto_first x) h ∙ onto_more x (parts xs) (parts ys) s.0 s.1 s.2)

pub split_both : (xs ys : List ℕ) → parts (xs ++ 10 ∷ ys) ≡ parts xs ++ parts ys
split_both [] ys = refl
split_both (x ∷ xs) ys = split_more x xs ys (x == 10) refl (split_both xs ys)

-- ---- parts without line feeds

onto_feedless : (x : ℕ) (ps : List (List ℕ)) → (x == 10) ≡ false → Each Feedless ps → Each Feedless (onto_first x ps)
onto_feedless x [] e h = (All-cons (λ b. (b == 10) ≡ false) x [] e (All-nil (λ b. (b == 10) ≡ false)), tt)
onto_feedless x (p ∷ ps) e h = (All-cons (λ b. (b == 10) ≡ false) x p e h.0, h.1)

feedless_more : (x : ℕ) (xs : List ℕ) (b : Bool) → (x == 10) ≡ b → Each Feedless (parts xs) → Each Feedless (parts (x ∷ xs))
feedless_more x xs true e h = rw e (All-nil (λ b. (b == 10) ≡ false), h)
feedless_more x xs false e h = rw e (onto_feedless x (parts xs) e h)

pub parts_feedless : (xs : List ℕ) → Each Feedless (parts xs)
parts_feedless [] = (All-nil (λ b. (b == 10) ≡ false), tt)
parts_feedless (x ∷ xs) = feedless_more x xs (x == 10) refl (parts_feedless xs)

-- they are the parts of the text that they make
pub parts_again : (p : List ℕ) (ps : List (List ℕ)) → Each Feedless (p ∷ ps) → parts (join_with_byte 10 (p ∷ ps)) ≡ p ∷ ps
parts_again p [] h = slice_split_none (λ b. b == 10) p h.0
parts_again p (q ∷ ps) h = slice_split_at (λ b. b == 10) p 10 (join_with_byte 10 (q ∷ ps)) h.0 refl ∙ ap (λ (rs : List (List ℕ)). p ∷ rs) (parts_again q ps h.1)

-- ---- parts before others

pub feedless_both : (ps qs : List (List ℕ)) → Each Feedless ps → Each Feedless qs → Each Feedless (ps ++ qs)
feedless_both [] qs h k = k
feedless_both (p ∷ ps) qs h k = (h.0, feedless_both ps qs h.1 k)

pub parts_with : (ps : List (List ℕ)) (q : List ℕ) (qs : List (List ℕ)) → Each Feedless ps → Each Feedless (q ∷ qs) → parts (join_with_byte 10 (ps ++ q ∷ qs)) ≡ ps ++ q ∷ qs
parts_with [] q qs h k = parts_again q qs k
parts_with (p ∷ ps) q qs h k = parts_again p (ps ++ q ∷ qs) (h.0, feedless_both ps (q ∷ qs) h.1 k)

-- the text of lines, and what stands behind it
line_before : (p : List ℕ) (ps qs : List (List ℕ)) (q : List ℕ) → join_with_byte 10 (ps ++ q ∷ qs) ≡ join_with_byte 10 (ps ++ [] ∷ []) ++ join_with_byte 10 (q ∷ qs) → join_with_byte 10 (p ∷ (ps ++ q ∷ qs)) ≡ join_with_byte 10 (p ∷ (ps ++ [] ∷ [])) ++ join_with_byte 10 (q ∷ qs)
line_before p [] qs q h = sym (append_assoc p (10 ∷ []) (join_with_byte 10 (q ∷ qs)))
line_before p (r ∷ ps) qs q h = ap (λ (t : List ℕ). p ++ 10 ∷ t) h ∙ sym (append_assoc p (10 ∷ join_with_byte 10 (r ∷ (ps ++ [] ∷ []))) (join_with_byte 10 (q ∷ qs)))

pub lines_before : (ps : List (List ℕ)) (q : List ℕ) (qs : List (List ℕ)) → join_with_byte 10 (ps ++ q ∷ qs) ≡ join_with_byte 10 (ps ++ [] ∷ []) ++ join_with_byte 10 (q ∷ qs)
lines_before [] q qs = refl
lines_before (p ∷ ps) q qs = line_before p ps qs q (lines_before ps q qs)
