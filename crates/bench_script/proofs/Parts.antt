-- The parts of a text between line feeds, and its words.
use Rattle.std.proofs.Common.{◌≡◌, ℕ, suc, ◌+◌, ◌≤◌, ◌<◌, ◌==◌, List, [], ◌∷◌, Some, None, Bool, true, false, not, length, take, drop, refl, subst, ◌∙◌, ap, arith, cond, ltb, ltb-true}
use Rattle.std.specs.List.{slice_split, onto_first, position, position_or_len, filter}
use Rattle.std.specs.Str.Lines.{lines, lines_of_parts, strip_carriage_return}
use Rattle.std.proofs.lemmas.List.Splits.{slice_split_first, slice_split-cons_no}
use Rattle.std.proofs.lemmas.Option.{cond_some}
use Rattle.std.proofs.lemmas.Bool.{ne_eqb}
use Rattle.std.proofs.lemmas.Bool.Decides.{nat_tests}

-- the place of the first byte that passes
pub record IsPlace (p : ℕ → Bool) (xs : List ℕ) (n : ℕ) : Type 0 where
  pub here : position_or_len p xs ≡ n
  pub within : position_or_len p xs < length xs

pub place_from : (p : ℕ → Bool) (xs : List ℕ) (n : ℕ) → position p xs ≡ Some n → IsPlace p xs n
place_from p xs n h =
    let f = cond_some (ltb (position_or_len p xs) (length xs)) (position_or_len p xs) n h in
    record { here = f.1; within = ltb-true _ _ f.0 }

none_above : (m k : ℕ) → cond (ltb m k) (Some m) None ≡ None → k ≤ m
none_above m k h = grind (arith, nat_tests)

pub no_place : (p : ℕ → Bool) (xs : List ℕ) → position p xs ≡ None → length xs ≤ position_or_len p xs
no_place p xs h = none_above (position_or_len p xs) (length xs) h

-- a text is cut at the first byte that passes
pub cut : (p : ℕ → Bool) (xs : List ℕ) (n : ℕ) → position p xs ≡ Some n → slice_split p xs ≡ take n xs ∷ slice_split p (drop (n + 1) xs)
cut p xs n h =
    let f = place_from p xs n h in
    subst (λ (k : ℕ). slice_split p xs ≡ take k xs ∷ slice_split p (drop (k + 1) xs)) f.here (slice_split_first p xs 0 f.within)

-- a text in which no byte passes is one part
uncut_more : (p : ℕ → Bool) (x : ℕ) (xs : List ℕ) (b : Bool) → p x ≡ b → length (x ∷ xs) ≤ position_or_len p (x ∷ xs) → (length xs ≤ position_or_len p xs → slice_split p xs ≡ xs ∷ []) → slice_split p (x ∷ xs) ≡ (x ∷ xs) ∷ []
uncut_more p x xs true e h ih = absurd (omega (arith, rw e at h))
uncut_more p x xs false e h ih = slice_split-cons_no p x xs e ∙ ap (onto_first x) (ih (omega (arith, rw e at h)))

uncut_above : (p : ℕ → Bool) (xs : List ℕ) → length xs ≤ position_or_len p xs → slice_split p xs ≡ xs ∷ []
uncut_above p [] h = refl
uncut_above p (x ∷ xs) h = uncut_more p x xs (p x) refl h (uncut_above p xs)

pub uncut : (p : ℕ → Bool) (xs : List ℕ) → position p xs ≡ None → slice_split p xs ≡ xs ∷ []
uncut p xs h = uncut_above p xs (no_place p xs h)

-- there is a first part
some_onto : (x : ℕ) (parts : List (List ℕ)) → (y : List ℕ) × (ys : List (List ℕ)) × (onto_first x parts ≡ y ∷ ys)
some_onto x [] = (x ∷ [], [], refl)
some_onto x (part ∷ parts) = (x ∷ part, parts, refl)

some_more : (x : ℕ) (parts : List (List ℕ)) (b : Bool) → (y : List ℕ) × (ys : List (List ℕ)) × (cond b ([] ∷ parts) (onto_first x parts) ≡ y ∷ ys)
some_more x parts true = ([], parts, refl)
some_more x parts false = some_onto x parts

pub some_part : (p : ℕ → Bool) (xs : List ℕ) → (y : List ℕ) × (ys : List (List ℕ)) × (slice_split p xs ≡ y ∷ ys)
some_part p [] = ([], [], refl)
some_part p (x ∷ xs) = some_more x (slice_split p xs) (p x)

-- the lines of a text with a line feed
pub first_line : (xs : List ℕ) (n : ℕ) → position (λ b. b == 10) xs ≡ Some n → lines xs ≡ strip_carriage_return (take n xs) ∷ lines (drop (n + 1) xs)
first_line xs n h =
    let s = some_part (λ b. b == 10) (drop (n + 1) xs) in
    ap lines_of_parts (cut (λ b. b == 10) xs n h) ∙ rw s.2

-- blanks at the front of a text are left out
one_more : (k x : ℕ) (xs : List ℕ) → drop (1 + k) (x ∷ xs) ≡ drop k xs
one_more k x xs = let e : 1 + k ≡ suc k = omega arith in ap (λ (n : ℕ). drop n (x ∷ xs)) e

-- a part that is no empty one is the first word
pub first_word : (y : ℕ) (ys : List ℕ) (parts : List (List ℕ)) → filter (λ (w : List ℕ). not (length w == 0)) ((y ∷ ys) ∷ parts) ≡ (y ∷ ys) ∷ filter (λ (w : List ℕ). not (length w == 0)) parts
first_word y ys parts = let e : (length (y ∷ ys) == 0) ≡ false = ne_eqb _ _ (λ (z : length (y ∷ ys) ≡ 0). omega arith) in rw e refl
