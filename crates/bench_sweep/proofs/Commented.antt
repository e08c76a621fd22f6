-- A script in which lines are made comments, line by line.
use Rattle.std.proofs.Common.{◌≡◌, ℕ, ◌+◌, ◌-◌, ◌<◌, ◌≤◌, ◌==◌, List, [], ◌∷◌, ◌++◌, Some, None, Bool, true, false, length, take, drop, zero, suc, refl, subst, sym, ap, ◌∙◌, arith, append_assoc, cond, ltb, ltb-true, add-one, length-take, length-drop}
use Rattle.std.specs.Prelude.{map}
use Rattle.std.specs.List.{join_with_byte, onto_first, position, position_or_len, slice_split}
use Rattle.std.proofs.lemmas.List.Splits.{slice_split_first, slice_split-cons_no}
use Rattle.std.proofs.lemmas.Option.{cond_some}
use Rattle.bench_sweep.specs.Reactions.{is_of_sweep, kept_line, without_marks}
use Rattle.bench_sweep.proofs.Lining.{is_feed, none_above, take_rest}

-- an empty line is not of a sweep
pub empty_kept : kept_line [] ≡ []
empty_kept = refl

pub sweep_kept : (b : ℕ) (bs : List ℕ) → is_of_sweep (b ∷ bs) ≡ true → kept_line (b ∷ bs) ≡ 35 ∷ bs
sweep_kept b bs e = rw e refl

-- there is a first part
some_onto : (x : ℕ) (parts : List (List ℕ)) → (y : List ℕ) × (ys : List (List ℕ)) × (onto_first x parts ≡ y ∷ ys)
some_onto x [] = (x ∷ [], [], refl)
some_onto x (part ∷ parts) = (x ∷ part, parts, refl)

some_more : (x : ℕ) (parts : List (List ℕ)) (b : Bool) → (y : List ℕ) × (ys : List (List ℕ)) × (cond b ([] ∷ parts) (onto_first x parts) ≡ y ∷ ys)
some_more x parts true = ([], parts, refl)
some_more x parts false = some_onto x parts

some_part : (xs : List ℕ) → (y : List ℕ) × (ys : List (List ℕ)) × (slice_split is_feed xs ≡ y ∷ ys)
some_part [] = ([], [], refl)
some_part (x ∷ xs) = some_more x (slice_split is_feed xs) (is_feed x)

cut_at : (text : List ℕ) (n : ℕ) → position is_feed text ≡ Some n → slice_split is_feed text ≡ take n text ∷ slice_split is_feed (drop (n + 1) text)
cut_at text n h =
    let f = cond_some (ltb (position_or_len is_feed text) (length text)) (position_or_len is_feed text) n h in
    subst (λ (k : ℕ). slice_split is_feed text ≡ take k text ∷ slice_split is_feed (drop (k + 1) text)) f.1 (slice_split_first is_feed text 0 (ltb-true _ _ f.0))

-- a line before a line feed
pub kept_on : (text : List ℕ) (n : ℕ) → position (λ b. b == 10) text ≡ Some n → without_marks text ≡ kept_line (take n text) ++ 10 ∷ without_marks (drop (n + 1) text)
kept_on text n h =
    let s = some_part (drop (n + 1) text) in
    ap (λ (parts : List (List ℕ)). join_with_byte 10 (map kept_line parts)) (cut_at text n h) ∙ rw s.2 refl

-- one line more, and its line feed
pub more_kept : (text before rest kept more : List ℕ) (n : ℕ) → without_marks text ≡ before ++ without_marks rest → position (λ b. b == 10) rest ≡ Some n → kept ≡ before ++ kept_line (take n rest) → more ≡ kept ++ 10 ∷ [] → without_marks text ≡ more ++ without_marks (take (length rest - (n + 1)) (drop (n + 1) rest))
more_kept text before rest kept more n same place line feed =
    let first = kept_line (take n rest) in
    let behind = without_marks (drop (n + 1) rest) in
    same ∙ ap (λ (xs : List ℕ). before ++ xs) (kept_on rest n place)
    ∙ sym (append_assoc before first (10 ∷ behind))
    ∙ ap (λ (xs : List ℕ). xs ++ 10 ∷ behind) (sym line)
    ∙ sym (append_assoc kept (10 ∷ []) behind)
    ∙ ap (λ (xs : List ℕ). xs ++ behind) (sym feed)
    ∙ ap (λ (xs : List ℕ). more ++ without_marks xs) (sym (take_rest rest (n + 1)))

pub more_long : (text rest : List ℕ) (before kept more n : ℕ) → before + length rest ≡ length text → n < length rest → kept ≡ before + length (take n rest) → more ≡ kept + 1 → more + length (take (length rest - (n + 1)) (drop (n + 1) rest)) ≡ length text
more_long text rest before kept more n all within line feed = omega (arith, length-take n rest, ap length (take_rest rest (n + 1)), length-drop (n + 1) rest)

uncut_by : (x : ℕ) (xs : List ℕ) (b : Bool) → is_feed x ≡ b → length (x ∷ xs) ≤ position_or_len is_feed (x ∷ xs) → (length xs ≤ position_or_len is_feed xs → slice_split is_feed xs ≡ xs ∷ []) → slice_split is_feed (x ∷ xs) ≡ (x ∷ xs) ∷ []
uncut_by x xs true e h more = absurd (omega (arith, rw e at h))
uncut_by x xs false e h more = slice_split-cons_no is_feed x xs e ∙ ap (onto_first x) (more (omega (arith, rw e at h)))

uncut : (xs : List ℕ) → length xs ≤ position_or_len is_feed xs → slice_split is_feed xs ≡ xs ∷ []
uncut [] h = refl
uncut (x ∷ xs) h = uncut_by x xs (is_feed x) refl h (uncut xs)

-- a last line without one
pub kept_last : (text : List ℕ) → position (λ b. b == 10) text ≡ None → without_marks text ≡ kept_line text
kept_last text h = ap (λ (parts : List (List ℕ)). join_with_byte 10 (map kept_line parts)) (uncut text (none_above (position_or_len is_feed text) (length text) h))
