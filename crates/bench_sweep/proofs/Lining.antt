-- The first line of a text, and the lines behind it.
use Rattle.std.proofs.Common.{◌≡◌, ℕ, ◌+◌, ◌-◌, ◌<◌, ◌≤◌, ◌==◌, List, [], ◌∷◌, Some, None, Bool, true, false, length, take, drop, zero, suc, refl, sym, subst, ap, ◌∙◌, arith, cond, ltb, ltb-true, add-one, length-take, length-drop}
use Rattle.std.specs.Prelude.{nat_le, reverse, slice_index}
use Rattle.std.proofs.Math.Seq.{take-length}
use Rattle.std.proofs.lemmas.List.{length-reverse}
use Rattle.std.specs.Str.Lines.{strip_carriage_return}
use Rattle.std.specs.List.{onto_first, position, position_or_len}
use Rattle.std.proofs.lemmas.Bool.Decides.{nat_tests}
use Rattle.std.proofs.lemmas.Option.{cond_some}
use Rattle.bench_sweep.specs.Lines.{asked, before_comment, from_first_word, is_blank, length_before, line_at, lines_in, up_to_last_word}

abbrev pub is_feed : ℕ → Bool
is_feed b = b == 10

-- a first line before a line feed
cut_by : (b : ℕ) (bs : List ℕ) (t : Bool) → is_feed b ≡ t → position_or_len is_feed (b ∷ bs) < length (b ∷ bs) → (position_or_len is_feed bs < length bs → lines_in bs ≡ take (position_or_len is_feed bs) bs ∷ lines_in (drop (suc (position_or_len is_feed bs)) bs)) →
    lines_in (b ∷ bs) ≡ take (position_or_len is_feed (b ∷ bs)) (b ∷ bs) ∷ lines_in (drop (suc (position_or_len is_feed (b ∷ bs))) (b ∷ bs))
cut_by b bs true e h more = rw e refl
cut_by b bs false e h more =
    let at : position_or_len is_feed (b ∷ bs) ≡ suc (position_or_len is_feed bs) = rw e (omega arith) in
    let inside : position_or_len is_feed bs < length bs = omega (arith, rw e at h) in
    subst (λ (n : ℕ). lines_in (b ∷ bs) ≡ take n (b ∷ bs) ∷ lines_in (drop (suc n) (b ∷ bs))) (sym at) (rw e (ap (onto_first b) (more inside)))

cut_at : (text : List ℕ) → position_or_len is_feed text < length text → lines_in text ≡ take (position_or_len is_feed text) text ∷ lines_in (drop (suc (position_or_len is_feed text)) text)
cut_at [] h = absurd (omega arith)
cut_at (b ∷ bs) h = cut_by b bs (is_feed b) refl h (cut_at bs)

pub cut_line : (text : List ℕ) (n : ℕ) → position (λ b. b == 10) text ≡ Some n → lines_in text ≡ take n text ∷ lines_in (drop (n + 1) text)
cut_line text n h =
    let f = cond_some (ltb (position_or_len is_feed text) (length text)) (position_or_len is_feed text) n h in
    let c : lines_in text ≡ take n text ∷ lines_in (drop (suc n) text) = subst (λ (k : ℕ). lines_in text ≡ take k text ∷ lines_in (drop (suc k) text)) f.1 (cut_at text (ltb-true _ _ f.0)) in
    rw (add-one n) c

-- the same, of what a slice has behind the line feed
pub take_rest : (text : List ℕ) (n : ℕ) → take (length text - n) (drop n text) ≡ drop n text
take_rest text n = ap (λ (k : ℕ). take k (drop n text)) (sym (length-drop n text)) ∙ take-length (drop n text)

pub cut_rest : (text : List ℕ) (n : ℕ) → position (λ b. b == 10) text ≡ Some n → lines_in text ≡ take n text ∷ lines_in (take (length text - (n + 1)) (drop (n + 1) text))
cut_rest text n h = cut_line text n h ∙ ap (λ (xs : List ℕ). take n text ∷ lines_in xs) (sym (take_rest text (n + 1)))

-- a text without a line feed
pub none_above : (m k : ℕ) → cond (ltb m k) (Some m) None ≡ None → k ≤ m
none_above m k h = grind (arith, nat_tests)

last_by : (b : ℕ) (bs : List ℕ) (t : Bool) → is_feed b ≡ t → length (b ∷ bs) ≤ position_or_len is_feed (b ∷ bs) → (0 < length bs → length bs ≤ position_or_len is_feed bs → lines_in bs ≡ bs ∷ []) → lines_in (b ∷ bs) ≡ (b ∷ bs) ∷ []
last_by b bs true e h more = absurd (omega (arith, rw e at h))
last_by b [] false e h more = rw e refl
last_by b (c ∷ cs) false e h more = rw e (ap (onto_first b) (more (omega arith) (omega (arith, rw e at h))))

last_from : (text : List ℕ) → 0 < length text → length text ≤ position_or_len is_feed text → lines_in text ≡ text ∷ []
last_from [] s h = absurd (omega arith)
last_from (b ∷ bs) s h = last_by b bs (is_feed b) refl h (last_from bs)

pub last_line : (text : List ℕ) → 0 < length text → position (λ b. b == 10) text ≡ None → lines_in text ≡ text ∷ []
last_line text s h = last_from text s (none_above (position_or_len is_feed text) (length text) h)

-- the line of a number
pub line_here : (n : ℕ) (line : List ℕ) (lines : List (List ℕ)) → n ≤ 1 → line_at n (line ∷ lines) ≡ line
line_here n line lines h = let t : nat_le n 1 ≡ true = grind (arith, nat_tests, h) in rw t refl

pub line_on : (n : ℕ) (line : List ℕ) (lines : List (List ℕ)) → 1 < n → line_at n (line ∷ lines) ≡ line_at (n - 1) lines
line_on n line lines h = let t : nat_le n 1 ≡ false = grind (arith, nat_tests, h) in rw t refl

-- what a line asks for is no longer than the line
first_by : (b : ℕ) (bs : List ℕ) (t : Bool) → is_blank b ≡ t → length (from_first_word bs) ≤ length bs → length (from_first_word (b ∷ bs)) ≤ length (b ∷ bs)
first_by b bs true e h = rw e (omega (arith, h))
first_by b bs false e h = rw e (omega arith)

first_shorter : (text : List ℕ) → length (from_first_word text) ≤ length text
first_shorter [] = omega arith
first_shorter (b ∷ bs) = first_by b bs (is_blank b) refl (first_shorter bs)

last_shorter : (text : List ℕ) → length (up_to_last_word text) ≤ length text
last_shorter text = let r = reverse (from_first_word (reverse text)) in omega (arith, length-reverse (from_first_word (reverse text)), length-reverse text, first_shorter (reverse text))

return_by : (line : List ℕ) (t : Bool) → length (cond t (take (length line - 1) line) line) ≤ length line
return_by line true = omega (arith, length-take (length line - 1) line)
return_by line false = omega arith

before_shorter : (line : List ℕ) → length (before_comment line) ≤ length line
before_shorter line = omega (arith, length-take (length_before 35 line) line)

pub asked_shorter : (line : List ℕ) → length (asked line) ≤ length line
asked_shorter line =
    let bare = strip_carriage_return line in
    omega (arith, last_shorter (from_first_word (before_comment bare)), first_shorter (before_comment bare), before_shorter bare, return_by line (slice_index line (length line - 1) == 13))

-- what stands behind a word is no longer than the text
pub rest_shorter : (text rest : List ℕ) (n : ℕ) → rest ≡ from_first_word (take (length text - n) (drop n text)) → length rest ≤ length text
rest_shorter text rest n e = omega (arith, ap length e, first_shorter (take (length text - n) (drop n text)), length-take (length text - n) (drop n text), length-drop n text)
