-- The words of a line, as a scan of its bytes cuts them.
use Rattle.std.proofs.Common.{◌≡◌, ℕ, ◌+◌, ◌-◌, ◌≤◌, ◌<◌, ◌==◌, List, [], ◌∷◌, ◌++◌, Option, Some, None, Bool, true, false, not, length, take, drop, get_or, refl, sym, ◌∙◌, ap, arith, add-one, drop-cons, drop_of_length-le, append-nil, map, Bor}
use Rattle.std.specs.Prelude.{option_map, MatchOption}
use Rattle.std.specs.List.{position_or_len}
use Rattle.std.proofs.lemmas.List.{drop-drop}
use Rattle.std.proofs.lemmas.Bool.Decides.{nat_tests}
use Rattle.bench_script.specs.Lines.{is_blank}
use Rattle.bench_script.specs.Scanned.{begins, after_line, line_words, is_letter, with_word}
use Rattle.bench_script.proofs.Scanned.{word_first, blank_more}

-- how many letters come first
abbrev pub letters : List ℕ → ℕ
letters xs = position_or_len (λ b. not (is_letter b)) xs

-- the byte at a place, and those after it
pub byte_at : (xs : List ℕ) (place : ℕ) → place < length xs → drop place xs ≡ get_or xs place 0 ∷ drop (place + 1) xs
byte_at xs place within = rw add-one (drop-cons xs place 0 within)

pub begins_at : (p : ℕ → Bool) (xs : List ℕ) (place : ℕ) → place < length xs → begins p (drop place xs) ≡ p (get_or xs place 0)
begins_at p xs place within = ap (begins p) (byte_at xs place within)

-- a letter goes on with a word
letter_first : (x : ℕ) (xs : List ℕ) → is_letter x ≡ true → letters (x ∷ xs) ≡ 1 + letters xs
letter_first x xs e = rw e refl

pub letter_on : (xs : List ℕ) (start place : ℕ) → place < length xs → is_letter (get_or xs place 0) ≡ true → start + letters (drop start xs) ≡ place + letters (drop place xs) → start + letters (drop start xs) ≡ place + 1 + letters (drop (place + 1) xs)
letter_on xs start place within l h =
    let more : letters (drop place xs) ≡ 1 + letters (drop (place + 1) xs) = ap letters (byte_at xs place within) ∙ letter_first (get_or xs place 0) (drop (place + 1) xs) l in
    omega arith

-- a word ends where no letter comes
none_first : (xs : List ℕ) → begins is_letter xs ≡ false → letters xs ≡ 0
none_first [] e = refl
none_first (x ∷ xs) e = rw e refl

pub word_ends : (xs : List ℕ) (start place : ℕ) → start ≤ place → start + letters (drop start xs) ≡ place + letters (drop place xs) → begins is_letter (drop place xs) ≡ false → line_words (drop start xs) ≡ with_word (take (place - start) (drop start xs)) (line_words (drop place xs))
word_ends xs start place before h e =
    let none = none_first (drop place xs) e in
    let count : letters (drop start xs) ≡ place - start = omega arith in
    let sum : start + (place - start) ≡ place = omega arith in
    let rest : drop (place - start) (drop start xs) ≡ drop place xs = drop-drop (place - start) start xs ∙ ap (λ (n : ℕ). drop n xs) sum in
    word_first (drop start xs) ∙ rw (count, rest) refl

-- a blank is passed
pub blank_on : (xs : List ℕ) (place : ℕ) → place < length xs → is_blank (get_or xs place 0) ≡ true → line_words (drop place xs) ≡ line_words (drop (place + 1) xs)
blank_on xs place within e = ap line_words (byte_at xs place within) ∙ blank_more (get_or xs place 0) (drop (place + 1) xs) e

-- neither letters nor blanks end a line
pub letter_stays : (x : ℕ) → is_letter x ≡ true → (x == 10) ≡ false
letter_stays x e = grind (arith, nat_tests)

pub blank_stays : (x : ℕ) → is_blank x ≡ true → (x == 10) ≡ false
blank_stays x e = grind (arith, nat_tests)

after_first : (x : ℕ) (xs : List ℕ) → (x == 10) ≡ false → after_line (x ∷ xs) ≡ after_line xs
after_first x xs e = rw e refl

pub after_on : (xs : List ℕ) (place : ℕ) → place < length xs → (get_or xs place 0 == 10) ≡ false → after_line (drop place xs) ≡ after_line (drop (place + 1) xs)
after_on xs place within e = ap after_line (byte_at xs place within) ∙ after_first (get_or xs place 0) (drop (place + 1) xs) e

-- a word is kept where it ends, and a blank behind it is passed
pub kept_to : {W : Type 0} (now : W → List ℕ) (old new : List W) (text : List ℕ) (start place : ℕ) → start ≤ place → start + letters (drop start text) ≡ place + letters (drop place text) → line_words text ≡ option_map (λ ws. map now old ++ ws) (line_words (drop start text)) → ((o : Option (List (List ℕ))) → option_map (λ ws. map now old ++ ws) (with_word (take (place - start) (drop start text)) o) ≡ option_map (λ ws. map now new ++ ws) o) → begins is_letter (drop place text) ≡ false → line_words text ≡ option_map (λ ws. map now new ++ ws) (line_words (drop place text))
kept_to now old new text start place before word read keeps e =
    read ∙ (ap (option_map (λ ws. map now old ++ ws)) (word_ends text start place before word e) ∙ keeps (line_words (drop place text)))

pub blank_kept : {W : Type 0} (now : W → List ℕ) (words : List W) (text : List ℕ) (place : ℕ) → line_words text ≡ option_map (λ ws. map now words ++ ws) (line_words (drop place text)) → place < length text → is_blank (get_or text place 0) ≡ true → line_words text ≡ option_map (λ ws. map now words ++ ws) (line_words (drop (place + 1) text))
blank_kept now words text place read within e = read ∙ ap (option_map (λ ws. map now words ++ ws)) (blank_on text place within e)

-- no more words are there
pub line_ends : {W : Type 0} (now : W → List ℕ) (words : List W) (text rest : List ℕ) (end : Option (Bor (List ℕ))) → line_words text ≡ option_map (λ ws. map now words ++ ws) (line_words rest) → after_line text ≡ after_line rest → MatchOption end (line_words rest ≡ None) (λ after. (line_words rest ≡ Some []) × (after.now ≡ after_line rest)) → MatchOption end (line_words text ≡ None) (λ after. (line_words text ≡ Some (map now words)) × (after.now ≡ after_line text))
line_ends now words text rest None read after e = read ∙ rw e refl
line_ends now words text rest (Some end) read after e = (read ∙ rw (e.0, append-nil) refl, e.1 ∙ sym after)

-- a text without a line feed ends with its last word
nothing : (xs : List ℕ) → drop (length xs) xs ≡ []
nothing xs = drop_of_length-le xs (omega arith)

pub none_after : (xs : List ℕ) → begins is_letter (drop (length xs) xs) ≡ false
none_after xs = ap (begins is_letter) (nothing xs)

pub text_ends : {W : Type 0} (now : W → List ℕ) (words : List W) (text : List ℕ) → line_words text ≡ option_map (λ ws. map now words ++ ws) (line_words (drop (length text) text)) → after_line text ≡ after_line (drop (length text) text) → (line_words text ≡ Some (map now words)) × ([] ≡ after_line text)
text_ends now words text read after = (read ∙ rw (nothing text, append-nil) refl, sym (after ∙ ap after_line (nothing text)))
