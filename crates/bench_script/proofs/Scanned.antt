-- The first line of a text and its words, byte by byte.
use Rattle.std.proofs.Common.{◌≡◌, ℕ, suc, ◌+◌, ◌-◌, ◌≤◌, ◌==◌, List, [], ◌∷◌, Option, Some, None, Bool, true, false, not, length, take, drop, refl, sym, ◌∙◌, ap, arith, cond, drop_of_length-le, Bor}
use Rattle.std.specs.Prelude.{◌&&◌, option_map, MatchOption, Err}
use Rattle.std.specs.List.{slice_split, onto_first, position, position_or_len, filter}
use Rattle.std.specs.Str.Lines.{lines, lines_of_parts, strip_carriage_return}
use Rattle.std.proofs.lemmas.Bool.{ne_eqb}
use Rattle.std.proofs.lemmas.Bool.Decides.{nat_tests}
use Rattle.mcal_base.specs.facts.Truths.{and_false}
use Rattle.bench_script.specs.Lines.{before_comment, is_plain, is_text, is_blank, words_of}
use Rattle.bench_script.specs.Scanned.{begins, first_line, after_line, words_of_line, line_words, is_letter, with_word}
use Rattle.bench_script.specs.Orders.{order_of}
use Rattle.bench_script.specs.Script.{read_line}
use Rattle.bench_script.specs.declared.fault.LineFault.TheVariants.{NotText}
use Rattle.bench_script.proofs.Parts.{some_part, first_word, place_from, no_place}

-- a list from its second place on
one_more : (k x : ℕ) (xs : List ℕ) → drop (1 + k) (x ∷ xs) ≡ drop k xs
one_more k x xs = let e : 1 + k ≡ suc k = omega arith in ap (λ (n : ℕ). drop n (x ∷ xs)) e

one_taken : (k x : ℕ) (xs : List ℕ) → take (1 + k) (x ∷ xs) ≡ x ∷ take k xs
one_taken k x xs = let e : 1 + k ≡ suc k = omega arith in ap (λ (n : ℕ). take n (x ∷ xs)) e

cond_onto : (x : ℕ) (b : Bool) (xs ys : List ℕ) → cond b (x ∷ xs) (x ∷ ys) ≡ x ∷ cond b xs ys
cond_onto x true xs ys = refl
cond_onto x false xs ys = refl

-- a longer line loses its carriage return as a shorter one does
return_more : (x z : ℕ) (ys : List ℕ) → strip_carriage_return (x ∷ z ∷ ys) ≡ x ∷ strip_carriage_return (z ∷ ys)
return_more x z ys =
    let m : suc (suc (length ys)) - 1 ≡ suc (length ys) = omega arith in
    let n : suc (length ys) - 1 ≡ length ys = omega arith in
    rw (m, n) (cond_onto x _ _ _)

-- a byte before a part that is there already
part_more : (x z : ℕ) (ys : List ℕ) (parts : List (List ℕ)) → lines_of_parts ((x ∷ z ∷ ys) ∷ parts) ≡ onto_first x (lines_of_parts ((z ∷ ys) ∷ parts))
part_more x z ys [] =
    let e : (length (x ∷ z ∷ ys) == 0) ≡ false = ne_eqb _ _ (λ (h : length (x ∷ z ∷ ys) ≡ 0). omega arith) in
    let f : (length (z ∷ ys) == 0) ≡ false = ne_eqb _ _ (λ (h : length (z ∷ ys) ≡ 0). omega arith) in
    rw (e, f) refl
part_more x z ys (part ∷ parts) = ap (λ (l : List ℕ). l ∷ lines_of_parts (part ∷ parts)) (return_more x z ys)

-- the first of the lines of a text
feed_first : (x : ℕ) (xs : List ℕ) → (x == 10) ≡ true → lines (x ∷ xs) ≡ [] ∷ lines xs
feed_first x xs e = let s = some_part (λ b. b == 10) xs in rw e (rw s.2 refl)

before_feed : (x z : ℕ) (zs : List ℕ) (b : Bool) → (x == 13) ≡ b → (x == 10) ≡ false → (z == 10) ≡ true → lines (x ∷ z ∷ zs) ≡ cond b [] (x ∷ []) ∷ lines zs
before_feed x z zs true r e f = let s = some_part (λ b. b == 10) zs in rw (e, f) (rw s.2 (rw r refl))
before_feed x z zs false r e f = let s = some_part (λ b. b == 10) zs in rw (e, f) (rw s.2 (rw r refl))

within_line : (x z : ℕ) (zs : List ℕ) → (x == 10) ≡ false → (z == 10) ≡ false → lines (x ∷ z ∷ zs) ≡ onto_first x (lines (z ∷ zs))
within_line x z zs e f = let s = some_part (λ b. b == 10) zs in rw (e, f) (rw s.2 (part_more x z s.0 s.1))

first_is : (x z : ℕ) (zs : List ℕ) (b c : Bool) → (x == 10) ≡ false → (z == 10) ≡ b → (x == 13) ≡ c → lines (z ∷ zs) ≡ first_line (z ∷ zs) ∷ lines (after_line (z ∷ zs)) → lines (x ∷ z ∷ zs) ≡ first_line (x ∷ z ∷ zs) ∷ lines (after_line (x ∷ z ∷ zs))
first_is x z zs true true e f r ih = before_feed x z zs true r e f ∙ rw (e, f, r) refl
first_is x z zs true false e f r ih = before_feed x z zs false r e f ∙ rw (e, f, r) refl
first_is x z zs false c e f r ih = within_line x z zs e f ∙ (ap (onto_first x) ih ∙ rw (e, f) refl)

first_of : (x : ℕ) (xs : List ℕ) (b : Bool) → (x == 10) ≡ b → lines (x ∷ xs) ≡ first_line (x ∷ xs) ∷ lines (after_line (x ∷ xs))
first_of x xs true e = feed_first x xs e ∙ rw e refl
first_of x [] false e = rw e refl
first_of x (z ∷ zs) false e = first_is x z zs (z == 10) (x == 13) e refl refl (first_of z zs (z == 10) refl)

pub lines_first : (x : ℕ) (xs : List ℕ) → lines (x ∷ xs) ≡ first_line (x ∷ xs) ∷ lines (after_line (x ∷ xs))
lines_first x xs = first_of x xs (x == 10) refl

-- the parts of a line between its blanks, if each byte is text
cut_of : List ℕ → Option (List (List ℕ))
cut_of line = cond (is_text line) (Some (slice_split is_blank line)) None

parts : List ℕ → Option (List (List ℕ))
parts text = cut_of (before_comment (first_line text))

words_in : List (List ℕ) → List (List ℕ)
words_in ps = filter (λ (w : List ℕ). not (length w == 0)) ps

words_from : (b : Bool) (ps : List (List ℕ)) → cond b (Some (words_in ps)) None ≡ option_map words_in (cond b (Some ps) None)
words_from true ps = refl
words_from false ps = refl

words_are : (text : List ℕ) → line_words text ≡ option_map words_in (parts text)
unfolding words_in parts cut_of
words_are text = words_from (is_text (before_comment (first_line text))) (slice_split is_blank (before_comment (first_line text)))

-- one more byte of text
byte_onto : ℕ → List (List ℕ) → List (List ℕ)
byte_onto x ps = cond (is_blank x) ([] ∷ ps) (onto_first x ps)

text_more : (x : ℕ) (b : Bool) (line : List ℕ) → cond b (Some (byte_onto x (slice_split is_blank line))) None ≡ option_map (byte_onto x) (cond b (Some (slice_split is_blank line)) None)
text_more x true line = refl
text_more x false line = refl

comment_more : (x : ℕ) (line : List ℕ) → (x == 35) ≡ false → before_comment (x ∷ line) ≡ x ∷ before_comment line
comment_more x line e = rw e (one_taken _ x line)

line_more : (x : ℕ) (xs : List ℕ) → (x == 10) ≡ false → (begins (λ c. c == 10) xs && x == 13) ≡ false → first_line (x ∷ xs) ≡ x ∷ first_line xs
line_more x xs e r = rw (e, r) refl

parts_on : (x : ℕ) (xs : List ℕ) → (x == 10) ≡ false → (begins (λ c. c == 10) xs && x == 13) ≡ false → (x == 35) ≡ false → parts (x ∷ xs) ≡ cut_of (x ∷ before_comment (first_line xs))
unfolding parts
parts_on x xs e r c = ap cut_of (ap before_comment (line_more x xs e r) ∙ comment_more x (first_line xs) c)

parts_more : (x : ℕ) (xs : List ℕ) → (x == 10) ≡ false → (x == 13) ≡ false → (x == 35) ≡ false → is_plain x ≡ true → parts (x ∷ xs) ≡ option_map (byte_onto x) (parts xs)
unfolding parts byte_onto cut_of
parts_more x xs e r c p =
    let no : (begins (λ c. c == 10) xs && x == 13) ≡ false = rw r (and_false (begins (λ c. c == 10) xs)) in
    parts_on x xs e no c ∙ rw p (text_more x (is_text (before_comment (first_line xs))) (before_comment (first_line xs)))

-- the bytes of words and blanks
record IsText (x : ℕ) : Type 0 where
  feed : (x == 10) ≡ false
  return : (x == 13) ≡ false
  comment : (x == 35) ≡ false
  plain : is_plain x ≡ true

letter_is : (x : ℕ) → is_letter x ≡ true → IsText x
letter_is x h = record { feed = grind (arith, nat_tests); return = grind (arith, nat_tests); comment = grind (arith, nat_tests); plain = grind (arith, nat_tests) }

letter_stays : (x : ℕ) → is_letter x ≡ true → is_blank x ≡ false
letter_stays x h = grind (arith, nat_tests)

blank_is : (x : ℕ) → is_blank x ≡ true → IsText x
blank_is x h = record { feed = grind (arith, nat_tests); return = grind (arith, nat_tests); comment = grind (arith, nat_tests); plain = grind (arith, nat_tests) }

other_is : (x : ℕ) → is_letter x ≡ false → is_blank x ≡ false → (x == 35) ≡ false → is_plain x ≡ false
other_is x l b c = grind (arith, nat_tests)

-- a letter goes to the first part, and a blank begins another
onto_option : (x : ℕ) (b : Bool) (o : Option (List (List ℕ))) → is_blank x ≡ b → option_map (byte_onto x) o ≡ option_map (λ ps. cond b ([] ∷ ps) (onto_first x ps)) o
unfolding byte_onto
onto_option x b None e = refl
onto_option x b (Some ps) e = rw e refl

letter_more : (x : ℕ) (xs : List ℕ) → is_letter x ≡ true → parts (x ∷ xs) ≡ option_map (onto_first x) (parts xs)
letter_more x xs h =
    let t = letter_is x h in
    parts_more x xs t.feed t.return t.comment t.plain ∙ onto_option x false (parts xs) (letter_stays x h)

empty_part : (o : Option (List (List ℕ))) → option_map words_in (option_map (λ ps. [] ∷ ps) o) ≡ option_map words_in o
unfolding words_in
empty_part None = refl
empty_part (Some ps) = refl

pub blank_more : (x : ℕ) (xs : List ℕ) → is_blank x ≡ true → line_words (x ∷ xs) ≡ line_words xs
blank_more x xs h =
    let t = blank_is x h in
    words_are (x ∷ xs) ∙ (ap (option_map words_in) (parts_more x xs t.feed t.return t.comment t.plain ∙ onto_option x true (parts xs) h) ∙ (empty_part (parts xs) ∙ sym (words_are xs)))

-- blanks before a word are left out
blanks : List ℕ → ℕ
blanks xs = position_or_len (λ b. not (is_blank b)) xs

-- what stands after the bytes that pass begins with none
begins_more : (p : ℕ → Bool) (x : ℕ) (xs : List ℕ) (b : Bool) → p x ≡ b → begins p (drop (position_or_len (λ b. not (p b)) xs) xs) ≡ false → begins p (drop (position_or_len (λ b. not (p b)) (x ∷ xs)) (x ∷ xs)) ≡ false
begins_more p x xs true e ih = rw e (ap (begins p) (one_more _ x xs) ∙ ih)
begins_more p x xs false e ih = rw (e, e) refl

pub begins_not : (p : ℕ → Bool) (xs : List ℕ) → begins p (drop (position_or_len (λ b. not (p b)) xs) xs) ≡ false
begins_not p [] = refl
begins_not p (x ∷ xs) = begins_more p x xs (p x) refl (begins_not p xs)

-- the feed of a line
feed_more : (x : ℕ) (xs : List ℕ) (b : Bool) → (x == 10) ≡ b → after_line xs ≡ drop (position_or_len (λ b. b == 10) xs + 1) xs → after_line (x ∷ xs) ≡ drop (position_or_len (λ b. b == 10) (x ∷ xs) + 1) (x ∷ xs)
feed_more x xs true e ih = rw e refl
feed_more x xs false e ih = let n : 1 + position_or_len (λ b. b == 10) xs + 1 ≡ suc (position_or_len (λ b. b == 10) xs + 1) = omega arith in rw (e, n) ih

pub after_feed : (xs : List ℕ) → after_line xs ≡ drop (position_or_len (λ b. b == 10) xs + 1) xs
after_feed [] = refl
after_feed (x ∷ xs) = feed_more x xs (x == 10) refl (after_feed xs)

-- a word before what stands behind it
onto_front : List ℕ → List (List ℕ) → List (List ℕ)
onto_front [] ps = ps
onto_front (x ∷ w) ps = onto_first x (onto_front w ps)

onto_same : (o : Option (List (List ℕ))) → o ≡ option_map (onto_front []) o
unfolding onto_front
onto_same None = refl
onto_same (Some ps) = refl

onto_again : (x : ℕ) (w : List ℕ) (o : Option (List (List ℕ))) → option_map (onto_first x) (option_map (onto_front w) o) ≡ option_map (onto_front (x ∷ w)) o
unfolding onto_front
onto_again x w None = refl
onto_again x w (Some ps) = refl

letters : List ℕ → ℕ
letters xs = position_or_len (λ b. not (is_letter b)) xs

front_more : (x : ℕ) (xs : List ℕ) (b : Bool) → is_letter x ≡ b → parts xs ≡ option_map (onto_front (take (letters xs) xs)) (parts (drop (letters xs) xs)) → parts (x ∷ xs) ≡ option_map (onto_front (take (letters (x ∷ xs)) (x ∷ xs))) (parts (drop (letters (x ∷ xs)) (x ∷ xs)))
unfolding letters
front_more x xs true e ih = rw (e, one_more, one_taken) (letter_more x xs e ∙ (ap (option_map (onto_first x)) ih ∙ onto_again x _ _))
front_more x xs false e ih = rw e (onto_same (parts (x ∷ xs)))

front_is : (xs : List ℕ) → parts xs ≡ option_map (onto_front (take (letters xs) xs)) (parts (drop (letters xs) xs))
unfolding letters
front_is [] = onto_same (parts [])
front_is (x ∷ xs) = front_more x xs (is_letter x) refl (front_is xs)

-- where a word ends a part ends, or a byte is no text
data Ends (text : List ℕ) : Type 0 where
  amiss : parts text ≡ None → Ends text
  part : (ps : List (List ℕ)) → parts text ≡ Some ([] ∷ ps) → Ends text

ends_after : (x : ℕ) (xs : List ℕ) (o : Option (List (List ℕ))) → parts (x ∷ xs) ≡ option_map (λ ps. [] ∷ ps) o → Ends (x ∷ xs)
ends_after x xs None e = amiss e
ends_after x xs (Some ps) e = part ps e

ends_other : (x : ℕ) (xs : List ℕ) (f r c b : Bool) → (x == 10) ≡ f → (begins (λ c. c == 10) xs && x == 13) ≡ r → (x == 35) ≡ c → is_blank x ≡ b → is_letter x ≡ false → Ends (x ∷ xs)
unfolding parts cut_of
ends_other x xs true r c b e h i j k = part [] (rw e refl)
ends_other x xs false true c b e h i j k = part [] (rw (e, h) refl)
ends_other x xs false false true b e h i j k = part [] (rw (e, h, i) refl)
ends_other x xs false false false true e h i j k = let t = blank_is x j in ends_after x xs (parts xs) (parts_more x xs t.feed t.return t.comment t.plain ∙ onto_option x true (parts xs) j)
ends_other x xs false false false false e h i j k = amiss (parts_on x xs e h i ∙ rw (other_is x k j i) refl)

ends : (xs : List ℕ) → begins is_letter xs ≡ false → Ends xs
unfolding parts cut_of
ends [] h = part [] refl
ends (x ∷ xs) h = ends_other x xs (x == 10) (begins (λ c. c == 10) xs && x == 13) (x == 35) (is_blank x) refl refl refl refl h

-- a word before an empty part
onto_empty : (w : List ℕ) (ps : List (List ℕ)) → onto_front w ([] ∷ ps) ≡ w ∷ ps
unfolding onto_front
onto_empty [] ps = refl
onto_empty (x ∷ w) ps = ap (onto_first x) (onto_empty w ps)

word_in : (w : List ℕ) (text : List ℕ) → Ends text → option_map words_in (option_map (onto_front w) (parts text)) ≡ with_word w (option_map words_in (parts text))
unfolding words_in onto_front
word_in [] text e = sym (ap (option_map words_in) (onto_same (parts text)))
word_in (y ∷ ys) text (amiss n) = rw n refl
word_in (y ∷ ys) text (part ps n) = rw n (ap (λ (qs : List (List ℕ)). Some (words_in qs)) (onto_empty (y ∷ ys) ps) ∙ ap (λ (ws : List (List ℕ)). Some ws) (first_word y ys ps))

pub word_first : (xs : List ℕ) → line_words xs ≡ with_word (take (position_or_len (λ b. not (is_letter b)) xs) xs) (line_words (drop (position_or_len (λ b. not (is_letter b)) xs) xs))
unfolding letters
word_first xs = words_are xs ∙ (ap (option_map words_in) (front_is xs) ∙ (word_in (take (letters xs) xs) (drop (letters xs) xs) (ends (drop (letters xs) xs) (begins_not is_letter xs)) ∙ ap (with_word (take (letters xs) xs)) (sym (words_are (drop (letters xs) xs)))))

-- where a feed is and where none is
pub feed_at : (xs : List ℕ) (n : ℕ) → position (λ b. b == 10) xs ≡ Some n → after_line xs ≡ drop (n + 1) xs
feed_at xs n h = let f = place_from (λ b. b == 10) xs n h in after_feed xs ∙ ap (λ (k : ℕ). drop (k + 1) xs) f.here

pub no_feed : (xs : List ℕ) → position (λ b. b == 10) xs ≡ None → after_line xs ≡ []
no_feed xs h = after_feed xs ∙ drop_of_length-le xs (omega (arith, no_place (λ b. b == 10) xs h))

-- a byte that is no text
no_parts : (x : ℕ) (xs : List ℕ) → (x == 10) ≡ false → (begins (λ c. c == 10) xs && x == 13) ≡ false → (x == 35) ≡ false → is_blank x ≡ false → is_letter x ≡ false → parts (x ∷ xs) ≡ None
unfolding cut_of
no_parts x xs e r c b l = parts_on x xs e r c ∙ rw (other_is x l b c) refl

pub no_words : (x : ℕ) (xs : List ℕ) → (x == 10) ≡ false → (begins (λ c. c == 10) xs && x == 13) ≡ false → (x == 35) ≡ false → is_blank x ≡ false → is_letter x ≡ false → line_words (x ∷ xs) ≡ None
no_words x xs e r c b l = words_are (x ∷ xs) ∙ ap (option_map words_in) (no_parts x xs e r c b l)

-- a carriage return ends a line before a line feed, and is no text elsewhere
pub return_ends : (rest : List ℕ) (o : Option (Bor (List ℕ))) → MatchOption o (begins (λ b. b == 10) rest ≡ false) (λ after. rest ≡ 10 ∷ after.now) → MatchOption o (line_words (13 ∷ rest) ≡ None) (λ after. (line_words (13 ∷ rest) ≡ Some []) × (after.now ≡ after_line (13 ∷ rest)))
return_ends rest None h = no_words 13 rest refl (rw h refl) refl refl refl
return_ends rest (Some after) h = rw h (refl, refl)

-- the lines of a text that isn't empty, and what is left of it
pub some_lines : (xs : List ℕ) → (length xs == 0) ≡ false → lines xs ≡ first_line xs ∷ lines (after_line xs)
some_lines [] e = cc
some_lines (x ∷ xs) e = lines_first x xs

shorter_by : (x : ℕ) (xs : List ℕ) (b : Bool) → (x == 10) ≡ b → length (after_line xs) ≤ length xs → length (after_line (x ∷ xs)) ≤ length xs
shorter_by x xs true e h = rw e (omega arith)
shorter_by x xs false e h = rw e h

not_longer : (xs : List ℕ) → length (after_line xs) ≤ length xs
not_longer [] = omega arith
not_longer (x ∷ xs) = omega (arith, shorter_by x xs (x == 10) refl (not_longer xs))

pub line_shorter : (xs : List ℕ) → (length xs == 0) ≡ false → length (after_line xs) + 1 ≤ length xs
line_shorter [] e = cc
line_shorter (x ∷ xs) e = omega (arith, shorter_by x xs (x == 10) refl (not_longer xs))

-- a line is read by its words
read_by : (b : Bool) (ws vs : List (List ℕ)) → cond b (Some ws) None ≡ Some vs → cond b (order_of ws) (Err NotText) ≡ order_of vs
read_by true ws vs h = let e : ws ≡ vs = cc in ap order_of e
read_by false ws vs h = cc

pub line_read : (line : List ℕ) (ws : List (List ℕ)) → words_of_line line ≡ Some ws → read_line line ≡ order_of ws
line_read line ws h = read_by (is_text (before_comment line)) (words_of (before_comment line)) ws h

amiss_by : (b : Bool) (ws : List (List ℕ)) → cond b (Some ws) None ≡ None → cond b (order_of ws) (Err NotText) ≡ Err NotText
amiss_by true ws h = cc
amiss_by false ws h = refl

pub line_amiss : (line : List ℕ) → words_of_line line ≡ None → read_line line ≡ Err NotText
line_amiss line h = amiss_by (is_text (before_comment line)) (words_of (before_comment line)) h

-- another byte is no text
pub no_text : (x : ℕ) (xs : List ℕ) → (x == 10) ≡ false → (x == 13) ≡ false → (x == 35) ≡ false → is_blank x ≡ false → is_letter x ≡ false → line_words (x ∷ xs) ≡ None
no_text x xs e r c b l = no_words x xs e (rw r (and_false (begins (λ c. c == 10) xs))) c b l
