-- The lines of a directive stand together at the front of a text, and are read as what they tell.
use Rattle.std.proofs.Common.{◌≡◌, ℕ, ◌<◌, Bool, true, false, List, [], ◌∷◌, ◌++◌, length, map, take, drop, Option, Some, refl, ◌∙◌, ap, sym, subst, arith, append_assoc, append-nil}
use Rattle.std.specs.Prelude.{◌==◌, codes, decimal, bytes_eq, if◌then◌else◌}
use Rattle.std.specs.Char.{is_ascii_digit}
use Rattle.std.specs.List.{join_with_byte}
use Rattle.std.proofs.lemmas.Bool.{false≢true}
use Rattle.std.proofs.lemmas.List.{take_at}
use Rattle.std.proofs.lemmas.Slice.Eq.{bytes_eq-Decides}
use Rattle.bench_report.specs.Lines.{Line, line_text, numbered, end_text}
use Rattle.bench_report.specs.Numbers.{IsNumber, Each}
use Rattle.bench_report.specs.declared.tally.Tally.{Tally}
use Rattle.report_text.specs.reading.Blocks.{begins_with, own_lines, behind, text_of, printed}
use Rattle.report_text.specs.reading.Reading.{told_in_line, told_in}
use Rattle.trace_reader.specs.Numbers.{number}
use Rattle.trace_reader.specs.Guess.{words_of}
use Rattle.trace_reader.specs.Reading.{line_with, parts_of}
use Rattle.trace_reader.specs.Told.{told}
use Rattle.trace_reader.specs.Trace.{HasLineNumbers}
use Rattle.trace_reader.specs.declared.told.Told.{Told}
use Rattle.trace_reader.specs.declared.told.TraceLine.{TraceLine}
use Rattle.trace_reader.proofs.Digits.{none, none_append, no_feed, no_space, number_again, starts, starts_number}
use Rattle.report_text.proofs.Places.{IsPrinted}
use Rattle.report_text.proofs.RowLaws.{printed_feedless}
use Rattle.trace_reader.proofs.FeedLaws.{nl}
use Rattle.trace_reader.proofs.LineByLine.{line_again, same_bytes}
use Rattle.trace_reader.proofs.Splits.{front_word, tail_words}
use Rattle.trace_reader.proofs.Whole.{split_front}

-- ---- cut at line feeds

line_front : (n : ℕ) (line : Line) (s : List ℕ) → numbered n line ++ s ≡ line_with n line ++ 10 ∷ s
line_front n line s = append_assoc (decimal n) (codes " " ++ (line_text line ++ codes "\n")) s ∙ (ap (λ (bs : List ℕ). decimal n ++ (codes " " ++ bs)) (append_assoc (line_text line) (codes "\n") s) ∙ sym (append_assoc (decimal n) (codes " " ++ line_text line) (10 ∷ s)))

-- the first part of a text that begins with a line is the line
pub line_parts : (n : ℕ) (line : Line) (s : List ℕ) → IsNumber n → IsPrinted line → parts_of (numbered n line ++ s) ≡ line_with n line ∷ parts_of s
line_parts n line s h k = ap parts_of (line_front n line s) ∙ split_front (line_with n line) s (none_append nl (decimal n) (codes " " ++ line_text line) (no_feed n h) (printed_feedless line k))

pub printed_parts : (n : ℕ) (lines : List Line) (s : List ℕ) → IsNumber n → Each IsPrinted lines → parts_of (printed n lines ++ s) ≡ map (λ line. line_with n line) lines ++ parts_of s
printed_parts n [] s h k = refl
printed_parts n (line ∷ lines) s h k =
    ap parts_of (append_assoc (numbered n line) (printed n lines) s)
    ∙ (line_parts n line (printed n lines ++ s) h k.0 ∙ ap (λ (ps : List (List ℕ)). line_with n line ∷ ps) (printed_parts n lines s h k.1))

-- A text has a first part.
pub record HasParts (text : List ℕ) : Type 0 where
  pub first : List ℕ
  pub others : List (List ℕ)
  pub is : parts_of text ≡ first ∷ others

onto_parts : (b : ℕ) (bs : List ℕ) (test : Bool) → (b == 10) ≡ test → HasParts bs → HasParts (b ∷ bs)
onto_parts b bs true e h = record { first = []; others = parts_of bs; is = rw e refl }
onto_parts b bs false e h = record { first = b ∷ h.first; others = h.others; is = rw (e, h.is) refl }

pub has_parts : (text : List ℕ) → HasParts text
has_parts [] = record { first = []; others = []; is = refl }
has_parts (b ∷ bs) = onto_parts b bs (b == 10) refl (has_parts bs)

-- ---- whose line a part is

-- the mark of a script line, with which its lines begin
abbrev mark : ℕ → List ℕ
mark n = decimal n ++ codes " "

own_begins : (n : ℕ) (line : Line) → begins_with n (line_with n line) ≡ true
own_begins n line =
    same_bytes (take (length (mark n)) (line_with n line)) (mark n)
    (ap (take (length (mark n))) (sym (append_assoc (decimal n) (codes " ") (line_text line))) ∙ take_at (mark n) (line_text line) (length (mark n)) refl)

-- a number is read from the digits before a space
same_number : (n k : ℕ) (s t : List ℕ) → IsNumber n → IsNumber k → decimal n ++ 32 ∷ s ≡ decimal k ++ 32 ∷ t → n ≡ k
same_number n k s t h i e =
    let a : words_of (decimal n ++ 32 ∷ s) ≡ decimal n ∷ tail_words (32 ∷ s) = front_word (decimal n) (32 ∷ s) (no_space n h) refl in
    let b : words_of (decimal k ++ 32 ∷ t) ≡ decimal k ∷ tail_words (32 ∷ t) = front_word (decimal k) (32 ∷ t) (no_space k i) refl in
    let c : words_of (decimal n ++ 32 ∷ s) ≡ words_of (decimal k ++ 32 ∷ t) = ap words_of e in
    let d : decimal n ≡ decimal k = cc in
    let x : number (decimal n) ≡ Some n = number_again n h in
    let y : number (decimal k) ≡ Some k = number_again k i in
    let z : number (decimal n) ≡ number (decimal k) = ap number d in
    cc

-- a text begins with what is taken of it
front_of : (front text : List ℕ) → take (length front) text ≡ front → front ++ drop (length front) text ≡ text
front_of [] text e = refl
front_of (x ∷ front) [] e = cc
front_of (x ∷ front) (y ∷ text) e =
    let first : y ≡ x = cc in
    let others : take (length front) text ≡ front = cc in
    ap (λ (z : ℕ). z ∷ (front ++ drop (length front) text)) (sym first) ∙ ap (λ (zs : List ℕ). y ∷ zs) (front_of front text others)

other_case : (n k : ℕ) (line : Line) (b : Bool) → begins_with n (line_with k line) ≡ b → IsNumber n → IsNumber k → n < k → b ≡ false
other_case n k line false e h i lt = refl
other_case n k line true e h i lt =
    let taken = (bytes_eq-Decides (take (length (mark n)) (line_with k line)) (mark n)).0 e in
    let whole = front_of (mark n) (line_with k line) taken in
    let same : n ≡ k = same_number n k (drop (length (mark n)) (line_with k line)) (line_text line) h i (sym (append_assoc (decimal n) (codes " ") (drop (length (mark n)) (line_with k line))) ∙ whole) in
    absurd (omega (arith, lt, same))

-- a line of a later directive is none of this one's
pub later_begins : (n k : ℕ) (line : Line) → IsNumber n → IsNumber k → n < k → begins_with n (line_with k line) ≡ false
later_begins n k line h i lt = other_case n k line (begins_with n (line_with k line)) refl h i lt

not_numeral : (front text : List ℕ) → 0 < length front → starts is_ascii_digit front ≡ true → bytes_eq (take (length front) (101 ∷ text)) front ≡ false
not_numeral [] text some digit = absurd (omega arith)
not_numeral (b ∷ bs) text some digit = letter (bytes_eq (take (length (b ∷ bs)) (101 ∷ text)) (b ∷ bs)) refl
  where
    letter : (test : Bool) → bytes_eq (take (length (b ∷ bs)) (101 ∷ text)) (b ∷ bs) ≡ test → test ≡ false
    letter false e = refl
    letter true e =
        let same : 101 ∷ take (length bs) text ≡ b ∷ bs = (bytes_eq-Decides (take (length (b ∷ bs)) (101 ∷ text)) (b ∷ bs)).0 e in
        let first : b ≡ 101 = cc in
        absurd (false≢true (subst (λ (x : ℕ). is_ascii_digit x ≡ true) first digit))

-- neither is the last line of a report
pub end_begins : (n : ℕ) (text : List ℕ) → IsNumber n → begins_with n (101 ∷ text) ≡ false
end_begins n text h = not_numeral (mark n) text (some_mark (decimal n)) (starts_number n (codes " ") h)
  where
    some_mark : (ds : List ℕ) → 0 < length (ds ++ codes " ")
    some_mark [] = omega arith
    some_mark (d ∷ ds) = omega arith

-- ---- the lines of a directive

-- What is behind the lines of a directive: a part that isn't one of them, or nothing but what is behind the last line feed.
pub record StopsAt (n : ℕ) (text : List ℕ) : Type 0 where
  pub own : own_lines n (parts_of text) ≡ []
  pub rest : behind n (parts_of text) ≡ parts_of text

stops_by : (n : ℕ) (text : List ℕ) (part : List ℕ) (parts : List (List ℕ)) → parts_of text ≡ part ∷ parts → begins_with n part ≡ false → StopsAt n text
stops_by n text part [] e h = record { own = ap (own_lines n) e; rest = ap (behind n) e ∙ sym e }
stops_by n text part (next ∷ parts) e h = record { own = ap (own_lines n) e ∙ rw h refl; rest = ap (behind n) e ∙ (first ∙ sym e) }
  where
    first : behind n (part ∷ next ∷ parts) ≡ part ∷ next ∷ parts
    first = rw h refl

pub stops_nowhere : (n : ℕ) → StopsAt n []
stops_nowhere n = record { own = refl; rest = refl }

pub stops_later : (n k : ℕ) (line : Line) (text : List ℕ) → IsNumber n → IsNumber k → n < k → IsPrinted line → StopsAt n (numbered k line ++ text)
stops_later n k line text h i lt fits = stops_by n (numbered k line ++ text) (line_with k line) (parts_of text) (line_parts k line text i fits) (later_begins n k line h i lt)

stops_letter : (n : ℕ) (text : List ℕ) → IsNumber n → StopsAt n (101 ∷ text)
stops_letter n text h = let p = has_parts text in stops_by n (101 ∷ text) (101 ∷ p.first) p.others (rw p.is refl) (end_begins n p.first h)

pub stops_end : (n : ℕ) (tally : Tally) → IsNumber n → StopsAt n (end_text tally)
stops_end n tally h = stops_letter n _ h

own_more : (n : ℕ) (line : Line) (parts : List (List ℕ)) → 0 < length parts → own_lines n (line_with n line ∷ parts) ≡ line_with n line ∷ own_lines n parts
own_more n line [] some = absurd (omega arith)
own_more n line (next ∷ parts) some = rw (own_begins n line) refl

behind_more : (n : ℕ) (line : Line) (parts : List (List ℕ)) → 0 < length parts → behind n (line_with n line ∷ parts) ≡ behind n parts
behind_more n line [] some = absurd (omega arith)
behind_more n line (next ∷ parts) some = rw (own_begins n line) refl

some_parts : (front : List (List ℕ)) (text : List ℕ) → 0 < length (front ++ parts_of text)
some_parts [] text = let p = has_parts text in subst (λ (ps : List (List ℕ)). 0 < length ps) (sym p.is) (omega arith)
some_parts (part ∷ front) text = omega arith

own_lines_are : (n : ℕ) (lines : List Line) (text : List ℕ) → StopsAt n text → own_lines n (map (λ line. line_with n line) lines ++ parts_of text) ≡ map (λ line. line_with n line) lines
own_lines_are n [] text stops = stops.own
own_lines_are n (line ∷ lines) text stops =
    own_more n line (map (λ line. line_with n line) lines ++ parts_of text) (some_parts (map (λ line. line_with n line) lines) text)
    ∙ ap (λ (ps : List (List ℕ)). line_with n line ∷ ps) (own_lines_are n lines text stops)

behind_are : (n : ℕ) (lines : List Line) (text : List ℕ) → StopsAt n text → behind n (map (λ line. line_with n line) lines ++ parts_of text) ≡ parts_of text
behind_are n [] text stops = stops.rest
behind_are n (line ∷ lines) text stops =
    behind_more n line (map (λ line. line_with n line) lines ++ parts_of text) (some_parts (map (λ line. line_with n line) lines) text) ∙ behind_are n lines text stops

pub told_again : (n : ℕ) (lines : List Line) → IsNumber n → Each HasLineNumbers lines → told_in (map (λ line. line_with n line) lines) ≡ map told lines
told_again n [] h k = refl
told_again n (line ∷ lines) h k =
    ap (λ (o : Option TraceLine). told_in_line o ++ told_in (map (λ line. line_with n line) lines)) (line_again n line h k.0)
    ∙ ap (λ (ts : List Told). told line ∷ ts) (told_again n lines h k.1)

-- the lines of a directive at the front of a text, and what is behind them
pub block_own : (n : ℕ) (lines : List Line) (text : List ℕ) → IsNumber n → Each IsPrinted lines → StopsAt n text → own_lines n (parts_of (printed n lines ++ text)) ≡ map (λ line. line_with n line) lines
block_own n lines text h k stops = ap (own_lines n) (printed_parts n lines text h k) ∙ own_lines_are n lines text stops

pub block_behind : (n : ℕ) (lines : List Line) (text : List ℕ) → IsNumber n → Each IsPrinted lines → StopsAt n text → behind n (parts_of (printed n lines ++ text)) ≡ parts_of text
block_behind n lines text h k stops = ap (behind n) (printed_parts n lines text h k) ∙ behind_are n lines text stops

-- ---- the bytes of lines

pub own_text : (n : ℕ) (lines : List Line) → text_of (map (λ line. line_with n line) lines) ≡ printed n lines
own_text n [] = refl
own_text n (line ∷ lines) =
    ap (λ (bs : List ℕ). bs ++ text_of (map (λ line. line_with n line) lines)) (sym (line_front n line []) ∙ append-nil (numbered n line))
    ∙ ap (λ (bs : List ℕ). numbered n line ++ bs) (own_text n lines)

joined_by : (b : Bool) (part : List ℕ) (rest own others : List (List ℕ)) → join_with_byte 10 rest ≡ text_of own ++ join_with_byte 10 others →
    part ++ 10 ∷ join_with_byte 10 rest ≡ text_of (if b then part ∷ own else []) ++ (if b then join_with_byte 10 others else part ++ 10 ∷ join_with_byte 10 rest)
joined_by true part rest own others e =
    ap (λ (bs : List ℕ). part ++ 10 ∷ bs) e
    ∙ sym (append_assoc (part ++ codes "\n") (text_of own) (join_with_byte 10 others) ∙ append_assoc part (codes "\n") (text_of own ++ join_with_byte 10 others))
joined_by false part rest own others e = refl

joined_if : (b : Bool) (one other : List (List ℕ)) → (if b then join_with_byte 10 one else join_with_byte 10 other) ≡ join_with_byte 10 (if b then one else other)
joined_if true one other = refl
joined_if false one other = refl

-- the lines of a directive and what is behind them are the whole
pub parts_joined : (n : ℕ) (left : List (List ℕ)) → join_with_byte 10 left ≡ text_of (own_lines n left) ++ join_with_byte 10 (behind n left)
parts_joined n [] = refl
parts_joined n (part ∷ []) = refl
parts_joined n (part ∷ next ∷ parts) =
    let b = begins_with n part in
    joined_by b part (next ∷ parts) (own_lines n (next ∷ parts)) (behind n (next ∷ parts)) (parts_joined n (next ∷ parts))
    ∙ ap (λ (bs : List ℕ). text_of (if b then part ∷ own_lines n (next ∷ parts) else []) ++ bs) (joined_if b (behind n (next ∷ parts)) (part ∷ next ∷ parts))
