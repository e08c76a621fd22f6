-- How a text is read line by line, and that the text of a trace is read as what it tells.
use Rattle.std.proofs.Common.{◌≡◌, ℕ, ◌+◌, List, [], ◌∷◌, ◌++◌, length, Option, Some, None, Bool, true, false, refl, ◌∙◌, ap, sym, append_assoc}
use Rattle.std.specs.Prelude.{◌==◌, Err, bytes_eq, codes, decimal, if◌then◌else◌}
use Rattle.std.specs.List.{join_with_byte}
use Rattle.std.proofs.lemmas.List.Splits.{join_with_byte-slice_split}
use Rattle.std.proofs.lemmas.Slice.Eq.{bytes_eq-Decides}
use Rattle.bench_report.specs.Lines.{Line, line_text, numbered}
use Rattle.trace_reader.specs.Guess.{words_of, guess}
use Rattle.trace_reader.specs.Numbers.{number}
use Rattle.trace_reader.specs.Reading.{line_with, told_where, read_number, read_words, read_line, parts_of, ended, go_on, read_parts}
use Rattle.trace_reader.specs.Told.{told, told_line}
use Rattle.bench_report.specs.Numbers.{IsNumber}
use Rattle.trace_reader.specs.Trace.{HasLineNumbers, IsLineOf}
use Rattle.trace_reader.specs.declared.told.TraceLine.{TraceLine}
use Rattle.trace_reader.proofs.Digits.{number_again, no_space}
use Rattle.trace_reader.proofs.LineLaws.{IsRead, read_again}
use Rattle.trace_reader.proofs.Splits.{front_word}

-- ---- one line after the other

-- A text has parts.
record HasParts (text : List ℕ) : Type 0 where
  next : List ℕ
  parts : List (List ℕ)
  is : parts_of text ≡ next ∷ parts

onto_parts : (b : ℕ) (bs : List ℕ) (test : Bool) → (b == 10) ≡ test → HasParts bs → HasParts (b ∷ bs)
onto_parts b bs true e h = record { next = []; parts = parts_of bs; is = rw e refl }
onto_parts b bs false e h = record { next = b ∷ h.next; parts = h.parts; is = rw (e, h.is) refl }

has_parts : (text : List ℕ) → HasParts text
has_parts [] = record { next = []; parts = []; is = refl }
has_parts (b ∷ bs) = onto_parts b bs (b == 10) refl (has_parts bs)

more_of : (lines : List TraceLine) (rest line behind : List ℕ) (h : HasParts behind) → parts_of rest ≡ line ∷ parts_of behind → read_parts lines (parts_of rest) ≡ go_on lines rest (λ more. read_parts more (parts_of behind)) (read_line line)
more_of lines rest line behind h e =
    let all : parts_of rest ≡ line ∷ h.next ∷ h.parts = e ∙ ap (λ (ps : List (List ℕ)). line ∷ ps) h.is in
    let back : join_with_byte 10 (line ∷ h.next ∷ h.parts) ≡ rest = ap (join_with_byte 10) (sym all) ∙ join_with_byte-slice_split 10 rest in
    ap (read_parts lines) all ∙ rw (back, h.is) refl

pub read_more : (lines : List TraceLine) (rest line behind : List ℕ) (t : TraceLine) → parts_of rest ≡ line ∷ parts_of behind → read_line line ≡ Some t → read_parts lines (parts_of rest) ≡ read_parts (lines ++ t ∷ []) (parts_of behind)
read_more lines rest line behind t e r = more_of lines rest line behind (has_parts behind) e ∙ rw r refl

pub read_last : (lines : List TraceLine) (rest line behind : List ℕ) → parts_of rest ≡ line ∷ parts_of behind → read_line line ≡ None → read_parts lines (parts_of rest) ≡ ended lines rest
read_last lines rest line behind e r = more_of lines rest line behind (has_parts behind) e ∙ rw r refl

pub read_none : (lines : List TraceLine) (rest : List ℕ) → parts_of rest ≡ rest ∷ [] → read_parts lines (parts_of rest) ≡ Err (length lines + 1)
read_none lines rest e = ap (read_parts lines) e

-- ---- lines

pub append_assoc_line : (n : ℕ) (line : Line) → line_with n line ++ codes "\n" ≡ numbered n line
append_assoc_line n line = append_assoc (decimal n) (codes " " ++ line_text line) (codes "\n") ∙ ap (λ (bs : List ℕ). decimal n ++ (codes " " ++ bs)) refl

told_is : (n : ℕ) (text : List ℕ) (read : Line) (t : TraceLine) (b : Bool) → bytes_eq (line_with n read) text ≡ b → (if b then Some (record { number = n; told = told read }) else None) ≡ Some t → IsLineOf (text ++ codes "\n") t
told_is n text read t true e h =
    let same : line_with n read ≡ text = (bytes_eq-Decides (line_with n read) text).0 e in
    let tells : record { number = n; told = told read } ≡ t = cc in
    record { printed = record { number = n; says = read }; is = sym (append_assoc_line n read) ∙ ap (λ (bs : List ℕ). bs ++ codes "\n") same; tells = tells }
told_is n text read t false e h = cc

where_is : (n : ℕ) (text : List ℕ) (read : Option Line) (t : TraceLine) → told_where n text read ≡ Some t → IsLineOf (text ++ codes "\n") t
where_is n text None t h = cc
where_is n text (Some read) t h = told_is n text read t (bytes_eq (line_with n read) text) refl h

number_is : (n : Option ℕ) (words : List (List ℕ)) (text : List ℕ) (t : TraceLine) → read_number n words text ≡ Some t → IsLineOf (text ++ codes "\n") t
number_is None words text t h = cc
number_is (Some n) words text t h = where_is n text (guess words) t h

words_is : (words : List (List ℕ)) (text : List ℕ) (t : TraceLine) → read_words words text ≡ Some t → IsLineOf (text ++ codes "\n") t
words_is [] text t h = cc
words_is (first ∷ words) text t h = number_is (number first) words text t h

-- what is read is told by a line that prints it
pub line_is : (text : List ℕ) (t : TraceLine) → read_line text ≡ Some t → IsLineOf (text ++ codes "\n") t
line_is text t h = words_is (words_of text) text t h

pub same_bytes : (xs ys : List ℕ) → xs ≡ ys → bytes_eq xs ys ≡ true
same_bytes xs ys same = (bytes_eq-Decides xs ys).1 same

where_again : (n : ℕ) (line : Line) (r : IsRead (words_of (line_text line)) line) → told_where n (line_with n line) (Some r.read) ≡ Some (told_line (record { number = n; says = line }))
where_again n line r =
    let prints : line_with n r.read ≡ line_with n line = ap (λ (bs : List ℕ). decimal n ++ (codes " " ++ bs)) r.prints in
    rw (same_bytes (line_with n r.read) (line_with n line) prints, r.tells) refl

-- what a line prints is read as what it tells
pub line_again : (n : ℕ) (line : Line) → IsNumber n → HasLineNumbers line → read_line (line_with n line) ≡ Some (told_line (record { number = n; says = line }))
line_again n line h k =
    let r = read_again line k in
    let words : words_of (line_with n line) ≡ decimal n ∷ words_of (line_text line) = front_word (decimal n) (codes " " ++ line_text line) (no_space n h) refl in
    ap (λ (ws : List (List ℕ)). read_words ws (line_with n line)) words ∙ rw (number_again n h, r.is) (where_again n line r)
