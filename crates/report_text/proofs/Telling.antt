-- Lines that are read as what they tell.
use Rattle.std.proofs.Common.{◌≡◌, ℕ, ◌+◌, List, [], ◌∷◌, ◌++◌, length, drop, Option, Some, None, Bool, true, false, refl, ◌∙◌, ap, sym, subst, append_assoc, ◌≤◌, arith}
use Rattle.std.specs.Prelude.{codes, decimal, nat_le, option_map, bytes_eq, if◌then◌else◌}
use Rattle.std.proofs.lemmas.Bool.Decides.{nat_tests}
use Rattle.std.proofs.lemmas.Slice.Eq.{bytes_eq-Decides}
use Rattle.bench_report.specs.Lines.{Line, numbered}
use Rattle.bench_report.specs.Numbers.{IsNumber}
use Rattle.report_text.specs.reading.Blocks.{begins_with, own_lines}
use Rattle.trace_reader.specs.Guess.{words_of, guess}
use Rattle.trace_reader.specs.Reading.{line_with, told_where, read_number, read_words, read_line, parts_of}
use Rattle.trace_reader.specs.Told.{told}
use Rattle.trace_reader.specs.Trace.{HasLineNumbers, MovesOn}
use Rattle.trace_reader.specs.declared.laws.TheConstants.{MOST_MOVING}
use Rattle.trace_reader.specs.declared.told.Told.{Told}
use Rattle.trace_reader.specs.declared.told.TraceLine.{TraceLine}
use Rattle.trace_reader.proofs.Digits.{number_again, no_space}
use Rattle.trace_reader.proofs.LineByLine.{line_again}
use Rattle.trace_reader.proofs.Short.{line_short}
use Rattle.trace_reader.proofs.Splits.{front_word}
use Rattle.report_text.specs.Unread.{Unread, own, told_of_line, told_first, told_next, past_first, after_told}
use Rattle.report_text.specs.Taken.{Took, IsTold}
use Rattle.report_text.proofs.Cutting.{own_begins, own_took}
use Rattle.report_text.proofs.Taking.{comes_is, took_line}

-- ---- what a line is that tells something

-- The text is what a line prints behind a number, of which this is told.
record Says (number : ℕ) (text : List ℕ) (tells : Told) : Type 0 where
  line : Line
  is : line_with number line ≡ text
  of_it : told line ≡ tells

says_case : (n : ℕ) (text : List ℕ) (line : Line) (t : TraceLine) (b : Bool) → bytes_eq (line_with n line) text ≡ b → (if b then Some (record { number = n; told = told line }) else None) ≡ Some t → Says n text t.told
says_case n text line t true e h =
    let same : record { number = n; told = told line } ≡ t = cc in
    record { line = line; is = (bytes_eq-Decides (line_with n line) text).0 e; of_it = ap (λ (l : TraceLine). l.told) same }
says_case n text line t false e h = cc

says_where : (n : ℕ) (text : List ℕ) (line : Option Line) (t : TraceLine) → told_where n text line ≡ Some t → Says n text t.told
says_where n text None t h = cc
says_where n text (Some line) t h = says_case n text line t (bytes_eq (line_with n line) text) refl h

-- the number behind which it is printed is the block's
says_own : (n : ℕ) (text : List ℕ) (t : TraceLine) → IsNumber n → begins_with n text ≡ true → read_line text ≡ Some t → Says n text t.told
says_own n text t h b r =
    let tail = drop (length (decimal n ++ codes " ")) text in
    let front : text ≡ decimal n ++ (codes " " ++ tail) = comes_is (decimal n ++ codes " ") text b ∙ append_assoc (decimal n) (codes " ") tail in
    let words : words_of text ≡ decimal n ∷ words_of tail = ap words_of front ∙ front_word (decimal n) (codes " " ++ tail) (no_space n h) refl in
    let read : read_line text ≡ told_where n text (guess (words_of tail)) = ap (λ (ws : List (List ℕ)). read_words ws text) words ∙ ap (λ (o : Option ℕ). read_number o (words_of tail) text) (number_again n h) in
    says_where n text (guess (words_of tail)) t (sym read ∙ r)

-- A line is read.
record IsFound (line : List ℕ) (tells : Told) : Type 0 where
  found : TraceLine
  is : read_line line ≡ Some found
  of_it : found.told ≡ tells

found_case : (line : List ℕ) (t : Told) (b : Bool) (o : Option TraceLine) → read_line line ≡ o → (if b then option_map (λ l. l.told) o else None) ≡ Some t → IsFound line t
found_case line t true None e h = cc
found_case line t true (Some found) e h = record { found = found; is = e; of_it = cc }
found_case line t false o e h = cc

told_case : (r : Unread) (t : Told) (lines : List (List ℕ)) → IsNumber r.number → own r ≡ lines → told_first lines ≡ Some t → IsTold r t
told_case r t [] n e h = cc
told_case r t (line ∷ lines) n e h =
    let f = found_case line t (nat_le (length line) MOST_MOVING) (read_line line) refl h in
    let s = says_own r.number line f.found n (own_begins r.number r.left line lines e) f.is in
    let left : (after_told r (Some t)).left ≡ drop (length line + 1) r.left = ap (λ (ls : List (List ℕ)). past_first ls r.left) e in
    record {
      line = s.line;
      is = s.of_it ∙ f.of_it;
      took = subst (λ (l : List ℕ). Took r.number r.left (l ∷ []) (after_told r (Some t)).left) (sym s.is)
          (subst (λ (rest : List ℕ). Took r.number r.left (line ∷ []) rest) (sym left) (own_took r.number r.left line lines e));
    }

-- what is told is what such a line prints, with the number of the block
pub told_is : (r : Unread) (t : Told) → IsNumber r.number → told_next r ≡ Some t → IsTold r t
told_is r t n h = told_case r t (own r) n refl h

-- ---- what is told of a line that moves a run on

within_most : (k : ℕ) → k ≤ 160 → nat_le k 160 ≡ true
within_most k h = grind (arith, nat_tests)

by_again : (line : List ℕ) (t : TraceLine) → length line ≤ 160 → read_line line ≡ Some t → told_of_line line ≡ Some t.told
by_again line t h r = rw (within_most (length line) h, r) refl

pub told_again : (r : Unread) (line : Line) (rest : List ℕ) → IsNumber r.number → HasLineNumbers line → MovesOn line → r.left ≡ numbered r.number line ++ rest → told_next r ≡ Some (told line)
told_again r line rest n h m e =
    let first : own r ≡ line_with r.number line ∷ own_lines r.number (parts_of rest) = ap (λ (bs : List ℕ). own_lines r.number (parts_of bs)) e ∙ (took_line r.number line rest n h).own in
    ap told_first first ∙ by_again (line_with r.number line) _ (line_short r.number line n h m) (line_again r.number line n h)
