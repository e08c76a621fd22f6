-- The text of a trace is read as what its lines tell, and a text that is read is that of a trace.
use Rattle.std.proofs.Common.{◌≡◌, ℕ, ◌+◌, ◌<◌, ◌≤◌, List, [], ◌∷◌, ◌++◌, length, map, Some, None, Bool, true, false, refl, ◌∙◌, ap, sym, subst, arith, append_assoc, cond}
use Rattle.std.specs.Prelude.{◌==◌, Option, Ok, Err, bytes_eq, codes, decimal, count_by, if◌then◌else◌}
use Rattle.std.proofs.lemmas.List.{append-nil}
use Rattle.std.proofs.lemmas.List.Sums.{count_by-le-length, sum_by-cons}
use Rattle.std.specs.List.{join_with_byte}
use Rattle.std.proofs.lemmas.Bool.{false≢true}
use Rattle.std.proofs.lemmas.List.Splits.{join_with_byte-slice_split}
use Rattle.std.proofs.lemmas.Slice.Eq.{bytes_eq-Decides}
use Rattle.bench_report.specs.Lines.{Line, Holds, Makes, Waits, Notes, Errs, Returns, Leaves, Restarts, Shows, Done, line_text, numbered, end_text}
use Rattle.bench_report.specs.Numbers.{IsNumber, Each}
use Rattle.bench_report.specs.Report.{Numbered, end_of, is_return, is_leave, is_hold, is_error, is_note}
use Rattle.trace_reader.specs.Reading.{line_with, read_line, parts_of, ended, go_on, read_parts, read_trace, tally_of, count_of, is_returned, is_left, is_held, is_erred, is_noted}
use Rattle.trace_reader.specs.Told.{told, told_line}
use Rattle.trace_reader.specs.Trace.{HasLineNumbers, IsWithin, IsTraceOf, lines_text, trace_text}
use Rattle.trace_reader.specs.declared.told.TraceLine.{TraceLine}
use Rattle.trace_reader.specs.declared.told.Told.{Told}
use Rattle.trace_reader.proofs.Digits.{none, none_append, no_feed}
use Rattle.trace_reader.proofs.FeedLaws.{nl, line_feedless}
use Rattle.trace_reader.proofs.LineByLine.{read_more, read_last, line_is, line_again, same_bytes}

-- ---- the counts of the last line

same_return : (line : Line) → is_returned (told line) ≡ is_return line
same_return (Holds cause) = refl
same_return (Makes depth made value received event) = refl
same_return (Waits ticks) = refl
same_return (Notes notice) = refl
same_return (Errs found) = refl
same_return (Returns service head words) = refl
same_return (Leaves line) = refl
same_return (Restarts reason dropped) = refl
same_return (Shows row) = refl
same_return Done = refl

same_leave : (line : Line) → is_left (told line) ≡ is_leave line
same_leave (Holds cause) = refl
same_leave (Makes depth made value received event) = refl
same_leave (Waits ticks) = refl
same_leave (Notes notice) = refl
same_leave (Errs found) = refl
same_leave (Returns service head words) = refl
same_leave (Leaves line) = refl
same_leave (Restarts reason dropped) = refl
same_leave (Shows row) = refl
same_leave Done = refl

same_hold : (line : Line) → is_held (told line) ≡ is_hold line
same_hold (Holds cause) = refl
same_hold (Makes depth made value received event) = refl
same_hold (Waits ticks) = refl
same_hold (Notes notice) = refl
same_hold (Errs found) = refl
same_hold (Returns service head words) = refl
same_hold (Leaves line) = refl
same_hold (Restarts reason dropped) = refl
same_hold (Shows row) = refl
same_hold Done = refl

same_error : (line : Line) → is_erred (told line) ≡ is_error line
same_error (Holds cause) = refl
same_error (Makes depth made value received event) = refl
same_error (Waits ticks) = refl
same_error (Notes notice) = refl
same_error (Errs found) = refl
same_error (Returns service head words) = refl
same_error (Leaves line) = refl
same_error (Restarts reason dropped) = refl
same_error (Shows row) = refl
same_error Done = refl

same_note : (line : Line) → is_noted (told line) ≡ is_note line
same_note (Holds cause) = refl
same_note (Makes depth made value received event) = refl
same_note (Waits ticks) = refl
same_note (Notes notice) = refl
same_note (Errs found) = refl
same_note (Returns service head words) = refl
same_note (Leaves line) = refl
same_note (Restarts reason dropped) = refl
same_note (Shows row) = refl
same_note Done = refl

same_count : (p : Told → Bool) (q : Line → Bool) → ((line : Line) → p (told line) ≡ q line) → (lines : List Numbered) → count_of p (map told_line lines) ≡ count_by (λ l. q l.says) lines
same_count p q same [] = refl
same_count p q same (line ∷ lines) =
    sum_by-cons (λ (l : TraceLine). cond (p l.told) 1 0) (told_line line) (map told_line lines)
    ∙ (ap (λ (b : Bool). cond b 1 0 + count_of p (map told_line lines)) (same line.says)
    ∙ (ap (λ (n : ℕ). cond (q line.says) 1 0 + n) (same_count p q same lines)
    ∙ sym (sum_by-cons (λ (l : Numbered). cond (q l.says) 1 0) line lines)))

-- the last line counts what is told
same_end : (lines : List Numbered) → end_text (tally_of (map told_line lines)) ≡ end_of lines
same_end lines = rw (same_count is_returned is_return same_return lines, same_count is_left is_leave same_leave lines, same_count is_held is_hold same_hold lines, same_count is_erred is_error same_error lines, same_count is_noted is_note same_note lines) refl

count_within : (q : Line → Bool) (lines : List Numbered) → count_by (λ l. q l.says) lines ≤ length lines
count_within q lines = count_by-le-length (λ l. q l.says) lines

-- ---- cut at line feeds

split_case : (x : ℕ) (xs s : List ℕ) (b : Bool) → (x == 10) ≡ b → (if b then false else none nl xs) ≡ true → (none nl xs ≡ true → parts_of (xs ++ 10 ∷ s) ≡ xs ∷ parts_of s) → parts_of (x ∷ (xs ++ 10 ∷ s)) ≡ (x ∷ xs) ∷ parts_of s
split_case x xs s true e h ih = absurd (false≢true h)
split_case x xs s false e h ih = rw (e, ih h) refl

pub split_front : (xs s : List ℕ) → none nl xs ≡ true → parts_of (xs ++ 10 ∷ s) ≡ xs ∷ parts_of s
split_front [] s h = refl
split_front (x ∷ xs) s h = split_case x xs s (x == 10) refl h (λ g. split_front xs s g)

-- the last line without its line feed
end_front : (a b c d e : ℕ) → List ℕ
end_front a b c d e = codes "end calls " ++ (decimal a ++ (codes " handlers " ++ (decimal b ++ (codes " held " ++ (decimal c ++ (codes " errors " ++ (decimal d ++ (codes " notes " ++ decimal e))))))))

end_whole : (a b c d e : ℕ) → end_text (record { calls = a; handlers = b; held = c; errors = d; notes = e }) ≡ end_front a b c d e ++ 10 ∷ []
unfolding end_front
end_whole a b c d e = sym (simp append_assoc)

piece : (n : ℕ) (s : List ℕ) → IsNumber n → none nl s ≡ true → none nl (decimal n ++ s) ≡ true
piece n s h k = none_append nl (decimal n) s (no_feed n h) k

end_feedless : (a b c d e : ℕ) → IsNumber a → IsNumber b → IsNumber c → IsNumber d → IsNumber e → none nl (end_front a b c d e) ≡ true
unfolding end_front
end_feedless a b c d e ha hb hc hd he = piece a _ ha (piece b _ hb (piece c _ hc (piece d _ hd (no_feed e he))))

end_is_none : (a b c d e : ℕ) → read_line (end_front a b c d e) ≡ None
unfolding end_front
end_is_none a b c d e = refl

within : (m n : ℕ) → m ≤ n → n < 4294967296 → IsNumber m
within m n h k = omega arith

end_parts : (lines : List Numbered) → length lines < 4294967296 → parts_of (end_of lines) ≡ end_front (count_by (λ l. is_return l.says) lines) (count_by (λ l. is_leave l.says) lines) (count_by (λ l. is_hold l.says) lines) (count_by (λ l. is_error l.says) lines) (count_by (λ l. is_note l.says) lines) ∷ parts_of []
end_parts lines few =
    ap parts_of (end_whole _ _ _ _ _)
    ∙ split_front _ [] (end_feedless _ _ _ _ _ (within _ _ (count_within is_return lines) few) (within _ _ (count_within is_leave lines) few) (within _ _ (count_within is_hold lines) few) (within _ _ (count_within is_error lines) few) (within _ _ (count_within is_note lines) few))

end_again : (lines : List Numbered) → length lines < 4294967296 → read_parts (map told_line lines) (parts_of (end_of lines)) ≡ Ok (map told_line lines)
end_again lines few =
    read_last (map told_line lines) (end_of lines) _ [] (end_parts lines few) (end_is_none _ _ _ _ _)
    ∙ rw (same_bytes (end_of lines) (end_text (tally_of (map told_line lines))) (sym (same_end lines))) refl

-- ---- all lines

line_front : (n : ℕ) (line : Line) (s : List ℕ) → numbered n line ++ s ≡ line_with n line ++ 10 ∷ s
line_front n line s = append_assoc (decimal n) (codes " " ++ (line_text line ++ codes "\n")) s ∙ (ap (λ (bs : List ℕ). decimal n ++ (codes " " ++ bs)) (append_assoc (line_text line) (codes "\n") s) ∙ sym (append_assoc (decimal n) (codes " " ++ line_text line) (10 ∷ s)))

line_parts : (n : ℕ) (line : Line) (s : List ℕ) → IsNumber n → HasLineNumbers line → parts_of (numbered n line ++ s) ≡ line_with n line ∷ parts_of s
line_parts n line s h k = ap parts_of (line_front n line s) ∙ split_front (line_with n line) s (none_append nl (decimal n) (codes " " ++ line_text line) (no_feed n h) (line_feedless line k))

map_more : (front : List Numbered) (line : Numbered) → map told_line (front ++ line ∷ []) ≡ map told_line front ++ told_line line ∷ []
map_more [] line = refl
map_more (x ∷ front) line = ap (λ (ls : List TraceLine). told_line x ∷ ls) (map_more front line)

rest_again : (front back : List Numbered) → Each IsWithin back → length (front ++ back) < 4294967296 → read_parts (map told_line front) (parts_of (lines_text back ++ end_of (front ++ back))) ≡ Ok (map told_line (front ++ back))
rest_again front [] h few = rw (append-nil front) (end_again front (subst (λ (ls : List Numbered). length ls < 4294967296) (append-nil front) few))
rest_again front (line ∷ back) h few =
    let all : (front ++ line ∷ []) ++ back ≡ front ++ line ∷ back = append_assoc front (line ∷ []) back in
    let rest = lines_text back ++ end_of (front ++ line ∷ back) in
    let text : lines_text (line ∷ back) ++ end_of (front ++ line ∷ back) ≡ numbered line.number line.says ++ rest = append_assoc (numbered line.number line.says) (lines_text back) (end_of (front ++ line ∷ back)) in
    let parts : parts_of (lines_text (line ∷ back) ++ end_of (front ++ line ∷ back)) ≡ line_with line.number line.says ∷ parts_of rest = ap parts_of text ∙ line_parts line.number line.says rest h.0.0 h.0.1 in
    let ih : read_parts (map told_line (front ++ line ∷ [])) (parts_of (lines_text back ++ end_of ((front ++ line ∷ []) ++ back))) ≡ Ok (map told_line ((front ++ line ∷ []) ++ back)) = rest_again (front ++ line ∷ []) back h.1 (subst (λ (ls : List Numbered). length ls < 4294967296) (sym all) few) in
    let ih2 : read_parts (map told_line front ++ told_line line ∷ []) (parts_of rest) ≡ Ok (map told_line (front ++ line ∷ back)) = rw (← map_more front line) (subst (λ (ls : List Numbered). read_parts (map told_line (front ++ line ∷ [])) (parts_of (lines_text back ++ end_of ls)) ≡ Ok (map told_line ls)) all ih) in
    read_more (map told_line front) (lines_text (line ∷ back) ++ end_of (front ++ line ∷ back)) (line_with line.number line.says) rest (told_line line) parts (line_again line.number line.says h.0.0 h.0.1) ∙ ih2

-- the text of a trace is read as what its lines tell
pub trace_again : (lines : List Numbered) → Each IsWithin lines → length lines < 4294967296 → read_trace (trace_text lines) ≡ Ok (map told_line lines)
trace_again lines h few = rest_again [] lines h few

-- ---- what is read

-- Behind some lines a text is that of more lines and of the last one, which counts all of them.
record IsBehind (front : List Numbered) (text : List ℕ) (lines : List TraceLine) : Type 0 where
  back : List Numbered
  is : lines_text back ++ end_of (front ++ back) ≡ text
  tells : map told_line (front ++ back) ≡ lines

end_case : (front : List Numbered) (rest : List ℕ) (lines : List TraceLine) (n : ℕ) (b c : Bool) → bytes_eq rest (end_text (tally_of (map told_line front))) ≡ b → (if b then Ok (map told_line front) else if c then Err (n + 2) else Err (n + 1)) ≡ Ok lines → IsBehind front rest lines
end_case front rest lines n true c e h =
    let same : rest ≡ end_text (tally_of (map told_line front)) = (bytes_eq-Decides rest (end_text (tally_of (map told_line front)))).0 e in
    let told : map told_line front ≡ lines = cc in
    record { back = []; is = rw (append-nil front) (sym (same ∙ same_end front)); tells = rw (append-nil front) told }
end_case front rest lines n false true e h = cc
end_case front rest lines n false false e h = cc

end_is : (front : List Numbered) (rest : List ℕ) (lines : List TraceLine) → ended (map told_line front) rest ≡ Ok lines → IsBehind front rest lines
end_is front rest lines h = end_case front rest lines (length (map told_line front)) (bytes_eq rest (end_text (tally_of (map told_line front)))) _ refl h

more_is : (front : List Numbered) (part rest : List ℕ) (lines : List TraceLine) (line : Numbered) → numbered line.number line.says ≡ part ++ codes "\n" → IsBehind (front ++ line ∷ []) rest lines → IsBehind front (part ++ 10 ∷ rest) lines
more_is front part rest lines line printed h =
    let all : (front ++ line ∷ []) ++ h.back ≡ front ++ line ∷ h.back = append_assoc front (line ∷ []) h.back in
    let text : lines_text h.back ++ end_of (front ++ line ∷ h.back) ≡ rest = subst (λ (ls : List Numbered). lines_text h.back ++ end_of ls ≡ rest) all h.is in
    record {
      back = line ∷ h.back;
      is = append_assoc (numbered line.number line.says) (lines_text h.back) (end_of (front ++ line ∷ h.back))
          ∙ (ap (λ (bs : List ℕ). numbered line.number line.says ++ bs) text
          ∙ (ap (λ (bs : List ℕ). bs ++ rest) printed ∙ append_assoc part (codes "\n") rest));
      tells = subst (λ (ls : List Numbered). map told_line ls ≡ lines) all h.tells;
    }

-- where a line is read, and those behind it
step_is : (front : List Numbered) (part rest : List ℕ) (parts : List (List ℕ)) (lines : List TraceLine) (o : Option TraceLine) → read_line part ≡ o →
    ((f : List Numbered) → read_parts (map told_line f) parts ≡ Ok lines → IsBehind f rest lines) →
    go_on (map told_line front) (part ++ 10 ∷ rest) (λ more. read_parts more parts) o ≡ Ok lines → IsBehind front (part ++ 10 ∷ rest) lines
step_is front part rest parts lines None e ih h = end_is front (part ++ 10 ∷ rest) lines h
step_is front part rest parts lines (Some t) e ih h =
    let l = line_is part t e in
    let more : map told_line (front ++ l.printed ∷ []) ≡ map told_line front ++ t ∷ [] = map_more front l.printed ∙ ap (λ (u : TraceLine). map told_line front ++ u ∷ []) l.tells in
    more_is front part rest lines l.printed l.is (ih (front ++ l.printed ∷ []) (rw more h))

parts_is : (parts : List (List ℕ)) (lines : List TraceLine) (front : List Numbered) → read_parts (map told_line front) parts ≡ Ok lines → IsBehind front (join_with_byte 10 parts) lines
parts_is [] lines front h = cc
parts_is (part ∷ []) lines front h = cc
parts_is (part ∷ next ∷ parts) lines front h = step_is front part (join_with_byte 10 (next ∷ parts)) (next ∷ parts) lines (read_line part) refl (λ f. parts_is (next ∷ parts) lines f) h

-- a text that is read is that of a trace, which tells what is read
pub trace_is : (text : List ℕ) (lines : List TraceLine) → read_trace text ≡ Ok lines → IsTraceOf text lines
trace_is text lines h =
    let b = parts_is (parts_of text) lines [] h in
    record { printed = b.back; is = b.is ∙ join_with_byte-slice_split 10 text; tells = b.tells }
