-- How many lines are taken.
use Rattle.std.proofs.Common.{◌≡◌, ℕ, ◌+◌, List, [], ◌∷◌, ◌++◌, length, map, drop, Some, Bool, true, false, refl, ◌∙◌, ap, sym, arith, cond, length-append}
use Rattle.std.specs.Prelude.{codes, decimal, count_by, if◌then◌else◌}
use Rattle.std.proofs.lemmas.Bool.{false≢true}
use Rattle.std.proofs.lemmas.List.Sums.{sum_by-append, sum_by-cons}
use Rattle.bench_report.specs.Lines.{Line, line_text, numbered}
use Rattle.bench_report.specs.Numbers.{IsNumber, Each}
use Rattle.report_text.specs.reading.Blocks.{own_lines, printed}
use Rattle.trace_reader.specs.Reading.{line_with, parts_of}
use Rattle.trace_reader.specs.Trace.{HasLineNumbers}
use Rattle.trace_reader.specs.declared.told.Told.{Told}
use Rattle.trace_reader.proofs.Digits.{none, none_append, no_feed}
use Rattle.trace_reader.proofs.FeedLaws.{nl, line_feedless}
use Rattle.trace_reader.proofs.LineByLine.{append_assoc_line}
use Rattle.report_text.specs.Unread.{Unread, comes, own, passed, told_next, after_told}
use Rattle.report_text.proofs.Taking.{comes_is, took_lines}
use Rattle.report_text.proofs.Telling.{told_is}

-- ---- line feeds of lines

none_case : (b : ℕ) (bs : List ℕ) (test : Bool) → nl b ≡ test → (if test then false else none nl bs) ≡ true → (none nl bs ≡ true → count_by nl bs ≡ 0) → cond test 1 0 + count_by nl bs ≡ 0
none_case b bs true e h ih = absurd (false≢true h)
none_case b bs false e h ih = let none_there = ih h in omega arith

no_feeds : (bs : List ℕ) → none nl bs ≡ true → count_by nl bs ≡ 0
no_feeds [] h = refl
no_feeds (b ∷ bs) h = sum_by-cons (λ (x : ℕ). cond (nl x) 1 0) b bs ∙ none_case b bs (nl b) refl h (λ g. no_feeds bs g)

one_feed : (number : ℕ) (line : Line) → IsNumber number → HasLineNumbers line → count_by nl (numbered number line) ≡ 1
one_feed number line n h =
    let none_there = no_feeds (line_with number line) (none_append nl (decimal number) (codes " " ++ line_text line) (no_feed number n) (line_feedless line h)) in
    ap (count_by nl) (sym (append_assoc_line number line)) ∙ (sum_by-append (λ (x : ℕ). cond (nl x) 1 0) (line_with number line) (codes "\n") ∙ ap (λ (k : ℕ). k + 1) none_there)

-- printed lines have as many line feeds
pub feeds : (number : ℕ) (lines : List Line) → IsNumber number → Each HasLineNumbers lines → count_by nl (printed number lines) ≡ length lines
feeds number [] n h = refl
feeds number (line ∷ lines) n h =
    let first = one_feed number line n h.0 in
    let more = feeds number lines n h.1 in
    sum_by-append (λ (x : ℕ). cond (nl x) 1 0) (numbered number line) (printed number lines) ∙ (let all : count_by nl (numbered number line) + count_by nl (printed number lines) ≡ length (line ∷ lines) = omega arith in all)

-- ---- lines of the block

length_map : (number : ℕ) (lines : List Line) → length (map (line_with number) lines) ≡ length lines
length_map number [] = refl
length_map number (line ∷ lines) = let ih = length_map number lines in omega arith

-- lines that come are the first ones of the block
pub count_printed : (r : Unread) (lines : List Line) (k : ℕ) → IsNumber r.number → Each HasLineNumbers lines → comes (printed r.number lines) r.left ≡ true → length (own r) ≡ length lines + length (own (passed (length (printed r.number lines)) k r))
count_printed r lines k n h c =
    let rest = drop (length (printed r.number lines)) r.left in
    ap (λ (bs : List ℕ). length (own_lines r.number (parts_of bs))) (comes_is (printed r.number lines) r.left c)
    ∙ (ap (λ (ls : List (List ℕ)). length ls) (took_lines r.number lines rest n h).own
    ∙ (length-append (map (line_with r.number) lines) (own_lines r.number (parts_of rest))
    ∙ ap (λ (m : ℕ). m + length (own_lines r.number (parts_of rest))) (length_map r.number lines)))

-- so is one that is read
pub count_told : (r : Unread) (t : Told) → IsNumber r.number → told_next r ≡ Some t → length (own r) ≡ 1 + length (own (after_told r (Some t)))
count_told r t n h =
    let i = told_is r t n h in
    ap (λ (ls : List (List ℕ)). length ls) i.took.own ∙ length-append (line_with r.number i.line ∷ []) (own (after_told r (Some t)))
