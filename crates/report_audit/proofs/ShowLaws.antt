-- The rows of a show, whatever their numbers are, are printed as lines of their own.
use Rattle.std.proofs.Common.{◌≡◌, ℕ, suc, ◌+◌, ◌≤◌, Bool, true, false, List, [], ◌∷◌, ◌++◌, length, map, drop, refl, sym, ◌∙◌, ap, subst, arith, append_assoc, length-append}
use Rattle.std.specs.Prelude.{◌==◌, codes, decimal, count_by, cond, if◌then◌else◌}
use Rattle.std.proofs.lemmas.List.Sums.{sum_by-append, sum_by-cons}
use Rattle.bench_report.specs.Lines.{Line, Shows, numbered}
use Rattle.bench_report.specs.Rows.{Row, row_text}
use Rattle.bench_report.specs.Shown.{rows_text}
use Rattle.report_text.specs.reading.Blocks.{begins_with, printed, text_of}
use Rattle.report_text.proofs.RowLaws.{feedless, row_feedless}
use Rattle.trace_reader.specs.Reading.{line_with, parts_of}
use Rattle.trace_reader.proofs.Digits.{none, none_append}
use Rattle.trace_reader.proofs.FeedLaws.{nl}
use Rattle.trace_reader.proofs.LineByLine.{append_assoc_line}
use Rattle.trace_reader.proofs.Whole.{split_front}
use Rattle.report_text.specs.Unread.{Unread, comes, own, own_text, passed, taken}
use Rattle.mcal_base.specs.facts.Numbers.{eq_is}
use Rattle.mcal_base.specs.facts.Truths.{off_on}
use Rattle.report_text.specs.Taken.{Took}
use Rattle.report_text.proofs.Cutting.{took_first}
use Rattle.report_text.proofs.Owning.{takes}
use Rattle.report_text.proofs.Taking.{comes_again, comes_is, took_more, took_none, took_text}
use Rattle.bench_report.specs.Lines.{Done}
use Rattle.bench_report.specs.Report.{with_done}
use Rattle.report_text.specs.reading.Blocks.{AuditState}
use Rattle.report_text.proofs.Nexts.{some_bytes}
use Rattle.report_steps.specs.Lines.{Advances, TakesLine}
use Rattle.report_steps.specs.Taking.{Takes}
use Rattle.report_steps.proofs.LinesLaws.{advances_none}
use Rattle.report_audit.specs.Directives.{PrintsRows}
use Rattle.report_audit.proofs.TakeLaws.{never, takes_line, took}

-- ---- no line feed in a row

line_feedless : (number : ℕ) (row : Row) → none nl (line_with number (Shows row)) ≡ true
line_feedless number row = none_append nl (decimal number) (codes " " ++ row_text row) (feedless number) (row_feedless row)

-- ---- they are taken

-- the rows of a show, as lines
abbrev pub shows_of : List Row → List Line
shows_of rows = map (λ row. Shows row) rows

pub rows_printed : (number : ℕ) (rows : List Row) → rows_text number rows ≡ printed number (shows_of rows)
rows_printed number [] = refl
rows_printed number (row ∷ rows) = ap (λ (bs : List ℕ). numbered number (Shows row) ++ bs) (rows_printed number rows)

-- a row begins with its number, and ends with its line feed
begins_row : (number : ℕ) (row : Row) → begins_with number (line_with number (Shows row)) ≡ true
begins_row number row = ap (begins_with number) (sym (append_assoc (decimal number) (codes " ") (row_text row))) ∙ comes_again (decimal number ++ codes " ") (row_text row)

row_front : (number : ℕ) (row : Row) (rest : List ℕ) → numbered number (Shows row) ++ rest ≡ line_with number (Shows row) ++ 10 ∷ rest
row_front number row rest = ap (λ (bs : List ℕ). bs ++ rest) (sym (append_assoc_line number (Shows row))) ∙ append_assoc (line_with number (Shows row)) (codes "\n") rest

rows_joined : (number : ℕ) (rows : List Row) → text_of (map (line_with number) (shows_of rows)) ≡ printed number (shows_of rows)
rows_joined number [] = refl
rows_joined number (row ∷ rows) =
    ap (λ (bs : List ℕ). bs ++ text_of (map (line_with number) (shows_of rows))) (append_assoc_line number (Shows row)) ∙ ap (λ (bs : List ℕ). numbered number (Shows row) ++ bs) (rows_joined number rows)

took_row : (number : ℕ) (row : Row) (rest : List ℕ) → Took number (numbered number (Shows row) ++ rest) (line_with number (Shows row) ∷ []) rest
took_row number row rest =
    let front = row_front number row rest in
    took_first number (numbered number (Shows row) ++ rest) (line_with number (Shows row)) rest front
    (ap parts_of front ∙ split_front (line_with number (Shows row)) rest (line_feedless number row))
    (begins_row number row)

took_rows : (number : ℕ) (rows : List Row) (rest : List ℕ) → Took number (printed number (shows_of rows) ++ rest) (map (line_with number) (shows_of rows)) rest
took_rows number [] rest = took_none number rest
took_rows number (row ∷ rows) rest =
    let behind_it = printed number (shows_of rows) ++ rest in
    let all = took_more number (numbered number (Shows row) ++ behind_it) behind_it rest (line_with number (Shows row) ∷ []) (map (line_with number) (shows_of rows)) (took_row number row behind_it) (took_rows number rows rest) in
    subst (λ (text : List ℕ). Took number text (line_with number (Shows row) ∷ map (line_with number) (shows_of rows)) rest) (sym (append_assoc (numbered number (Shows row)) (printed number (shows_of rows)) rest)) all

-- ---- how many there are

no_feeds_case : (b : ℕ) (bs : List ℕ) (test : Bool) → nl b ≡ test → (if test then false else none nl bs) ≡ true → (none nl bs ≡ true → count_by nl bs ≡ 0) → cond test 1 0 + count_by nl bs ≡ 0
no_feeds_case b bs true e h ih = absurd (cc)
no_feeds_case b bs false e h ih = let none_there = ih h in omega arith

no_feeds : (bs : List ℕ) → none nl bs ≡ true → count_by nl bs ≡ 0
no_feeds [] h = refl
no_feeds (b ∷ bs) h = sum_by-cons (λ (x : ℕ). cond (nl x) 1 0) b bs ∙ no_feeds_case b bs (nl b) refl h (λ g. no_feeds bs g)

one_feed : (number : ℕ) (row : Row) → count_by nl (numbered number (Shows row)) ≡ 1
one_feed number row =
    ap (count_by nl) (sym (append_assoc_line number (Shows row)))
    ∙ (sum_by-append (λ (x : ℕ). cond (nl x) 1 0) (line_with number (Shows row)) (codes "\n")
    ∙ ap (λ (k : ℕ). k + 1) (no_feeds (line_with number (Shows row)) (line_feedless number row)))

one_and : (a b n : ℕ) → a ≡ 1 → b ≡ n → a + b ≡ suc n
one_and a b n e f = omega (arith, e, f)

feeds : (number : ℕ) (rows : List Row) → count_by nl (printed number (shows_of rows)) ≡ length rows
feeds number [] = refl
feeds number (row ∷ rows) =
    sum_by-append (λ (x : ℕ). cond (nl x) 1 0) (numbered number (Shows row)) (printed number (shows_of rows))
    ∙ one_and (count_by nl (numbered number (Shows row))) (count_by nl (printed number (shows_of rows))) (length rows) (one_feed number row) (feeds number rows)

length_lines : (number : ℕ) (rows : List Row) → length (map (line_with number) (shows_of rows)) ≡ length rows
length_lines number [] = refl
length_lines number (row ∷ rows) = ap (λ (n : ℕ). suc n) (length_lines number rows)

-- ---- off the front of a block

counted : (a b k n m : ℕ) → a ≡ n + b → k ≡ n → (m + k) + b ≡ m + a
counted a b k n m e f = omega (arith, e, f)

longer : (n m : ℕ) → 1 ≤ n → n + m ≡ 0 → ⊥
longer n m some e = absurd (omega (arith, some, e))

empty_is : (bs : List ℕ) → (length bs == 0) ≡ true → bs ≡ []
empty_is [] h = refl
empty_is (b ∷ bs) h = let e = eq_is (length (b ∷ bs)) 0 h in absurd (omega (arith, e))

empty_rows : (number : ℕ) (rows : List Row) → rows_text number rows ≡ [] → rows ≡ []
empty_rows number [] e = refl
empty_rows number (row ∷ rows) e =
    absurd (longer (length (numbered number (Shows row))) (length (rows_text number rows)) (some_bytes number (Shows row))
    (sym (length-append (numbered number (Shows row)) (rows_text number rows)) ∙ ap (λ (bs : List ℕ). length bs) e))

module _ (r : Unread) (rows : List Row) (text : List ℕ) (text_is : text ≡ rows_text r.number rows) where
  is_printed : text ≡ printed r.number (shows_of rows)
  is_printed = text_is ∙ rows_printed r.number rows

  -- what is left behind them
  abbrev left_over : Unread
  left_over = passed (length text) (count_by nl text) r

  rows_took : comes text r.left ≡ true → Took r.number r.left (map (line_with r.number) (shows_of rows)) left_over.left
  rows_took c =
      subst (λ (bs : List ℕ). Took r.number bs (map (line_with r.number) (shows_of rows)) (drop (length text) r.left)) (sym (comes_is text r.left c))
      (subst (λ (bs : List ℕ). Took r.number (bs ++ drop (length text) r.left) (map (line_with r.number) (shows_of rows)) (drop (length text) r.left)) (sym is_printed) (took_rows r.number rows (drop (length text) r.left)))

  pub rows_text_is : comes text r.left ≡ true → own_text r ≡ printed r.number (shows_of rows) ++ own_text left_over
  rows_text_is c =
      took_text r.number r.left left_over.left (map (line_with r.number) (shows_of rows)) (rows_took c)
      ∙ ap (λ (bs : List ℕ). bs ++ own_text left_over) (rows_joined r.number rows)

  pub rows_on : comes text r.left ≡ true → Advances r left_over
  rows_on c =
      let t = rows_took c in
      record {
        number = refl;
        later = sym t.past;
        counted = counted (length (own r)) (length (own left_over)) (count_by nl text) (length rows) r.read
            (ap (λ (ls : List (List ℕ)). length ls) t.own ∙ (length-append (map (line_with r.number) (shows_of rows)) (own left_over) ∙ ap (λ (n : ℕ). n + length (own left_over)) (length_lines r.number rows)))
            (ap (count_by nl) is_printed ∙ feeds r.number rows);
      }

  -- they don't come
  pub rows_never : comes text r.left ≡ false → (rest : List ℕ) → own_text r ≡ printed r.number (shows_of rows) ++ rest → ⊥
  rows_never c rest e = let there : comes text r.left ≡ true = takes r text rest (e ∙ ap (λ (bs : List ℕ). bs ++ rest) (sym is_printed)) in absurd (cc)

  -- ---- what a show takes

  pub shown_on : (right : Bool) (new : Unread) → right ≡ comes text r.left → new ≡ taken right text (count_by nl text) r → Advances r new
  shown_on true new is left = subst (Advances r) (sym left) (rows_on (sym is))
  shown_on false new is left = subst (Advances r) (sym left) (advances_none r)

  -- rows are printed, and none without one
  done_none : rows ≡ [] → with_done (shows_of rows) ≡ Done ∷ []
  done_none e = ap (λ (xs : List Row). with_done (shows_of xs)) e

  some_rows : (xs : List Row) → (xs ≡ [] → ⊥) → with_done (shows_of xs) ≡ shows_of xs
  some_rows [] none = absurd (none refl)
  some_rows (x ∷ xs) none = refl

  pub rows_none : (length text == 0) ≡ true → rows ≡ []
  rows_none h = empty_rows r.number rows (sym text_is ∙ empty_is text h)

  pub rows_there : (length text == 0) ≡ false → rows ≡ [] → ⊥
  rows_there off e = off_on (sym off ∙ ap (λ (bs : List ℕ). length bs == 0) (text_is ∙ ap (λ (xs : List Row). rows_text r.number xs) e))

  module _ {State Call : Type 0} (p : AuditState State Call) (Stands : AuditState State Call → Type 0) where
    -- there are none
    pub none_shown : rows ≡ [] → (right : Bool) (new : Unread) → Stands p → TakesLine right Done r new → Takes right (λ lines there. PrintsRows p rows lines there) Stands r.number (own_text r) (own_text new)
    none_shown e right new stands h =
        takes_line (λ lines there. PrintsRows p rows lines there) Stands right Done r new p (λ all there q. q.0 ∙ done_none e) h (λ y. (sym (done_none e), refl)) (λ y. stands)

    -- there are some
    pub some_shown : (rows ≡ [] → ⊥) → (right : Bool) (new : Unread) → right ≡ comes text r.left → new ≡ taken right text (count_by nl text) r → Stands p
        → Takes right (λ lines there. PrintsRows p rows lines there) Stands r.number (own_text r) (own_text new)
    some_shown none true new is left stands =
        took (λ lines there. PrintsRows p rows lines there) Stands r.number (own_text r) (shows_of rows) (λ all there q. q.0 ∙ some_rows rows none) p (own_text new) (sym (some_rows rows none), refl) stands
        (rows_text_is (sym is) ∙ ap (λ (u : Unread). printed r.number (shows_of rows) ++ own_text u) (sym left))
    some_shown none false new is left stands =
        never (λ lines there. PrintsRows p rows lines there) Stands r.number (own_text r) (shows_of rows) (λ all there q. q.0 ∙ some_rows rows none) (own_text new) (rows_never (sym is))
