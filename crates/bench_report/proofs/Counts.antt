-- How many lines of each kind a page counts.
use Rattle.std.proofs.Common.{◌≡◌, ℕ, ◌+◌, Bool, List, [], ◌∷◌, cond, ap, sym, ◌∙◌, arith}
use Rattle.std.proofs.lemmas.List.Sums.{sum_by-cons}
use Rattle.std.specs.Prelude.{count_by}
use Rattle.bench_report.specs.declared.tally.Tally.{Tally}
use Rattle.bench_report.specs.Lines.{Line, Holds, Makes, Waits, Notes, Errs, Returns, Leaves, Restarts, Shows, Done}
use Rattle.bench_report.specs.Report.{Numbered, is_return, is_leave, is_hold, is_error, is_note}
use Rattle.bench_report.specs.Pages.{Page, counted, with_line, with_lines}

-- a count that each line of a kind raises by one is raised by their number
count_after : (is : Line → Bool) (count : Tally → ℕ) (one : (t : Tally) (l : Line) (n : ℕ) → count (counted t l) + n ≡ count t + (cond (is l) 1 0 + n)) (page : Page) (ls : List Numbered) → count (with_lines page ls).tally ≡ count page.tally + count_by (λ l. is l.says) ls
count_after is count one page [] = omega arith
count_after is count one page (l ∷ ls) = count_after is count one (with_line page l.number l.says) ls ∙ one page.tally l.says (count_by (λ l. is l.says) ls) ∙ ap (λ (k : ℕ). count page.tally + k) (sym (sum_by-cons (λ l. cond (is l.says) 1 0) l ls))

-- returned calls
calls_one : (t : Tally) (l : Line) (n : ℕ) → (counted t l).calls + n ≡ t.calls + (cond (is_return l) 1 0 + n)
calls_one t (Holds cause) n = omega arith
calls_one t (Makes depth made value received event) n = omega arith
calls_one t (Waits ticks) n = omega arith
calls_one t (Notes notice) n = omega arith
calls_one t (Errs found) n = omega arith
calls_one t (Returns service head words) n = omega arith
calls_one t (Leaves line) n = omega arith
calls_one t (Restarts reason dropped) n = omega arith
calls_one t (Shows row) n = omega arith
calls_one t Done n = omega arith

pub calls_after : (page : Page) (ls : List Numbered) → (with_lines page ls).tally.calls ≡ page.tally.calls + count_by (λ l. is_return l.says) ls
calls_after = count_after is_return (λ (t : Tally). t.calls) calls_one

-- ended handlers
handlers_one : (t : Tally) (l : Line) (n : ℕ) → (counted t l).handlers + n ≡ t.handlers + (cond (is_leave l) 1 0 + n)
handlers_one t (Holds cause) n = omega arith
handlers_one t (Makes depth made value received event) n = omega arith
handlers_one t (Waits ticks) n = omega arith
handlers_one t (Notes notice) n = omega arith
handlers_one t (Errs found) n = omega arith
handlers_one t (Returns service head words) n = omega arith
handlers_one t (Leaves line) n = omega arith
handlers_one t (Restarts reason dropped) n = omega arith
handlers_one t (Shows row) n = omega arith
handlers_one t Done n = omega arith

pub handlers_after : (page : Page) (ls : List Numbered) → (with_lines page ls).tally.handlers ≡ page.tally.handlers + count_by (λ l. is_leave l.says) ls
handlers_after = count_after is_leave (λ (t : Tally). t.handlers) handlers_one

-- held directives
held_one : (t : Tally) (l : Line) (n : ℕ) → (counted t l).held + n ≡ t.held + (cond (is_hold l) 1 0 + n)
held_one t (Holds cause) n = omega arith
held_one t (Makes depth made value received event) n = omega arith
held_one t (Waits ticks) n = omega arith
held_one t (Notes notice) n = omega arith
held_one t (Errs found) n = omega arith
held_one t (Returns service head words) n = omega arith
held_one t (Leaves line) n = omega arith
held_one t (Restarts reason dropped) n = omega arith
held_one t (Shows row) n = omega arith
held_one t Done n = omega arith

pub held_after : (page : Page) (ls : List Numbered) → (with_lines page ls).tally.held ≡ page.tally.held + count_by (λ l. is_hold l.says) ls
held_after = count_after is_hold (λ (t : Tally). t.held) held_one

-- error reports
errors_one : (t : Tally) (l : Line) (n : ℕ) → (counted t l).errors + n ≡ t.errors + (cond (is_error l) 1 0 + n)
errors_one t (Holds cause) n = omega arith
errors_one t (Makes depth made value received event) n = omega arith
errors_one t (Waits ticks) n = omega arith
errors_one t (Notes notice) n = omega arith
errors_one t (Errs found) n = omega arith
errors_one t (Returns service head words) n = omega arith
errors_one t (Leaves line) n = omega arith
errors_one t (Restarts reason dropped) n = omega arith
errors_one t (Shows row) n = omega arith
errors_one t Done n = omega arith

pub errors_after : (page : Page) (ls : List Numbered) → (with_lines page ls).tally.errors ≡ page.tally.errors + count_by (λ l. is_error l.says) ls
errors_after = count_after is_error (λ (t : Tally). t.errors) errors_one

-- notices
notes_one : (t : Tally) (l : Line) (n : ℕ) → (counted t l).notes + n ≡ t.notes + (cond (is_note l) 1 0 + n)
notes_one t (Holds cause) n = omega arith
notes_one t (Makes depth made value received event) n = omega arith
notes_one t (Waits ticks) n = omega arith
notes_one t (Notes notice) n = omega arith
notes_one t (Errs found) n = omega arith
notes_one t (Returns service head words) n = omega arith
notes_one t (Leaves line) n = omega arith
notes_one t (Restarts reason dropped) n = omega arith
notes_one t (Shows row) n = omega arith
notes_one t Done n = omega arith

pub notes_after : (page : Page) (ls : List Numbered) → (with_lines page ls).tally.notes ≡ page.tally.notes + count_by (λ l. is_note l.says) ls
notes_after = count_after is_note (λ (t : Tally). t.notes) notes_one
