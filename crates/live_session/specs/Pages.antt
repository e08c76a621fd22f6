-- What is written of an answer, line by line.
use Rattle.std.specs.Prelude.{ℕ, ◌+◌, ◌&&◌, min, Bool, false, true, List, [], ◌∷◌, ◌++◌, codes, decimal, if◌then◌else◌}
use Rattle.bench_report.specs.Lines.{Line, Holds, Makes, Waits, Notes, Errs, Returns, Leaves, Restarts, Shows, Done, numbered}
use Rattle.bench_report.specs.Report.{is_traced}
use Rattle.bench_report.specs.declared.tally.Tally.{Tally}

-- the text that wasn't told yet, the number of the line that is answered, what the lines count, and whether the answer has
-- nothing but lines of steps and waits yet
pub record Page : Type 0 where
  pub text : List ℕ
  pub number : ℕ
  pub tally : Tally
  pub silent : Bool

-- one more, as far as a count goes
abbrev pub grown : ℕ → ℕ
grown n = min (n + 1) 18446744073709551615

-- one more line is counted
abbrev pub counted : Tally → Line → Tally
counted tally (Holds cause) = record tally { held = grown tally.held }
counted tally (Makes depth made value received event) = tally
counted tally (Waits ticks) = tally
counted tally (Notes notice) = record tally { notes = grown tally.notes }
counted tally (Errs found) = record tally { errors = grown tally.errors }
counted tally (Returns service head words) = record tally { calls = grown tally.calls }
counted tally (Leaves line) = record tally { handlers = grown tally.handlers }
counted tally (Restarts reason dropped) = tally
counted tally (Shows row) = tally
counted tally Done = tally

-- with the next line to be answered
abbrev pub begun : Page → Page
begun p = record p { number = min (p.number + 1) 4294967295; silent = true }

-- after one more line, and after lines
abbrev pub say : Page → Line → Page
say p line = record p { text = p.text ++ numbered p.number line; tally = counted p.tally line; silent = p.silent && is_traced line }

abbrev pub say_all : Page → List Line → Page
say_all p [] = p
say_all p (line ∷ lines) = say_all (say p line) lines

-- after the last of an answer
abbrev pub closed : Page → Page
closed p = if p.silent then say p Done else p

-- where a line is refused
abbrev pub refused : Page → List ℕ → Page
refused p reason = record p { text = p.text ++ (decimal p.number ++ (codes " fault " ++ (reason ++ codes "\n"))); silent = false }
