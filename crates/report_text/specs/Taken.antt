-- What lines at the front of a report are of the block that is read.
use Rattle.std.specs.Prelude.{◌≡◌, ℕ, List, [], ◌∷◌, ◌++◌, Some}
use Rattle.bench_report.specs.Lines.{Line}
use Rattle.report_text.specs.reading.Blocks.{own_lines, behind, text_of}
use Rattle.trace_reader.specs.Reading.{line_with, parts_of}
use Rattle.trace_reader.specs.Told.{told}
use Rattle.trace_reader.specs.declared.told.Told.{Told}
use Rattle.report_text.specs.Unread.{Unread, after_told}

-- A text begins with lines of the block of a script line, and this is left behind them: the block goes on there, and ends where it ended.
pub record Took (number : ℕ) (text : List ℕ) (lines : List (List ℕ)) (rest : List ℕ) : Type 0 where
  pub is : text ≡ text_of lines ++ rest
  pub own : own_lines number (parts_of text) ≡ lines ++ own_lines number (parts_of rest)
  pub past : behind number (parts_of text) ≡ behind number (parts_of rest)

-- The next line of the block, which tells this, is what such a line prints.
pub record IsTold (r : Unread) (tells : Told) : Type 0 where
  pub line : Line
  pub is : told line ≡ tells
  pub took : Took r.number r.left (line_with r.number line ∷ []) (after_told r (Some tells)).left
