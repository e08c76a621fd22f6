-- What the lines of a trace are, and which of them a text prints.
use Rattle.std.specs.Prelude.{◌≡◌, ℕ, ◌++◌, List, map, flat_map}
use Rattle.bench_report.specs.Lines.{Line, Holds, Makes, Waits, Notes, Errs, Returns, Leaves, Restarts, Shows, Done, numbered}
use Rattle.bench_report.specs.Numbers.{IsNumber, HasMoveNumbers, HasEventNumber, Each}
use Rattle.bench_report.specs.Report.{Numbered, end_of}
use Rattle.bench_report.specs.declared.rows.RowName.{RowName}
use Rattle.bench_report.specs.declared.rows.RowName.TheVariants as names
use Rattle.bench_report.specs.declared.rows.Value.{Value}
use Rattle.bench_report.specs.declared.rows.Value.TheVariants as values
use Rattle.trace_reader.specs.Told.{told_line}
use Rattle.trace_reader.specs.declared.told.TraceLine.{TraceLine}

-- ---- the numbers of a line, as a journal can hold them

-- the numbers of an object that is shown
abbrev pub HasNameNumbers : RowName → Type 0
HasNameNumbers (names.Pin p) = IsNumber p
HasNameNumbers (names.Ram s) = IsNumber s
HasNameNumbers (names.Wire u) = IsNumber u
HasNameNumbers (names.Stamps c) = IsNumber c
HasNameNumbers (names.Results g b) = IsNumber g × IsNumber b
HasNameNumbers (names.Source c) = IsNumber c
HasNameNumbers (names.Destination c) = IsNumber c
HasNameNumbers (names.Transmit c) = IsNumber c
HasNameNumbers (names.Receive c) = IsNumber c

abbrev pub HasValueNumbers : Value → Type 0
HasValueNumbers (values.One value) = IsNumber value
HasValueNumbers (values.Pair sent received) = IsNumber sent × IsNumber received

-- the numbers of a line
abbrev pub HasLineNumbers : Line → Type 0
HasLineNumbers (Holds cause) = Unit {0}
HasLineNumbers (Makes depth made value received event) = IsNumber depth × HasMoveNumbers made × IsNumber value × IsNumber received × HasEventNumber event
HasLineNumbers (Waits ticks) = IsNumber ticks
HasLineNumbers (Notes notice) = IsNumber notice.id
HasLineNumbers (Errs found) = Unit {0}
HasLineNumbers (Returns service head words) = Each IsNumber words
HasLineNumbers (Leaves line) = IsNumber line
HasLineNumbers (Restarts reason dropped) = IsNumber dropped
HasLineNumbers (Shows row) = HasNameNumbers row.name × Each HasValueNumbers row.values
HasLineNumbers Done = Unit {0}

-- A line whose numbers have 32 bits, and those of two registers 8, as the chip has them.
abbrev pub IsWithin : Numbered → Type 0
IsWithin line = IsNumber line.number × HasLineNumbers line.says

-- a step, the wait before one, or a reset
abbrev pub MovesOn : Line → Type 0
MovesOn (Makes depth made value received event) = Unit {0}
MovesOn (Waits ticks) = Unit {0}
MovesOn (Restarts reason dropped) = Unit {0}
MovesOn _ = ⊥

-- ---- texts

-- the text of lines and of the last line, which counts them
abbrev pub lines_text : List Numbered → List ℕ
lines_text lines = flat_map (λ l. numbered l.number l.says) lines

abbrev pub trace_text : List Numbered → List ℕ
trace_text lines = lines_text lines ++ end_of lines

-- The text is printed by a line, of which this is told.
pub record IsLineOf (text : List ℕ) (line : TraceLine) : Type 0 where
  pub printed : Numbered
  pub is : numbered printed.number printed.says ≡ text
  pub tells : told_line printed ≡ line

-- The text is printed by lines, of which these are told, and counts them.
pub record IsTraceOf (text : List ℕ) (lines : List TraceLine) : Type 0 where
  pub printed : List Numbered
  pub is : trace_text printed ≡ text
  pub tells : map told_line printed ≡ lines
