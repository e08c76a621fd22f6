-- How a text is read: line by line, each as what the line tells that prints it, until the last line counts them.
use Rattle.std.specs.Prelude.{◌≡◌, ℕ, ◌+◌, ◌==◌, ◌++◌, List, [], ◌∷◌, length, take, Bool, true, false, Option, Some, None, Result, Ok, Err, count_by, codes, decimal, bytes_eq, if◌then◌else◌}
use Rattle.std.specs.List.{slice_split, join_with_byte}
use Rattle.bench_report.specs.Lines.{Line, line_text, end_text}
use Rattle.trace_reader.specs.Guess.{words_of, guess}
use Rattle.trace_reader.specs.Numbers.{number}
use Rattle.trace_reader.specs.Told.{told}
use Rattle.trace_reader.specs.declared.read.TraceFault.{TraceFault}
use Rattle.trace_reader.specs.declared.read.TraceFault.TheVariants as faults
use Rattle.bench_report.specs.declared.tally.Tally.{Tally}
use Rattle.trace_reader.specs.declared.told.Told.{Told}
use Rattle.trace_reader.specs.declared.told.Told.TheVariants as tells
use Rattle.trace_reader.specs.declared.told.TraceLine.{TraceLine}

-- a line with its number, without its line feed
abbrev pub line_with : ℕ → Line → List ℕ
line_with n line = decimal n ++ (codes " " ++ line_text line)

-- what a line tells, where it prints the text
abbrev pub told_where : ℕ → List ℕ → Option Line → Option TraceLine
told_where n text None = None
told_where n text (Some line) = if bytes_eq (line_with n line) text then Some (record { number = n; told = told line }) else None

abbrev pub read_number : Option ℕ → List (List ℕ) → List ℕ → Option TraceLine
read_number None words text = None
read_number (Some n) words text = told_where n text (guess words)

-- the same of a line that begins with its number
abbrev pub read_words : List (List ℕ) → List ℕ → Option TraceLine
read_words [] text = None
read_words (first ∷ words) text = read_number (number first) words text

-- what is told by the line that prints a text, without a line feed
abbrev pub read_line : List ℕ → Option TraceLine
read_line text = read_words (words_of text) text

-- ---- what the last line counts

abbrev pub is_returned : Told → Bool
is_returned (tells.Returned service reply) = true
is_returned _ = false

abbrev pub is_left : Told → Bool
is_left (tells.Left line) = true
is_left _ = false

abbrev pub is_held : Told → Bool
is_held (tells.Held cause) = true
is_held _ = false

abbrev pub is_erred : Told → Bool
is_erred (tells.Erred found) = true
is_erred _ = false

abbrev pub is_noted : Told → Bool
is_noted (tells.Noted notice) = true
is_noted _ = false

-- how many lines tell such a thing
abbrev pub count_of : (Told → Bool) → List TraceLine → ℕ
count_of p lines = count_by (λ l. p l.told) lines

abbrev pub tally_of : List TraceLine → Tally
tally_of lines = record {
  calls = count_of is_returned lines;
  handlers = count_of is_left lines;
  held = count_of is_held lines;
  errors = count_of is_erred lines;
  notes = count_of is_noted lines;
}

-- ---- a text

-- the parts of a text between its line feeds
abbrev pub parts_of : List ℕ → List (List ℕ)
parts_of text = slice_split (λ b. b == 10) text

-- what is behind the lines is the last line alone, which counts them; else this is the first line that is wrong
abbrev pub ended : List TraceLine → List ℕ → Result (List TraceLine) ℕ
ended lines rest =
    if bytes_eq rest (end_text (tally_of lines)) then Ok lines
    else if bytes_eq (take (length (end_text (tally_of lines))) rest) (end_text (tally_of lines)) then Err (length lines + 2)
    else Err (length lines + 1)

-- a line is read, and those behind it; or the text ends there
abbrev pub go_on : List TraceLine → List ℕ → (List TraceLine → Result (List TraceLine) ℕ) → Option TraceLine → Result (List TraceLine) ℕ
go_on lines rest others None = ended lines rest
go_on lines rest others (Some line) = others (lines ++ line ∷ [])

-- the lines of a text cut at its line feeds, behind some lines; or the number of the first line that is wrong
abbrev pub read_parts : List TraceLine → List (List ℕ) → Result (List TraceLine) ℕ
read_parts lines [] = Err (length lines + 1)
read_parts lines (part ∷ []) = Err (length lines + 1)
read_parts lines (part ∷ next ∷ parts) = go_on lines (join_with_byte 10 (part ∷ next ∷ parts)) (λ more. read_parts more (next ∷ parts)) (read_line part)

-- the lines of a trace, or the number of the first line that is wrong
abbrev pub read_trace : List ℕ → Result (List TraceLine) ℕ
read_trace text = read_parts [] (parts_of text)

-- a reading ends as its definition says; it may end for want of memory
abbrev pub Ends : {A V : Type 0} → (V → A) → Result V TraceFault → Result A ℕ → Type 0
Ends f (Ok value) read = read ≡ Ok (f value)
Ends f (Err (faults.Line n)) read = read ≡ Err n
Ends f (Err faults.NoMemory) read = Unit {0}
