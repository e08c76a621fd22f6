-- What a call prints, and with which status, by its words and its input, in the order of its refusals.
use Rattle.std.specs.Prelude.{ℕ, ◌-◌, ◌==◌, ◌&&◌, nat_lt, Bool, List, [], ◌∷◌, ◌++◌, length, take, Option, Some, None, option_map, Result, Ok, Err, codes, decimal, bytes_eq, count_by, if◌then◌else◌}
use Rattle.std.specs.List.{slice_split, join_with_byte}
use Rattle.std.specs.Str.Lines.{strip_carriage_return}
use Rattle.mcal_base.specs.declared.directive.Directive.{Directive}
use Rattle.config_keys.specs.Printed.{fault_text}
use Rattle.config_keys.specs.declared.fault.ConfigFault.{ConfigFault}
use Rattle.mcal_config.specs.Whole.{fault_of}
use Rattle.bench_script.specs.Faults.{line_of, kind_text}
use Rattle.bench_script.specs.Lines.{file}
use Rattle.bench_script.specs.Script as scripts
use Rattle.bench_script.specs.declared.fault.ScriptFault.{ScriptFault}
use Rattle.bench_script.specs.declared.fault.ScriptFault.TheVariants.{Long}
use Rattle.trace_lanes.specs.InputNames.{name_of}
use Rattle.trace_lanes.specs.declared.input_name.InputName.{InputName}
use Rattle.trace_drawing.specs.Program.{status_of, written, text_under}
use Rattle.trace_drawing.specs.declared.input.Given.{Given}
use Rattle.trace_drawing.specs.declared.input.InputEnd.{InputEnd}
use Rattle.trace_drawing.specs.declared.input.InputEnd.TheVariants as ends
use Rattle.trace_drawing.specs.declared.program.Form.{Form}
use Rattle.trace_drawing.specs.declared.program.Form.TheVariants as forms

-- a status, and all that is printed
pub record Ending : Type 0 where
  pub status : ℕ
  pub text : List ℕ

-- the form that the words ask for
abbrev pub one_word : List ℕ → Option Form
one_word word =
    if bytes_eq word (codes "vcd") then Some forms.Changes
    else if bytes_eq word (codes "svg") then Some (forms.Page None)
    else if bytes_eq word (codes "text") then Some forms.Rows
    else None

abbrev pub with_option : List ℕ → List ℕ → Option Form
with_option word option = if bytes_eq word (codes "vcd") && bytes_eq option (codes "--time") then Some forms.Times else None

-- a name; an empty one is none
abbrev pub named : List ℕ → Option InputName
named [] = None
named text = Some (name_of text)

abbrev pub with_title : List ℕ → List ℕ → List ℕ → Option Form
with_title word option title = if bytes_eq word (codes "svg") && bytes_eq option (codes "--title") then Some (forms.Page (named title)) else None

abbrev pub form_of : List (List ℕ) → Option Form
form_of (word ∷ []) = one_word word
form_of (word ∷ option ∷ []) = with_option word option
form_of (word ∷ option ∷ title ∷ []) = with_title word option title
form_of _ = None

-- ---- endings without a drawing

abbrev pub usage : Ending
usage = record { status = 1; text = codes "usage: trace_view vcd [--time] | svg [--title NAME] | text\n" }

abbrev pub ending_of : InputEnd → Ending
ending_of ends.Fault = record { status = 2; text = codes "read fault\n" }
ending_of ends.TooLong = record { status = 5; text = codes "too long: more than 268435456 bytes\n" }
ending_of ends.LongFile = record { status = 5; text = codes "too long: more than 1048576 bytes\n" }
ending_of ends.NoSeparator = record { status = 7; text = codes "script fault 0 NoSeparator\n" }
ending_of (ends.Configuration fault) = record { status = 6; text = codes "configuration fault " ++ (fault_text fault ++ codes "\n") }
ending_of (ends.Script (Long line)) = record { status = 5; text = codes "too long: more than 50000 directives\n" }
ending_of (ends.Script fault) = record { status = 7; text = codes "script fault " ++ (decimal (line_of fault) ++ (codes " " ++ (kind_text fault ++ codes "\n"))) }
ending_of (ends.NoReport lines) = record { status = 8; text = codes "no report: no line is === up to line " ++ (decimal lines ++ codes "\n") }

-- ---- where the report begins

-- a line that is exactly the mark of a report; a carriage return before its line feed is dropped
abbrev pub is_mark : List ℕ → Bool
is_mark line = bytes_eq (strip_carriage_return line) (codes "===")

-- the text before the first such line, of parts between line feeds, and what is behind it; only a part before a line feed is a line
abbrev pub split_parts : List (List ℕ) → Option (List ℕ × List ℕ)
split_parts [] = None
split_parts (part ∷ []) = None
split_parts (part ∷ next ∷ parts) =
    if is_mark part then Some ([], join_with_byte 10 (next ∷ parts))
    else option_map (λ p. (part ++ 10 ∷ p.0, p.1)) (split_parts (next ∷ parts))

abbrev pub split_report : List ℕ → Option (List ℕ × List ℕ)
split_report text = split_parts (slice_split (λ b. b == 10) text)

-- how many line feeds a text has
abbrev pub lines_in : List ℕ → ℕ
lines_in text = count_by (λ b. b == 10) text

-- ---- the order of the refusals

-- a report under its script, with so many lines before it
abbrev pub drawn : Form → ℕ → List Directive → List ℕ → Ending
drawn form before script report = record { status = status_of (text_under form script report); text = written before (text_under form script report) }

-- the script
abbrev pub judged_script : Form → ℕ → List ℕ → Result (List Directive) ScriptFault → Ending
judged_script form before report (Ok script) = drawn form before script report
judged_script form before report (Err fault) = ending_of (ends.Script fault)

-- the configuration, and then the script
abbrev pub judged_parts : Form → ℕ → List ℕ → List ℕ → Option ConfigFault → Ending
judged_parts form before script report (Some fault) = ending_of (ends.Configuration fault)
judged_parts form before script report None = judged_script form before report (scripts.script script)

-- how many bytes the bench file has, where this is behind its separator, and the script of it
abbrev pub file_size : List ℕ → List ℕ → List ℕ → ℕ
file_size bytes behind script = length bytes - (length behind - length script)

-- the report, and then how long the bench file is
abbrev pub judged_report : Form → List ℕ → List ℕ → List ℕ → Option (List ℕ × List ℕ) → Ending
judged_report form bytes configuration behind None = ending_of (ends.NoReport (lines_in bytes))
judged_report form bytes configuration behind (Some parts) =
    if nat_lt 1048576 (file_size bytes behind parts.0) then ending_of ends.LongFile
    else judged_parts form (lines_in (take (length bytes - length parts.1) bytes)) parts.0 parts.1 (fault_of configuration)

-- the separator, and then what is behind it
abbrev pub judged_file : Form → List ℕ → Option (List ℕ × List ℕ) → Ending
judged_file form bytes None = ending_of ends.NoSeparator
judged_file form bytes (Some parts) = judged_report form bytes parts.0 parts.1 (split_report parts.1)

-- the words, and then the number of bytes
abbrev pub judged : Option Form → List ℕ → Ending
judged None bytes = usage
judged (Some form) bytes = if nat_lt 268435456 (length bytes) then ending_of ends.TooLong else judged_file form bytes (file bytes)

-- ---- what the reader of an input gives

-- a script that was read, or its fault
abbrev pub script_of : {V : Type 0} → (V → List Directive) → Result V ScriptFault → Result (List Directive) ScriptFault
script_of items (Ok script) = Ok (items script)
script_of items (Err fault) = Err fault

-- a script, a report and how many lines stand before it
pub record Drawable : Type 0 where
  pub script : List Directive
  pub report : List ℕ
  pub before : ℕ

-- what an input gives to be drawn, or why nothing is drawn
abbrev pub found : Result Given InputEnd → Result Drawable InputEnd
found (Ok given) = Ok (record { script = given.script.items; report = given.report.items; before = given.before })
found (Err end) = Err end

-- how a call ends with that
abbrev pub ended : Form → Result Drawable InputEnd → Ending
ended form (Ok given) = drawn form given.before given.script given.report
ended form (Err end) = ending_of end
