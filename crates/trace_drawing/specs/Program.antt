-- What is drawn of an input: of its script and its report, in the form that is asked for.
use Rattle.std.specs.Prelude.{ℕ, List, ◌++◌, Result, Ok, Err, codes, decimal}
use Rattle.mcal_base.specs.declared.directive.Directive.{Directive}
use Rattle.trace_reader.specs.Reading.{read_trace}
use Rattle.trace_forms.specs.Rows.{rows}
use Rattle.trace_lanes.specs.Page.{page}
use Rattle.trace_forms.specs.kinds.Sums.{sum_up}
use Rattle.trace_drawing.specs.signs.Drawing.{Drawing, drawing_of}
use Rattle.trace_drawing.specs.signs.Moments.{moments_of}
use Rattle.trace_waves.specs.File.{waves}
use Rattle.trace_waves.specs.declared.settings.Clock.TheVariants as clocks
use Rattle.trace_drawing.specs.declared.program.Form.{Form}
use Rattle.trace_drawing.specs.declared.program.Form.TheVariants as forms

-- the signs in a form
abbrev pub printed : Form → Drawing → List ℕ
printed forms.Changes d = waves clocks.Steps d.steps d.signs
printed forms.Times d = waves clocks.Ticks d.steps d.signs
printed (forms.Page name) d = page name d.steps d.signs
printed forms.Rows d = rows d.signs

infixl 10 ◌>>=◌
abbrev pub ◌>>=◌ : {A B : Type 0} → Result A ℕ → (A → Result B ℕ) → Result B ℕ
Ok x >>= f = f x
Err line >>= f = Err line

-- the drawing of a report under its script; else the number of its first line, from 1, that is none of a trace of the script
abbrev pub drawing_under : List Directive → List ℕ → Result Drawing ℕ
drawing_under script report = read_trace report >>= (λ lines. moments_of script lines >>= drawing_of)

abbrev pub text_under : Form → List Directive → List ℕ → Result (List ℕ) ℕ
text_under form script report = drawing_under script report >>= (λ d. Ok (printed form d))

-- the status and what is written, where so many lines of the input stand before the report
abbrev pub status_of : Result (List ℕ) ℕ → ℕ
status_of (Ok text) = 0
status_of (Err line) = 9

abbrev pub written : ℕ → Result (List ℕ) ℕ → List ℕ
written before (Ok text) = text
written before (Err line) = codes "trace fault " ++ (decimal (sum_up before line) ++ codes "\n")

-- no text is drawn, for the line of this number
abbrev pub none_at : ℕ → Result (List ℕ) ℕ
none_at line = Err line
