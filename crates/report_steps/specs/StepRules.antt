-- What a step's line is to a step, and what is asked of the machines beside its event.
use Rattle.std.specs.Prelude.{◌≡◌, ℕ, Bool, true, false, List, [], ◌∷◌, ◌++◌, length, Option, Some, None, is_some, option_map}
use Rattle.bench_report.specs.Lines.{Line, Makes, Waits, Restarts, Done}
use Rattle.bench_report.specs.Numbers.{StepFits}
use Rattle.bench_report.specs.Report.{end_lines, frames_after_end, move_lines}
use Rattle.bench_report.specs.declared.frames.Purpose.{Purpose}
use Rattle.run_model.specs.Moment.{Setting, Steps, after}
use Rattle.run_model.specs.declared.item.Stepped.{Stepped}
use Rattle.report_text.specs.reading.Blocks.{AuditState, counted, printed}
use Rattle.report_text.specs.reading.Steps.{Comes}
use Rattle.trace_reader.specs.Told.{given, incoming, mark_of}
use Rattle.trace_reader.specs.declared.told.Step.{Step}
use Rattle.report_steps.specs.declared.made.Made.{Made}

-- what the line of a step tells of it
abbrev pub told_of : (depth : ℕ) → Stepped → Step
told_of depth s = record { depth = depth; made = s.made; value = given s.made s.value; received = incoming s.made s.received; mark = option_map mark_of s.event }

-- the lines behind a step's own
abbrev pub lines_behind : List Purpose → Stepped → List Line
lines_behind frames s = move_lines s.made ++ end_lines frames s.ended

-- a line that moves a run on, or the ok of a directive, comes next, or none
abbrev pub moves_on : Line → Bool
moves_on (Makes depth made value received event) = true
moves_on (Waits ticks) = true
moves_on (Restarts reason dropped) = true
moves_on Done = true
moves_on _ = false

abbrev pub NoEnd : List Line → Type 0
NoEnd [] = Unit {0}
NoEnd (l ∷ ls) = moves_on l ≡ true

-- the place after a step
abbrev pub stepped_to : {State Call : Type 0} → Setting State Call → AuditState State Call → Stepped → AuditState State Call
stepped_to g p s = record { moment = after g p.moment (Steps s); frames = frames_after_end p.frames s.ended; tally = counted p.tally (lines_behind p.frames s) }

-- a step as it is kept
abbrev pub made_of : Stepped → Made
made_of s = record { made = s.made; event = s.event; ended = is_some s.ended }

-- The step that a line tells comes, with numbers of 32 bits.
pub record ComesTold {State Call : Type 0} (g : Setting State Call) (p : AuditState State Call) (read : Step) (s : Stepped) : Type 0 where
  pub told : told_of (length p.moment.opens) s ≡ read
  pub fits : StepFits s
  pub comes : Comes g p.moment (Steps s)

-- The step was made, and the lines behind its own were taken; no other one fits the block.
pub record IsMade {State Call : Type 0} (g : Setting State Call) (p : AuditState State Call) (read : Step) (Stands : AuditState State Call → Type 0) (number : ℕ) (text rest : List ℕ) (made : Made) : Type 0 where
  pub step : Stepped
  pub comes : ComesTold g p read step
  pub is : made ≡ made_of step
  pub text_is : text ≡ printed number (lines_behind p.frames step) ++ rest
  pub stands : Stands (stepped_to g p step)
  pub only : (s : Stepped) (more : List Line) → ComesTold g p read s → NoEnd more → text ≡ printed number (lines_behind p.frames s ++ more) → s ≡ step

-- So it was made, or no step fits the block.
abbrev pub MakesStep : {State Call : Type 0} → Setting State Call → AuditState State Call → Step → (Stands : AuditState State Call → Type 0) → (number : ℕ) → (text rest : List ℕ) → Option Made → Type 0
MakesStep g p read Stands number text rest (Some made) = IsMade g p read Stands number text rest made
MakesStep g p read Stands number text rest None = (s : Stepped) (more : List Line) → ComesTold g p read s → NoEnd more → text ≡ printed number (lines_behind p.frames s ++ more) → ⊥
