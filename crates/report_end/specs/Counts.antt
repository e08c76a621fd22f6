-- What the lines of a report count, item by item, with no line written.
use Rattle.std.specs.Prelude.{ℕ, ◌+◌, List, [], ◌∷◌, Option}
use Rattle.mcal_base.specs.declared.answer.Answer.{Answer}
use Rattle.mcal_base.specs.declared.directive.Directive.{Directive}
use Rattle.mcal_base.specs.declared.directive.Order.{Order}
use Rattle.run_model.specs.Entry.{Entry, Said, Happens, Begins, Stays, Steps, Resets}
use Rattle.run_model.specs.declared.item.Stepped.{Stepped}
use Rattle.bench_report.specs.declared.frames.Purpose.{Purpose}
use Rattle.bench_report.specs.declared.tally.Tally.{Tally}
use Rattle.bench_report.specs.Lines.{Line, Holds}
use Rattle.bench_report.specs.Pages.{counted}
use Rattle.bench_report.specs.Report.{frames_after, frames_after_end, move_lines, end_lines, own_entries, later_entries}

-- what is counted so far, and what the frames under way were begun for, the topmost first
pub record Counting : Type 0 where
  pub frames : List Purpose
  pub tally : Tally

abbrev pub beginning : Counting
beginning = record { frames = []; tally = record { calls = 0; handlers = 0; held = 0; errors = 0; notes = 0 } }

-- all that is counted
abbrev pub total : Tally → ℕ
total t = t.calls + t.handlers + t.held + t.errors + t.notes

-- after lines
abbrev pub counted_all : Tally → List Line → Tally
counted_all t [] = t
counted_all t (line ∷ lines) = counted_all (counted t line) lines

-- after the line of an end of the topmost frame, which it takes off
abbrev pub end_counted : Counting → Option Answer → Counting
end_counted c ended = record { frames = frames_after_end c.frames ended; tally = counted_all c.tally (end_lines c.frames ended) }

-- after the line of a move
abbrev pub move_counted : Counting → List Line → Counting
move_counted c lines = record c { tally = counted_all c.tally lines }

-- after the lines of a step
abbrev pub step_counted : Counting → Stepped → Counting
step_counted c step = end_counted (move_counted c (move_lines step.made)) step.ended

-- after an item of a directive: what happened, or was shown, counts as nothing
abbrev pub said_counted : Order → Counting → Said → Counting
said_counted order c (Happens what) = c
said_counted order c Begins = record c { frames = frames_after order c.frames Begins }
said_counted order c (Stays cause) = record c { tally = counted c.tally (Holds cause) }
said_counted order c (Steps step) = step_counted c step
said_counted order c (Resets reason dropped) = record c { frames = [] }

abbrev pub items_counted : Order → Counting → List Entry → Counting
items_counted order c [] = c
items_counted order c (entry ∷ entries) = items_counted order (said_counted order c entry.said) entries

-- after a directive's items, and after a script's
abbrev pub directive_counted : Directive → Counting → List Entry → Counting
directive_counted directive c entries = items_counted directive.order c (own_entries directive.line entries)

abbrev pub script_counted : Counting → List Directive → List Entry → Counting
script_counted c [] entries = c
script_counted c (directive ∷ script) entries = script_counted (directive_counted directive c entries) script (later_entries directive.line entries)
