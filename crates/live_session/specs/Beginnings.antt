-- What begins, unless a cause holds it, and what is told of it.
use Rattle.std.specs.Prelude.{◌≡◌, ℕ, ◌&&◌, is_some, List, [], ◌∷◌, Option, Some, None}
use Rattle.chip_model.specs.Chip.{is_masked, is_pending}
use Rattle.irq_control.specs.declared.held.Held.{Held}
use Rattle.mcal_base.specs.declared.directive.Order.{Order}
use Rattle.run_model.specs.Causes.{call_cause, line_cause}
use Rattle.run_model.specs.Entry as entry
use Rattle.run_model.specs.Moment.{Transition}
use Rattle.step_runner.specs.Driver.{Driver}
use Rattle.step_runner.specs.Kept.{tags_under, top_is_noted}
use Rattle.bench_report.specs.Lines.{Line, Holds}
use Rattle.bench_report.specs.Report.{frames_after}
use Rattle.bench_report.specs.declared.frames.Purpose.{Purpose}
use Rattle.live_board.specs.Lives.{GoesOn, IsBeside, LiveRun}
use Rattle.live_session.specs.Pages.{Page, say_all}

-- the cause that holds a call at a level, or the handler of a line
abbrev pub call_held : {M State Call Frame : Type 0} → Driver State Call Frame → LiveRun M Frame → Call → ℕ → Option Held
call_held d live call level = call_cause (is_masked live.chip) (tags_under live.kept.frames) (top_is_noted live.kept.frames) (d.setting.class_of call) level

abbrev pub line_held : {M State Call Frame : Type 0} → Driver State Call Frame → LiveRun M Frame → ℕ → Option Held
line_held d live line = line_cause (is_masked live.chip) (tags_under live.kept.frames) (d.setting.level_of line) (is_some (d.handler_of line) && is_pending live.chip line)

-- the deed, unless a cause holds it; what a journal would say, and the lines of that
abbrev pub deeds_by : {Call : Type 0} → Option Held → Transition Call → List (Transition Call)
deeds_by None deed = deed ∷ []
deeds_by (Some cause) deed = []

abbrev pub said_of : Option Held → entry.Said
said_of None = entry.Begins
said_of (Some cause) = entry.Stays cause

abbrev pub lines_of : Option Held → List Line
lines_of None = []
lines_of (Some cause) = Holds cause ∷ []

-- The driver on the chip has moved by a beginning, unless this cause held it; and what is told, and what the frames under way
-- were begun for, is what a report has for that.
pub record IsBegun {M State Call Frame : Type 0} (d : Driver State Call Frame) (order : Order) (held : Option Held) (deed : Transition Call) (before after : LiveRun M Frame) (frames later : List Purpose) (page told : Page) : Type 0 where
  pub goes : GoesOn d before after (deeds_by held deed)
  pub beside : IsBeside before after
  pub frames_are : later ≡ frames_after order frames (said_of held)
  pub page_is : told ≡ say_all page (lines_of held)
