-- The lines of a report and how they are spelled.
use Rattle.std.specs.Prelude.{ℕ, List, ◌++◌, Option, Some, None, codes, decimal, flat_map, if◌then◌else◌}
use Rattle.irq_control.specs.declared.held.Held.{Held}
use Rattle.irq_control.specs.Spelling.{held_text}
use Rattle.mcal_base.specs.declared.answer.Head.{Head}
use Rattle.mcal_base.specs.declared.answer.Head.TheVariants as heads
use Rattle.mcal_base.specs.declared.directive.Reason.{Reason}
use Rattle.mcal_base.specs.declared.directive.Reason.TheVariants as reasons
use Rattle.mcal_base.specs.declared.moves.DevError.{DevError}
use Rattle.mcal_base.specs.declared.moves.Event.{Event}
use Rattle.mcal_base.specs.declared.moves.Event.TheVariants as events
use Rattle.mcal_base.specs.declared.moves.Move.{Move}
use Rattle.mcal_base.specs.declared.moves.Move.TheVariants as moves
use Rattle.mcal_base.specs.declared.notice.Notice.{Notice}
use Rattle.mcal_base.specs.declared.register.Reg.TheVariants as regs
use Rattle.mcal_base.specs.declared.service.Service.{Service}
use Rattle.mcal_base.specs.Names.{service_text, answer_text, notice_text}
use Rattle.mcal_base.specs.det_errors.Spelling.{error_text}
use Rattle.bench_report.specs.Registers.{register_text}
use Rattle.bench_report.specs.Rows.{Row, row_text}
use Rattle.bench_report.specs.declared.lines.Line as written
use Rattle.bench_report.specs.declared.tally.Tally.{Tally}
use Rattle.bench_report.specs.declared.lines.Line.TheVariants as lines

-- what a line of a report says, behind the number of its script line
pub data Line : Type 0 where
  -- a directive was held
  Holds : Held → Line
  -- a step: the frames there, its move, the value that this gave, the word that came in, and its event
  Makes : ℕ → Move → ℕ → ℕ → Option Event → Line
  -- the next step waited for a word in transfer so many ticks
  Waits : ℕ → Line
  -- a callback was called
  Notes : Notice → Line
  -- an error was reported
  Errs : DevError → Line
  -- a call returned, with a head and numbers
  Returns : Service → Head → List ℕ → Line
  -- the handler of a line ended
  Leaves : ℕ → Line
  -- the chip was reset, and so many frames were dropped
  Restarts : Reason → ℕ → Line
  -- a row that is shown
  Shows : Row → Line
  -- nothing else is printed
  Done : Line

-- a line as the code has it
abbrev pub line_of : written.Line → Line
line_of (lines.Holds cause) = Holds cause
line_of (lines.Makes depth made value received event) = Makes depth made value received event
line_of (lines.Waits ticks) = Waits ticks
line_of (lines.Notes notice) = Notes notice
line_of (lines.Errs error) = Errs error
line_of (lines.Returns service head words) = Returns service head words.now
line_of (lines.Leaves line) = Leaves line
line_of (lines.Restarts reason dropped) = Restarts reason dropped
line_of lines.Done = Done

-- a reason of a reset
abbrev pub reason_text : Reason → List ℕ
reason_text reasons.PowerOn = codes "MCU_POWER_ON_RESET"
reason_text reasons.Watchdog = codes "MCU_WATCHDOG_RESET"
reason_text reasons.Software = codes "MCU_SW_RESET"

-- the event of a step, with a space before it
abbrev pub event_text : Option Event → List ℕ
event_text None = codes ""
event_text (Some events.Act) = codes " act"
event_text (Some (events.Serve line)) = codes " serve " ++ decimal line
event_text (Some (events.Abort unit)) = codes " abort"
event_text (Some (events.Start unit)) = codes " start"

-- a callback with the number of its object
abbrev pub note_text : Notice → List ℕ
note_text notice = notice_text notice.kind ++ (codes " " ++ decimal notice.id)

-- a reported error, with its service: behind `runtime` where it is a runtime error, else behind the word for a development error
abbrev pub report_text : List ℕ → DevError → List ℕ
report_text word found = (if found.runtime then codes "runtime" else word) ++ (codes " " ++ (service_text found.service ++ (codes " " ++ error_text found.error)))

-- a move with the value that it gave
abbrev pub move_text : Move → ℕ → List ℕ
move_text (moves.Read reg) value = codes "read " ++ (register_text reg ++ (codes " " ++ decimal value))
move_text (moves.Write reg written) value = codes "write " ++ (register_text reg ++ (codes " " ++ decimal written))
move_text (moves.Load word) value = codes "load w" ++ (decimal word ++ (codes " " ++ decimal value))
move_text (moves.Store word stored) value = codes "store w" ++ (decimal word ++ (codes " " ++ decimal stored))
move_text moves.Mask value = codes "mask"
move_text moves.Unmask value = codes "unmask"
move_text (moves.Note notice) value = codes "note " ++ note_text notice
move_text (moves.Report found) value = report_text (codes "report") found

-- the word that came in at a write that begins a serial word, with a space before it
abbrev pub incoming_text : Move → ℕ → List ℕ
incoming_text (moves.Write (regs.SerialData unit) sent) received = codes " got " ++ decimal received
incoming_text _ received = codes ""

-- what an answer begins with, with a space before it
abbrev pub head_text : Head → List ℕ
head_text heads.Nothing = codes ""
head_text (heads.Name name) = codes " " ++ answer_text name
head_text heads.Numbers = codes ""
head_text heads.ZeroNull = codes " 0 null"

-- numbers, each with a space before it
abbrev pub words_text : List ℕ → List ℕ
words_text words = flat_map (λ word. codes " " ++ decimal word) words

-- what a line says
abbrev pub line_text : Line → List ℕ
line_text (Holds cause) = codes "held " ++ held_text cause
line_text (Makes depth made value received event) =
    codes "step " ++ (decimal depth ++ (codes " " ++ (move_text made value ++ (event_text event ++ incoming_text made received))))
line_text (Waits ticks) = codes "stall " ++ decimal ticks
line_text (Notes notice) = codes "note " ++ note_text notice
line_text (Errs found) = report_text (codes "error") found
line_text (Returns service head words) = codes "return " ++ (service_text service ++ (head_text head ++ words_text words))
line_text (Leaves line) = codes "left " ++ decimal line
line_text (Restarts reason dropped) = codes "reset " ++ (reason_text reason ++ (codes " " ++ decimal dropped))
line_text (Shows row) = row_text row
line_text Done = codes "ok"

-- a line with its number and its line feed
abbrev pub numbered : ℕ → Line → List ℕ
numbered number line = decimal number ++ (codes " " ++ (line_text line ++ codes "\n"))

-- the last line of a report
abbrev pub end_text : Tally → List ℕ
end_text tally =
    codes "end calls " ++ (decimal tally.calls ++ (codes " handlers " ++ (decimal tally.handlers ++ (codes " held " ++ (decimal tally.held ++
    (codes " errors " ++ (decimal tally.errors ++ (codes " notes " ++ (decimal tally.notes ++ codes "\n")))))))))
