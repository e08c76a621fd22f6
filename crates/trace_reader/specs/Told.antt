-- What a line of a report tells: all that it prints but the numbers of an answer behind its first and the values of a row.
use Rattle.std.specs.Prelude.{ℕ, List, length, nat_lt, slice_get, option_map}
use Rattle.mcal_base.specs.declared.answer.Head.{Head}
use Rattle.mcal_base.specs.declared.answer.Head.TheVariants as heads
use Rattle.mcal_base.specs.declared.moves.Event.{Event}
use Rattle.mcal_base.specs.declared.moves.Event.TheVariants as events
use Rattle.mcal_base.specs.declared.moves.Move.{Move}
use Rattle.mcal_base.specs.declared.moves.Move.TheVariants as moves
use Rattle.mcal_base.specs.declared.register.Reg.TheVariants as regs
use Rattle.bench_report.specs.Lines.{Line, Holds, Makes, Waits, Notes, Errs, Returns, Leaves, Restarts, Shows, Done}
use Rattle.bench_report.specs.Report.{Numbered}
use Rattle.trace_reader.specs.declared.told.Mark.{Mark}
use Rattle.trace_reader.specs.declared.told.Mark.TheVariants as marks
use Rattle.trace_reader.specs.declared.told.Reply.{Reply}
use Rattle.trace_reader.specs.declared.told.Told.{Told}
use Rattle.trace_reader.specs.declared.told.Told.TheVariants as tells
use Rattle.trace_reader.specs.declared.told.TraceLine.{TraceLine}

-- an event as a report prints it: a start or an abort without its unit
abbrev pub mark_of : Event → Mark
mark_of events.Act = marks.Act
mark_of (events.Serve line) = marks.Serve line
mark_of (events.Abort unit) = marks.Abort
mark_of (events.Start unit) = marks.Start

-- what a read or a load gave
abbrev pub given : Move → ℕ → ℕ
given (moves.Read reg) value = value
given (moves.Load word) value = value
given _ value = 0

-- the word that came in at a write that begins a serial word
abbrev pub incoming : Move → ℕ → ℕ
incoming (moves.Write (regs.SerialData unit) sent) received = received
incoming _ received = 0

-- what an answer begins with, as it is printed: where it is numbers alone, nothing stands before them
abbrev pub printed_head : Head → Head
printed_head heads.Numbers = heads.Nothing
printed_head head = head

-- what a call answered with a head and numbers
abbrev pub reply_of : Head → List ℕ → Reply
reply_of head words = record { head = printed_head head; first = slice_get words 0; more = nat_lt 1 (length words) }

-- what a line tells
abbrev pub told : Line → Told
told (Holds cause) = tells.Held cause
told (Makes depth made value received event) =
    tells.Step (record { depth = depth; made = made; value = given made value; received = incoming made received; mark = option_map mark_of event })
told (Waits ticks) = tells.Waited ticks
told (Notes notice) = tells.Noted notice
told (Errs found) = tells.Erred found
told (Returns service head words) = tells.Returned service (reply_of head words)
told (Leaves line) = tells.Left line
told (Restarts reason dropped) = tells.Reset reason dropped
told (Shows row) = tells.Shown
told Done = tells.Done

-- what a numbered line tells
abbrev pub told_line : Numbered → TraceLine
told_line line = record { number = line.number; told = told line.says }
