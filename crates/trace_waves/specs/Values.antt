-- The values of signals, and how they are written.
use Rattle.std.specs.Prelude.{ℕ, nat_lt, List, ◌++◌, true, false, codes, decimal, if◌then◌else◌}
use Rattle.mcal_base.specs.det_errors.Spelling.{error_text}
use Rattle.irq_control.specs.Spelling.{held_text}
use Rattle.mcal_base.specs.Names.{service_text, notice_text}
use Rattle.mcal_base.specs.declared.moves.DevError.{DevError}
use Rattle.mcal_base.specs.declared.notice.Notice.{Notice}
use Rattle.bench_report.specs.Lines.{reason_text}
use Rattle.trace_reader.specs.declared.told.Mark.{Mark}
use Rattle.trace_reader.specs.declared.told.Mark.TheVariants as marks
use Rattle.trace_waves.specs.Spelled.{spelled}
use Rattle.trace_waves.specs.declared.value.Value.{Value}
use Rattle.trace_waves.specs.declared.value.Value.TheVariants as values

abbrev pub event_word : Mark → List ℕ
event_word marks.Act = codes "act"
event_word (marks.Serve line) = codes "serve" ++ decimal line
event_word marks.Abort = codes "abort"
event_word marks.Start = codes "start"

abbrev pub notice_word : Notice → List ℕ
notice_word notice = spelled (notice_text notice.kind) ++ (codes ":" ++ decimal notice.id)

abbrev pub error_word : DevError → List ℕ
error_word found = spelled (service_text found.service) ++ (codes ":" ++ spelled (error_text found.error))

abbrev pub string_text : List ℕ → List ℕ
string_text word = codes "s" ++ (word ++ codes " ")

-- a value before the name of its signal
abbrev pub value_text : Value → List ℕ
value_text (values.Number n) = codes "r" ++ (decimal n ++ codes " ")
value_text (values.Bit true) = codes "1"
value_text (values.Bit false) = codes "0"
value_text values.NumberUntold = codes "rnan "
value_text values.BitUntold = codes "x"
value_text values.Nothing = codes "s- "
value_text (values.Call service) = string_text (spelled (service_text service))
value_text (values.Event mark) = string_text (event_word mark)
value_text (values.Notice notice) = string_text (notice_word notice)
value_text (values.Error found) = string_text (error_word found)
value_text (values.Held cause) = string_text (spelled (held_text cause))
value_text (values.Reset reason) = string_text (spelled (reason_text reason))

-- what the signal of a number is before it changes: numbers, levels and words of the run, levels of frames, levels of pins and numbers, which nothing has told yet
abbrev pub first_at : ℕ → Value
first_at slot =
    if nat_lt slot 2 then values.Number 0
    else if nat_lt slot 5 then values.Bit false
    else if nat_lt slot 20 then values.Nothing
    else if nat_lt slot 120 then values.Bit false
    else if nat_lt slot 210 then values.BitUntold
    else values.NumberUntold
