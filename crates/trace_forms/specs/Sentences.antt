-- What a sign says in words: of a line of the trace, what that line says.
use Rattle.std.specs.Prelude.{ℕ, List, ◌++◌, Bool, true, false, Option, Some, None, codes, decimal, if◌then◌else◌}
use Rattle.mcal_base.specs.Names.{service_text}
use Rattle.mcal_base.specs.declared.directive.Reason.{Reason}
use Rattle.mcal_base.specs.declared.directive.Reason.TheVariants as reasons
use Rattle.mcal_base.specs.declared.directive.Shown.{Shown}
use Rattle.mcal_base.specs.declared.directive.Shown.TheVariants as sights
use Rattle.mcal_base.specs.declared.directive.Stop.{Stop}
use Rattle.mcal_base.specs.declared.directive.Stop.TheVariants as stops
use Rattle.mcal_base.specs.declared.moves.Event.{Event}
use Rattle.mcal_base.specs.declared.moves.Event.TheVariants as events
use Rattle.mcal_base.specs.declared.moves.Unit.TheVariants as units
use Rattle.bench_report.specs.Lines as lines
use Rattle.bench_report.specs.declared.frames.Purpose.{Purpose}
use Rattle.bench_report.specs.declared.frames.Purpose.TheVariants as purposes
use Rattle.trace_reader.specs.declared.told.Mark.{Mark}
use Rattle.trace_reader.specs.declared.told.Mark.TheVariants as marks
use Rattle.trace_reader.specs.declared.told.Reply.{Reply}
use Rattle.trace_forms.specs.declared.kinds.signs.Asked.{Asked}
use Rattle.trace_forms.specs.declared.kinds.signs.Asked.TheVariants as asks
use Rattle.trace_forms.specs.declared.kinds.signs.Ending.{Ending}
use Rattle.trace_forms.specs.declared.kinds.signs.Ending.TheVariants as endings
use Rattle.trace_forms.specs.declared.kinds.signs.What.{What}
use Rattle.trace_forms.specs.declared.kinds.signs.What.TheVariants as whats
use Rattle.trace_forms.specs.declared.sentences.Parts.{Parts}
use Rattle.trace_forms.specs.declared.sentences.Parts.TheVariants as parts

-- a frame by its service or its line
abbrev pub purpose_text : Purpose → List ℕ
purpose_text (purposes.Call service) = service_text service
purpose_text (purposes.Handler line) = codes "line" ++ decimal line

-- an event of a step; all units of a start or an abort are spelled alike
abbrev pub event_of : Mark → Event
event_of marks.Act = events.Act
event_of (marks.Serve line) = events.Serve line
event_of marks.Abort = events.Abort units.Adc0
event_of marks.Start = events.Start units.Adc0

abbrev pub event_there : Option Mark → Option Event
event_there None = None
event_there (Some mark) = Some (event_of mark)

-- an answer, with a space before each of its parts: its numbers behind the first are two dots
abbrev pub first_text : Option ℕ → List ℕ
first_text None = codes ""
first_text (Some word) = codes " " ++ decimal word

abbrev pub more_text : Bool → List ℕ
more_text more = if more then codes " .." else codes ""

abbrev pub reply_text : Reply → List ℕ
reply_text reply = lines.head_text reply.head ++ (first_text reply.first ++ more_text reply.more)

abbrev pub ending_text : Ending → List ℕ
ending_text (endings.Returned reply) = codes " returns" ++ reply_text reply
ending_text endings.Left = codes " ends"
ending_text endings.Dropped = codes " is dropped"
ending_text endings.Open = codes " is under way at the end"

abbrev pub digit : Bool → List ℕ
digit level = if level then codes "1" else codes "0"

-- the word of a directive that begins a frame, and runs it to its end or not
abbrev pub begin_word : Purpose → Bool → List ℕ
begin_word (purposes.Call service) true = codes "do"
begin_word (purposes.Call service) false = codes "call"
begin_word (purposes.Handler line) true = codes "serve"
begin_word (purposes.Handler line) false = codes "enter"

abbrev pub stop_word : Stop → List ℕ
stop_word stops.Act = codes "act"
stop_word stops.Mask = codes "mask"
stop_word stops.Unmask = codes "unmask"
stop_word stops.Note = codes "note"

abbrev pub reset_word : Reason → List ℕ
reset_word reasons.PowerOn = codes "power"
reset_word reasons.Watchdog = codes "watchdog"
reset_word reasons.Software = codes "software"

abbrev pub shown_word : Shown → List ℕ
shown_word sights.Pins = codes "pins"
shown_word sights.Wire = codes "wire"
shown_word sights.Buffers = codes "buffers"
shown_word sights.Ram = codes "ram"

-- what a directive asks for, as its line of a script says it, but for the arguments of a service and lists of words
abbrev pub asked_text : Asked → List ℕ
asked_text (asks.Frame (purposes.Call service) level whole) = begin_word (purposes.Call service) whole ++ (codes " " ++ (decimal level ++ (codes " " ++ service_text service)))
asked_text (asks.Frame (purposes.Handler line) level whole) = begin_word (purposes.Handler line) whole ++ (codes " " ++ decimal line)
asked_text (asks.Run steps) = codes "run " ++ decimal steps
asked_text (asks.Upto stop) = codes "upto " ++ stop_word stop
asked_text asks.Finish = codes "finish"
asked_text (asks.Tick ticks) = codes "tick " ++ decimal ticks
asked_text (asks.Pin p level) = codes "level " ++ (decimal p ++ (codes " " ++ digit level))
asked_text (asks.Analog input value) = codes "analog " ++ (decimal input ++ (codes " " ++ decimal value))
asked_text (asks.Trigger input) = codes "trigger " ++ decimal input
asked_text (asks.Miso unit) = codes "miso " ++ decimal unit
asked_text (asks.SpiFault unit) = codes "spifault " ++ decimal unit
asked_text asks.Detach = codes "detach"
asked_text (asks.Fill channel) = codes "fill " ++ decimal channel
asked_text (asks.Reset reason) = codes "reset " ++ reset_word reason
asked_text (asks.Show shown) = codes "show " ++ shown_word shown
asked_text asks.Nothing = codes "nothing"

-- the same by its parts
abbrev pub parts_text : Parts → List ℕ
parts_text (parts.Word word) = word.now
parts_text (parts.Words word other) = word.now ++ (codes " " ++ other.now)
parts_text (parts.Number word n) = word.now ++ (codes " " ++ decimal n)
parts_text (parts.Numbers word n other) = word.now ++ (codes " " ++ (decimal n ++ (codes " " ++ decimal other)))
parts_text (parts.Between word n other) = word.now ++ (codes " " ++ (decimal n ++ (codes " " ++ other.now)))

abbrev pub sentence : What → List ℕ
sentence (whats.Turn asked) = asked_text asked
sentence (whats.Ticked ticks all) = decimal ticks ++ (codes " ticks, " ++ (decimal all ++ codes " in all"))
sentence (whats.Waited ticks all) = lines.line_text (lines.Waits ticks) ++ (codes " ticks, " ++ (decimal all ++ codes " in all"))
sentence (whats.Begins frame) = purpose_text frame.purpose ++ codes " begins"
sentence (whats.Stepped step fresh) = lines.line_text (lines.Makes step.depth step.made step.value step.received (event_there step.mark))
sentence (whats.Held cause) = lines.line_text (lines.Holds cause)
sentence (whats.Noted notice) = lines.line_text (lines.Notes notice)
sentence (whats.Erred found) = lines.line_text (lines.Errs found)
sentence (whats.Gone frame ending) =
    purpose_text frame.purpose ++ (ending_text ending ++ (codes ", begun at step " ++ (decimal frame.from ++ (codes " by script line " ++ decimal frame.number))))
sentence (whats.Window step) = codes "the mask was closed since step " ++ decimal step
sentence (whats.Reset reason dropped) = lines.line_text (lines.Restarts reason dropped)
sentence whats.Shown = codes "a row is shown"
sentence whats.Done = lines.line_text lines.Done
