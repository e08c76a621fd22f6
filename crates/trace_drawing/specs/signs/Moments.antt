-- The lines of a trace as they belong to the directives of its script, each of which has at least one.
use Rattle.std.specs.Prelude.{ℕ, ◌+◌, ◌==◌, List, [], ◌∷◌, ◌++◌, length, true, false, Option, None, Result, Ok, Err, if◌then◌else◌}
use Rattle.mcal_base.specs.declared.directive.Directive.{Directive}
use Rattle.mcal_base.specs.declared.directive.Order.{Order}
use Rattle.mcal_base.specs.declared.directive.Order.TheVariants as orders
use Rattle.bench_report.specs.Report.{purpose_of}
use Rattle.bench_report.specs.declared.frames.Purpose.{Purpose}
use Rattle.bench_report.specs.declared.frames.Purpose.TheVariants as purposes
use Rattle.trace_reader.specs.declared.told.Told.{Told}
use Rattle.trace_reader.specs.declared.told.Told.TheVariants as tells
use Rattle.trace_reader.specs.declared.told.TraceLine.{TraceLine}
use Rattle.trace_forms.specs.declared.kinds.signs.Asked.{Asked}
use Rattle.trace_forms.specs.declared.kinds.signs.Asked.TheVariants as asks
use Rattle.trace_drawing.specs.declared.signs.moments.Moment.{Moment}

-- what a directive asks for
abbrev pub asked_of : Order → Asked
asked_of (orders.Call level request) = asks.Frame (purposes.Call request.service) level false
asked_of (orders.Do level request) = asks.Frame (purposes.Call request.service) level true
asked_of (orders.Enter line) = asks.Frame (purposes.Handler line) 0 false
asked_of (orders.Serve line) = asks.Frame (purposes.Handler line) 0 true
asked_of (orders.Run steps) = asks.Run steps
asked_of (orders.Upto stop) = asks.Upto stop
asked_of orders.Finish = asks.Finish
asked_of (orders.Tick ticks) = asks.Tick ticks
asked_of (orders.Level pin level) = asks.Pin pin level
asked_of (orders.Analog input value) = asks.Analog input value
asked_of (orders.Trigger input) = asks.Trigger input
asked_of (orders.Miso unit words) = asks.Miso unit
asked_of (orders.SpiFault unit) = asks.SpiFault unit
asked_of orders.Detach = asks.Detach
asked_of (orders.Fill channel words) = asks.Fill channel
asked_of (orders.Reset reason) = asks.Reset reason
asked_of (orders.Show shown) = asks.Show shown

-- the ticks that a directive asks for
abbrev pub ticks_of : Order → ℕ
ticks_of (orders.Tick ticks) = ticks
ticks_of _ = 0

-- what a directive begins a frame for, where its first line doesn't say that it was held
abbrev pub begins_of : Order → Told → Option Purpose
begins_of order (tells.Held cause) = None
begins_of order _ = purpose_of order

-- the first line of a directive, and a later one
abbrev pub first_of : Directive → TraceLine → Moment
first_of directive line = record {
  number = line.number;
  told = line.told;
  first = true;
  asked = asked_of directive.order;
  begins = begins_of directive.order line.told;
  ticks = ticks_of directive.order;
}

abbrev pub later_of : TraceLine → Moment
later_of line = record { number = line.number; told = line.told; first = false; asked = asks.Nothing; begins = None; ticks = 0 }

-- the lines that come next with a number, and those behind them
abbrev pub own_lines : ℕ → List TraceLine → List Moment
own_lines number [] = []
own_lines number (line ∷ lines) = if line.number == number then later_of line ∷ own_lines number lines else []

abbrev pub lines_behind : ℕ → List TraceLine → List TraceLine
lines_behind number [] = []
lines_behind number (line ∷ lines) = if line.number == number then lines_behind number lines else line ∷ lines

-- the lines of directives behind others; else the number of the first line, from 1, that belongs to none, or that is missing
abbrev pub moments_from : List Moment → List Directive → List TraceLine → Result (List Moment) ℕ
moments_from before [] [] = Ok before
moments_from before [] (line ∷ lines) = Err (length before + 1)
moments_from before (directive ∷ script) [] = Err (length before + 1)
moments_from before (directive ∷ script) (line ∷ lines) =
    if line.number == directive.line then moments_from (before ++ first_of directive line ∷ own_lines directive.line lines) script (lines_behind directive.line lines)
    else Err (length before + 1)

abbrev pub moments_of : List Directive → List TraceLine → Result (List Moment) ℕ
moments_of script lines = moments_from [] script lines
