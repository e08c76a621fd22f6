-- What shapes look like, and how they are written.
use Rattle.std.specs.Prelude.{ℕ, List, ◌++◌, true, false, Option, Some, None, codes, decimal}
use Rattle.bench_report.specs.declared.frames.Purpose.{Purpose}
use Rattle.bench_report.specs.declared.frames.Purpose.TheVariants as purposes
use Rattle.trace_reader.specs.declared.told.Mark as told
use Rattle.trace_reader.specs.declared.told.Mark.TheVariants as events
use Rattle.trace_forms.specs.Escapes.{escaped}
use Rattle.trace_forms.specs.Sentences.{sentence}
use Rattle.trace_forms.specs.declared.kinds.signs.Ending.{Ending}
use Rattle.trace_forms.specs.declared.kinds.signs.Ending.TheVariants as endings
use Rattle.trace_forms.specs.declared.kinds.signs.Sign.{Sign}
use Rattle.trace_forms.specs.declared.kinds.signs.What.{What}
use Rattle.trace_forms.specs.declared.kinds.signs.What.TheVariants as whats
use Rattle.trace_lanes.specs.declared.board.Mark.{Mark}
use Rattle.trace_lanes.specs.declared.board.Mark.TheVariants as marks

abbrev pub event_symbol : Option told.Mark → List ℕ
event_symbol None = codes "step"
event_symbol (Some events.Act) = codes "act"
event_symbol (Some (events.Serve line)) = codes "serve"
event_symbol (Some events.Abort) = codes "abort"
event_symbol (Some events.Start) = codes "start"

-- the symbol of a sign, and how far below the top of its row it stands
abbrev pub symbol : What → List ℕ
symbol (whats.Turn asked) = codes "turn"
symbol (whats.Stepped step fresh) = event_symbol step.mark
symbol (whats.Held cause) = codes "held"
symbol (whats.Noted notice) = codes "note"
symbol (whats.Erred found) = codes "error"
symbol (whats.Reset reason dropped) = codes "reset"
symbol whats.Shown = codes "shown"
symbol _ = codes "ok"

abbrev pub symbol_drop : What → ℕ
symbol_drop (whats.Stepped step fresh) = 23
symbol_drop (whats.Held cause) = 19
symbol_drop (whats.Noted notice) = 19
symbol_drop (whats.Erred found) = 19
symbol_drop (whats.Reset reason dropped) = 19
symbol_drop _ = 0

abbrev pub purpose_class : Purpose → List ℕ
purpose_class (purposes.Call service) = codes "call"
purpose_class (purposes.Handler line) = codes "handler"

abbrev pub ending_class : Ending → List ℕ
ending_class (endings.Returned reply) = codes ""
ending_class endings.Left = codes ""
ending_class endings.Dropped = codes " dropped"
ending_class endings.Open = codes " open"

-- the two classes of a box, how far below the top of its row it begins, and how high it is
abbrev pub class : Mark → List ℕ
class (marks.Bar purpose ending) = purpose_class purpose
class marks.Mask = codes "mask"
class marks.Wait = codes "wait"
class marks.Gap = codes "gap"
class (marks.Wave true) = codes "high"
class (marks.Wave false) = codes "low"
class (marks.Symbol what) = codes ""

abbrev pub second_class : Mark → List ℕ
second_class (marks.Bar purpose ending) = ending_class ending
second_class _ = codes ""

abbrev pub drop_of : Mark → ℕ
drop_of (marks.Bar purpose ending) = 1
drop_of marks.Mask = 29
drop_of marks.Wait = 17
drop_of (marks.Wave true) = 2
drop_of (marks.Wave false) = 15
drop_of marks.Gap = 0
drop_of (marks.Symbol what) = 0

abbrev pub height_of : Mark → ℕ → ℕ
height_of (marks.Bar purpose ending) reach = 33
height_of marks.Mask reach = 4
height_of marks.Wait reach = 2
height_of (marks.Wave true) reach = 15
height_of (marks.Wave false) reach = 2
height_of marks.Gap reach = reach
height_of (marks.Symbol what) reach = 0

-- in which layer of the page it lies
abbrev pub layer : Mark → ℕ
layer marks.Gap = 0
layer (marks.Bar purpose ending) = 1
layer (marks.Wave high) = 1
layer marks.Mask = 2
layer marks.Wait = 2
layer (marks.Symbol what) = 2

-- what is read where a shape is pointed at
abbrev pub title : Sign → List ℕ
title s = codes "script line " ++ (decimal s.number ++ (codes ", step " ++ (decimal s.step ++ (codes ": " ++ sentence s.what))))

abbrev pub point_text : List ℕ → ℕ → ℕ → List ℕ → List ℕ
point_text symbol x y title =
    codes "<use href='#" ++ (symbol ++ (codes "' x='" ++ (decimal x ++ (codes "' y='" ++ (decimal y ++ (codes "'><title>" ++ (escaped title ++ codes "</title></use>\n")))))))

-- a box by the two parts of its class, its place and its size
abbrev pub box_text : List ℕ → List ℕ → ℕ → ℕ → ℕ → ℕ → List ℕ → List ℕ
box_text kind gone x y width height title =
    codes "<rect class='" ++ (kind ++ (gone ++ (codes "' x='" ++ (decimal x ++ (codes "' y='" ++ (decimal y ++ (codes "' width='" ++ (decimal width ++
    (codes "' height='" ++ (decimal height ++ (codes "'><title>" ++ (escaped title ++ codes "</title></rect>\n"))))))))))))

abbrev pub words_text : ℕ → ℕ → List ℕ → List ℕ
words_text x y words = codes "<text x='" ++ (decimal x ++ (codes "' y='" ++ (decimal y ++ (codes "'>" ++ (escaped words ++ codes "</text>\n")))))
