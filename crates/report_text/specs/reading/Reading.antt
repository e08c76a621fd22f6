-- Which items the lines of a block tell, in the moment before it: what a line leaves out is what directive, machine and chip say.
use Rattle.std.specs.Prelude.{◌≡◌, ℕ, zero, suc, ◌-◌, Bool, true, false, List, [], ◌∷◌, ◌++◌, length, map, flat_map, nat_lt, Option, Some, None, option_map, if◌then◌else◌}
use Rattle.bench_report.specs.Numbers.{Each, EntryFits}
use Rattle.bench_report.specs.Report.{report}
use Rattle.bench_report.specs.Showing.{Showing, shows_from}
use Rattle.chip_model.specs.Chip.{Chip}
use Rattle.mcal_base.specs.declared.answer.Answer.{Answer}
use Rattle.mcal_base.specs.declared.directive.Directive.{Directive}
use Rattle.mcal_base.specs.declared.directive.Order.{Order}
use Rattle.mcal_base.specs.declared.directive.Order.TheVariants as orders
use Rattle.mcal_base.specs.declared.directive.Reason.TheVariants.{Watchdog}
use Rattle.mcal_base.specs.declared.directive.Request.{Request}
use Rattle.mcal_base.specs.declared.moves.Event.{Event}
use Rattle.mcal_base.specs.declared.moves.Event.TheVariants as events
use Rattle.mcal_base.specs.declared.moves.Move.{Move}
use Rattle.mcal_base.specs.declared.moves.Move.TheVariants as moves
use Rattle.mcal_base.specs.declared.moves.Unit as units
use Rattle.mcal_base.specs.declared.moves.Unit.TheVariants.{Adc0, Adc1, Spi0, Spi1}
use Rattle.mcal_base.specs.declared.register.Reg.TheVariants.{ConverterGo, ConverterAbort, SerialData}
use Rattle.run_model.specs.Entry.{Entry, Said, Happens, Begins, Stays, Steps, Resets}
use Rattle.run_model.specs.Follows.{Gives, deeds_in, ticks_through}
use Rattle.run_model.specs.Frame.{Origin, Called, Entered, Open, open_after}
use Rattle.run_model.specs.Legal.{IsLegal}
use Rattle.run_model.specs.Machine.{no_answer}
use Rattle.run_model.specs.Moment as moments
use Rattle.run_model.specs.Moment.{Setting, Moment, start_moment, after, after_all}
use Rattle.run_model.specs.Script.{beginnings_of}
use Rattle.run_model.specs.declared.item.Stepped.{Stepped}
use Rattle.script_runner.specs.Scripts.{IsRun, LinesRise}
use Rattle.report_text.specs.reading.Fits.{DirectiveFits, PurposeFits}
use Rattle.report_text.specs.reading.Blocks.{AuditState, IsBlock, place_after, block_lines, own_lines, behind}
use Rattle.trace_reader.specs.Reading.{read_line, parts_of}
use Rattle.trace_reader.specs.Told.{told}
use Rattle.trace_reader.specs.declared.told.Mark.{Mark}
use Rattle.trace_reader.specs.declared.told.Mark.TheVariants as marks
use Rattle.trace_reader.specs.declared.told.Step.{Step}
use Rattle.trace_reader.specs.declared.told.Told.{Told}
use Rattle.trace_reader.specs.declared.told.Told.TheVariants as tells
use Rattle.trace_reader.specs.declared.told.TraceLine.{TraceLine}

-- ---- a step

-- the unit of this number, of a kind
abbrev pub converter_at : ℕ → Option units.Unit
converter_at zero = Some Adc0
converter_at (suc zero) = Some Adc1
converter_at (suc (suc n)) = None

abbrev pub serial_at : ℕ → Option units.Unit
serial_at zero = Some Spi0
serial_at (suc zero) = Some Spi1
serial_at (suc (suc n)) = None

-- the unit that the register of a start, and of an abort, names
abbrev pub started_by : Move → Option units.Unit
started_by (moves.Write (ConverterGo k) v) = converter_at k
started_by (moves.Write (SerialData k) v) = serial_at k
started_by _ = None

abbrev pub aborted_by : Move → Option units.Unit
aborted_by (moves.Read (ConverterAbort k)) = converter_at k
aborted_by _ = None

-- the event that is marked at a move
abbrev pub event_of : Move → Option Mark → Option Event
event_of made None = None
event_of made (Some marks.Act) = Some events.Act
event_of made (Some (marks.Serve line)) = Some (events.Serve line)
event_of made (Some marks.Start) = option_map (λ u. events.Start u) (started_by made)
event_of made (Some marks.Abort) = option_map (λ u. events.Abort u) (aborted_by made)

-- an end of the frame comes next, perhaps behind the line of the step's notice or report
abbrev pub ends_next : List Told → Bool
ends_next [] = false
ends_next (tells.Returned service reply ∷ lines) = true
ends_next (tells.Left line ∷ lines) = true
ends_next (tells.Noted notice ∷ lines) = ends_next lines
ends_next (tells.Erred found ∷ lines) = ends_next lines
ends_next (_ ∷ lines) = false

-- the answer with which a frame ends: that of its act, none of a handler
abbrev pub answer_of : {Call : Type 0} → Origin Call → Open Call → Option Answer
answer_of (Called c) o = o.acted
answer_of (Entered l) o = Some no_answer

-- the step of the top frame that a line tells
abbrev pub stepped : {State Call : Type 0} → Setting State Call → Moment State Call → List (Open Call) → Step → (ends : Bool) → Stepped
stepped g m [] s ends = record { made = s.made; value = s.value; received = s.received; event = event_of s.made s.mark; ended = None }
stepped g m (o ∷ os) s ends =
    let event = event_of s.made s.mark in
    let answer = answer_of o.origin (open_after g.machine m.world m.state o s.made s.received event) in
    record { made = s.made; value = s.value; received = s.received; event = event; ended = (if ends then answer else None) }

-- an item of a directive in a moment
abbrev pub item : {State Call : Type 0} → Moment State Call → (line : ℕ) → Said → Entry
item m line said = record { line = line; depth = length m.opens; said = said }

-- the ticks of a wait in which the watchdog's time ends, of which no line tells
abbrev pub ran_out : {State Call : Type 0} → Moment State Call → (line : ℕ) → (left : Option ℕ) → List Entry
ran_out m line None = []
ran_out m line (Some n) = item m line (Happens (orders.Tick n)) ∷ []

-- steps, each after its wait, and a reset, behind which nothing comes; what the other lines tell is in them
abbrev pub steps_of : {State Call : Type 0} → Setting State Call → (line : ℕ) → Moment State Call → List Told → List Entry
steps_of g line m [] = []
steps_of g line m (tells.Step s ∷ lines) = let made = stepped g m m.opens s (ends_next lines) in item m line (Steps made) ∷ steps_of g line (after g m (moments.Steps made)) lines
steps_of g line m (tells.Waited n ∷ lines) = item m line (Happens (orders.Tick n)) ∷ steps_of g line (after g m (moments.Happens (orders.Tick n))) lines
steps_of g line m (tells.Reset Watchdog dropped ∷ lines) = ran_out m line (g.machine.expires m.world m.state) ++ item m line (Resets Watchdog dropped) ∷ []
steps_of g line m (tells.Reset reason dropped ∷ lines) = item m line (Resets reason dropped) ∷ []
steps_of g line m (_ ∷ lines) = steps_of g line m lines

-- ---- a directive

-- a held one says its cause
abbrev pub held_or : {State Call : Type 0} → Moment State Call → (line : ℕ) → List Told → List Entry → List Entry
held_or m line (tells.Held cause ∷ lines) items = item m line (Stays cause) ∷ []
held_or m line lines items = items

-- ticks, through the end of the watchdog's time where it comes in them
abbrev pub ticks_of : {State Call : Type 0} → Moment State Call → (line n : ℕ) → (left : Option ℕ) → List Entry
ticks_of m line n None = item m line (Happens (orders.Tick n)) ∷ []
ticks_of m line n (Some left) = if nat_lt n left then item m line (Happens (orders.Tick n)) ∷ [] else ticks_through line (length m.opens) left (n - left)

-- those of a directive that isn't held
abbrev pub items_by : {State Call : Type 0} → Setting State Call → (Request → Call) → Moment State Call → (line : ℕ) → Order → List Told → List Entry
items_by g call_of m line (orders.Call level r) lines = item m line Begins ∷ []
items_by g call_of m line (orders.Enter l) lines = item m line Begins ∷ []
items_by g call_of m line (orders.Do level r) lines = item m line Begins ∷ steps_of g line (after_all g m (beginnings_of call_of (Some (orders.Do level r)))) lines
items_by g call_of m line (orders.Serve l) lines = item m line Begins ∷ steps_of g line (after_all g m (beginnings_of call_of (Some (orders.Serve l)))) lines
items_by g call_of m line (orders.Run n) lines = steps_of g line m lines
items_by g call_of m line (orders.Upto stop) lines = steps_of g line m lines
items_by g call_of m line orders.Finish lines = steps_of g line m lines
items_by g call_of m line (orders.Tick n) lines = ticks_of m line n (g.machine.expires m.world m.state)
items_by g call_of m line (orders.Reset reason) lines = item m line (Resets reason (length m.opens)) ∷ []
items_by g call_of m line order lines = item m line (Happens order) ∷ []

-- the items that the lines of a directive tell
abbrev pub items_of : {State Call : Type 0} → Setting State Call → (Request → Call) → Moment State Call → Directive → List Told → List Entry
items_of g call_of m d lines = held_or m d.line lines (items_by g call_of m d.line d.order lines)

-- ---- a report

-- what a line tells, where it is one of a report
abbrev pub told_in_line : Option TraceLine → List Told
told_in_line None = []
told_in_line (Some line) = line.told ∷ []

abbrev pub told_in : (lines : List (List ℕ)) → List Told
told_in lines = flat_map (λ line. told_in_line (read_line line)) lines

-- the items that a report tells of a script, directive by directive, from a moment on
abbrev pub read_from : {State Call : Type 0} → Setting State Call → (Request → Call) → Moment State Call → List Directive → (left : List (List ℕ)) → List Entry
read_from g call_of m [] left = []
read_from g call_of m (d ∷ ds) left =
    let items = items_of g call_of m d (told_in (own_lines d.line left)) in
    items ++ read_from g call_of (after_all g m (deeds_in call_of d.order items)) ds (behind d.line left)

-- the journal that a report tells
abbrev pub read_report : {State Call : Type 0} → Setting State Call → (Request → Call) → (first : Moment State Call) → List Directive → (report : List ℕ) → List Entry
read_report g call_of first script report = read_from g call_of first script (parts_of report)

-- ---- the laws

-- as many frames are under way as were begun and haven't ended
abbrev pub AreBegun : {State Call : Type 0} → AuditState State Call → Type 0
AreBegun p = length p.frames ≡ length p.moment.opens

-- Where an audit may have come: so many frames, and those of handlers were begun for lines of 32 bits.
pub record IsPlace {State Call : Type 0} (p : AuditState State Call) : Type 0 where
  pub begun : AreBegun p
  pub fit : Each PurposeFits p.frames

-- The items of a directive, legal, are those that their lines tell.
abbrev pub ReadsBack : {State Call : Type 0} → Setting State Call → (Request → Call) → Showing State → Type 0
ReadsBack {State} {Call} g call_of showing =
    (p : AuditState State Call) (d : Directive) (items : List Entry)
    → AreBegun p → Gives g call_of p.moment d.line d.order items → IsLegal g p.moment (deeds_in call_of d.order items)
    → items_of g call_of p.moment d (map told (block_lines g call_of showing p d items)) ≡ items

-- So two lists of items with one block are one, and lead to a place where an audit may have come.
abbrev pub ReadsOnce : {State Call : Type 0} → Setting State Call → (Request → Call) → Showing State → Type 0
ReadsOnce {State} {Call} g call_of showing =
    (p : AuditState State Call) (d : Directive) (block : List ℕ) (one other : IsBlock g call_of showing p d block)
    → IsPlace p → DirectiveFits d → (one.items ≡ other.items) × IsPlace (place_after g call_of showing p d one.items)

-- The journal of a run is read from its report.
abbrev pub ReadsReports : {State Call : Type 0} → Setting State Call → (Request → Call) → Showing State → Type 0
ReadsReports {State} {Call} g call_of showing =
    (first : Chip) (script : List Directive) (journal : List Entry)
    → LinesRise 0 script → Each DirectiveFits script → Each EntryFits journal → IsRun g first call_of script journal
    → read_report g call_of (start_moment g first) script (report true script journal (shows_from g call_of showing script (start_moment g first) journal)) ≡ journal
