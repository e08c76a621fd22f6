-- The report of a script, of what its journal says, and of the rows that each of its shows printed.
use Rattle.std.specs.Prelude.{ℕ, ◌==◌, ◌&&◌, List, [], ◌∷◌, ◌++◌, Bool, true, false, Option, Some, None, map, drop, flat_map, count_by, option_to_list, if◌then◌else◌}
use Rattle.std.specs.List.{list_all}
use Rattle.mcal_base.specs.declared.answer.Answer.{Answer}
use Rattle.mcal_base.specs.declared.directive.Directive.{Directive}
use Rattle.mcal_base.specs.declared.directive.Order.{Order}
use Rattle.mcal_base.specs.declared.directive.Order.TheVariants as orders
use Rattle.mcal_base.specs.declared.moves.Move.{Move}
use Rattle.mcal_base.specs.declared.moves.Move.TheVariants as moves
use Rattle.run_model.specs.Entry.{Entry, Said, Happens, Begins, Stays, Steps, Resets}
use Rattle.run_model.specs.declared.item.Stepped.{Stepped}
use Rattle.bench_report.specs.declared.frames.Purpose.{Purpose}
use Rattle.bench_report.specs.declared.frames.Purpose.TheVariants as purposes
use Rattle.bench_report.specs.Lines.{Line, Holds, Makes, Waits, Notes, Errs, Returns, Leaves, Restarts, Shows, Done, numbered, end_text}
use Rattle.bench_report.specs.Rows.{Row}
use Rattle.bench_report.specs.Shown.{next_rows, shows_after}

-- what a directive begins a frame for
abbrev pub purpose_of : Order → Option Purpose
purpose_of (orders.Call level request) = Some (purposes.Call request.service)
purpose_of (orders.Do level request) = Some (purposes.Call request.service)
purpose_of (orders.Enter line) = Some (purposes.Handler line)
purpose_of (orders.Serve line) = Some (purposes.Handler line)
purpose_of _ = None

-- what the frames were begun for, the topmost first, after a step: one that ended the topmost takes it off
abbrev pub frames_after_end : List Purpose → Option Answer → List Purpose
frames_after_end frames None = frames
frames_after_end frames (Some answer) = drop 1 frames

-- what the frames were begun for after an item of a directive
abbrev pub frames_after : Order → List Purpose → Said → List Purpose
frames_after order frames (Happens what) = frames
frames_after order frames Begins = option_to_list (purpose_of order) ++ frames
frames_after order frames (Stays cause) = frames
frames_after order frames (Steps step) = frames_after_end frames step.ended
frames_after order frames (Resets reason dropped) = []

-- the line of a step itself
abbrev pub step_lines : Bool → ℕ → Stepped → List Line
step_lines false depth step = []
step_lines true depth step = Makes depth step.made step.value step.received step.event ∷ []

-- the line of a move
abbrev pub move_lines : Move → List Line
move_lines (moves.Note notice) = Notes notice ∷ []
move_lines (moves.Report found) = Errs found ∷ []
move_lines _ = []

-- the line of an end of the topmost frame
abbrev pub end_lines : List Purpose → Option Answer → List Line
end_lines frames None = []
end_lines [] (Some answer) = []
end_lines (purposes.Call service ∷ frames) (Some answer) = Returns service answer.head answer.words ∷ []
end_lines (purposes.Handler line ∷ frames) (Some answer) = Leaves line ∷ []

-- a step comes next
abbrev pub is_stepped : Said → Bool
is_stepped (Steps step) = true
is_stepped _ = false

abbrev pub steps_next : List Entry → Bool
steps_next [] = false
steps_next (entry ∷ entries) = is_stepped entry.said

-- the line of ticks, where a step waited for them
abbrev pub wait_lines : (waited : Bool) → ℕ → List Line
wait_lines false ticks = []
wait_lines true ticks = Waits ticks ∷ []

-- the lines of what happened: a show prints its rows, and ticks those that a step waited
abbrev pub order_lines : (waited : Bool) → List Row → Order → List Line
order_lines waited rows (orders.Show what) = map (λ row. Shows row) rows
order_lines waited rows (orders.Tick ticks) = wait_lines waited ticks
order_lines waited rows _ = []

-- the lines of an item, with what the frames before it were begun for, the rows of the show that comes next, and whether a step does
abbrev pub said_lines : Bool → ℕ → List Purpose → List Row → (next : Bool) → Said → List Line
said_lines traced depth frames rows next (Happens what) = order_lines (traced && next) rows what
said_lines traced depth frames rows next Begins = []
said_lines traced depth frames rows next (Stays cause) = Holds cause ∷ []
said_lines traced depth frames rows next (Steps step) = step_lines traced depth step ++ (move_lines step.made ++ end_lines frames step.ended)
said_lines traced depth frames rows next (Resets reason dropped) = Restarts reason dropped ∷ []

-- the lines of the items of a directive, what the frames after them were begun for, and the shows that are left
abbrev pub chapter_lines : Bool → Order → List Purpose → List (List Row) → List Entry → List Line
chapter_lines traced order frames shows [] = []
chapter_lines traced order frames shows (entry ∷ entries) =
    said_lines traced entry.depth frames (next_rows shows) (steps_next entries) entry.said ++ chapter_lines traced order (frames_after order frames entry.said) (shows_after shows entry.said) entries

abbrev pub chapter_frames : Order → List Purpose → List Entry → List Purpose
chapter_frames order frames [] = frames
chapter_frames order frames (entry ∷ entries) = chapter_frames order (frames_after order frames entry.said) entries

abbrev pub chapter_shows : List (List Row) → List Entry → List (List Row)
chapter_shows shows [] = shows
chapter_shows shows (entry ∷ entries) = chapter_shows (shows_after shows entry.said) entries

-- the lines that only a traced report has, of a step itself and of its wait: beside them a directive may print ok
abbrev pub is_traced : Line → Bool
is_traced (Makes depth made value received event) = true
is_traced (Waits ticks) = true
is_traced _ = false

-- a directive that prints nothing else prints ok
abbrev pub with_done : List Line → List Line
with_done lines = if list_all is_traced lines then lines ++ Done ∷ [] else lines

-- the items that come next with a script line, and those behind them
abbrev pub own_entries : ℕ → List Entry → List Entry
own_entries line [] = []
own_entries line (entry ∷ entries) = if entry.line == line then entry ∷ own_entries line entries else []

abbrev pub later_entries : ℕ → List Entry → List Entry
later_entries line [] = []
later_entries line (entry ∷ entries) = if entry.line == line then later_entries line entries else entry ∷ entries

-- a line with the number of its script line
pub record Numbered : Type 0 where
  pub number : ℕ
  pub says : Line

abbrev pub all_numbered : ℕ → List Line → List Numbered
all_numbered number lines = map (λ line. record { number = number; says = line }) lines

-- the lines of a script, directive by directive
abbrev pub report_lines : Bool → List Purpose → List (List Row) → List Directive → List Entry → List Numbered
report_lines traced frames shows [] entries = []
report_lines traced frames shows (directive ∷ script) entries =
    let own = own_entries directive.line entries in
    all_numbered directive.line (with_done (chapter_lines traced directive.order frames shows own))
    ++ report_lines traced (chapter_frames directive.order frames own) (chapter_shows shows own) script (later_entries directive.line entries)

-- the items that belong to no directive of the script
abbrev pub left_over : List Directive → List Entry → List Entry
left_over [] entries = entries
left_over (directive ∷ script) entries = left_over script (later_entries directive.line entries)

-- the kinds of lines that the last line counts
abbrev pub is_return : Line → Bool
is_return (Returns service head words) = true
is_return _ = false

abbrev pub is_leave : Line → Bool
is_leave (Leaves line) = true
is_leave _ = false

abbrev pub is_hold : Line → Bool
is_hold (Holds cause) = true
is_hold _ = false

abbrev pub is_error : Line → Bool
is_error (Errs found) = true
is_error _ = false

abbrev pub is_note : Line → Bool
is_note (Notes notice) = true
is_note _ = false

-- the last line: returned calls, ended handlers, held directives, error reports and notices
abbrev pub end_of : List Numbered → List ℕ
end_of lines = end_text (record {
  calls = count_by (λ l. is_return l.says) lines;
  handlers = count_by (λ l. is_leave l.says) lines;
  held = count_by (λ l. is_hold l.says) lines;
  errors = count_by (λ l. is_error l.says) lines;
  notes = count_by (λ l. is_note l.says) lines;
})

-- the report, with a line for each step where it is traced
abbrev pub report : Bool → List Directive → List Entry → (shows : List (List Row)) → List ℕ
report traced script entries shows =
    let lines = report_lines traced [] shows script entries in
    flat_map (λ l. numbered l.number l.says) lines ++ end_of lines
