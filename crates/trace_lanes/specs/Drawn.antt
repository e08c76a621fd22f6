-- What each sign of a run puts on the page.
use Rattle.std.specs.Prelude.{ℕ, ◌-◌, ◌/◌, ◌==◌, ◌&&◌, max, nat_le, nat_lt, not, Bool, true, false, Option, Some, None, List, [], ◌∷◌, ◌++◌, flat_map, if◌then◌else◌}
use Rattle.trace_forms.specs.kinds.Sums.{sum_up}
use Rattle.trace_forms.specs.declared.kinds.signs.Asked.{Asked}
use Rattle.bench_report.specs.declared.frames.Purpose.{Purpose}
use Rattle.trace_forms.specs.declared.kinds.signs.Ending.{Ending}
use Rattle.trace_forms.specs.declared.kinds.signs.Ending.TheVariants as endings
use Rattle.trace_forms.specs.declared.kinds.signs.Frame.{Frame}
use Rattle.trace_forms.specs.declared.kinds.signs.Sign.{Sign}
use Rattle.trace_forms.specs.declared.kinds.signs.What.{What}
use Rattle.trace_forms.specs.declared.kinds.signs.What.TheVariants as whats
use Rattle.trace_lanes.specs.Board.{Stroke, Draws, Says, SaysEither, SaysLine}
use Rattle.trace_lanes.specs.PageState as page_states
use Rattle.trace_lanes.specs.declared.board.Mark.TheVariants as marks
use Rattle.trace_lanes.specs.declared.board.Shape.{Shape}
use Rattle.trace_lanes.specs.declared.caption.Caption.{Caption}
use Rattle.trace_lanes.specs.declared.caption.Caption.TheVariants as captions
use Rattle.trace_lanes.specs.declared.page_state.PageState.{PageState}
use Rattle.trace_lanes.specs.declared.page_state.Level.{Level}
use Rattle.trace_lanes.specs.declared.page_state.RowPoint.{RowPoint}
use Rattle.trace_lanes.specs.declared.page_state.Setting.{Setting}
use Rattle.trace_lanes.specs.declared.page_state.Wait.{Wait}
use Rattle.trace_lanes.specs.declared.rows.Row.{Row}
use Rattle.trace_lanes.specs.declared.rows.Row.TheVariants as rows

-- ---- which signs are drawn

-- the last step for which there is room
abbrev pub most_steps : ℕ
most_steps = 20000

-- has a shape of its own
abbrev pub is_shape : What → Bool
is_shape (whats.Begins frame) = false
is_shape _ = true

-- the step where its shape begins
abbrev pub first_step : ℕ → What → ℕ
first_step step (whats.Gone frame ending) = frame.from
first_step step (whats.Window first) = first
first_step step _ = step

unfoldable pub is_drawn : Sign → Bool
is_drawn s = is_shape s.what && nat_le (first_step s.step s.what) most_steps

unfoldable pub is_left_out : Sign → Bool
is_left_out s = is_shape s.what && not (nat_le (first_step s.step s.what) most_steps)

-- ---- what a sign puts on the page

-- its symbol, in a row, where its step is
abbrev pub symbol : PageState → Sign → Row → Shape
symbol c s row = record { mark = marks.Symbol s.what; row = row; x = sum_up c.x (page_states.breadth c s.what / 2); width = 0; sign = s }

-- a value, where it ends
abbrev pub wave : Level → ℕ → Shape
wave level end = record { mark = marks.Wave (nat_lt 0 level.value); row = level.row; x = level.x; width = end - level.x; sign = level.sign }

unfoldable pub ended : Level → ℕ → List Stroke
ended level end = Draws (wave level end) ∷ Says level.row (sum_up level.x 3) end (captions.Value level.value) ∷ []

abbrev pub overtaken_by : PageState → Setting → Option Level → List Stroke
overtaken_by c to None = []
overtaken_by c to (Some level) = if level.value == to.value then [] else ended level c.x

-- the value that it ends
unfoldable pub overtaken : PageState → Option Setting → List Stroke
overtaken c None = []
overtaken c (Some to) = overtaken_by c to (page_states.level_in c to.row)

unfoldable pub turn : PageState → Sign → Asked → List Stroke
turn c s asked = Draws (symbol c s (rows.Script 0)) ∷ SaysLine (sum_up c.x 2) (captions.Turn s.number asked) ∷ []

unfoldable pub gap : PageState → Sign → ℕ → List Stroke
gap c s all = Draws (record { mark = marks.Gap; row = rows.Ticks; x = sum_up c.x 1; width = 52; sign = s }) ∷ Says rows.Ticks (sum_up c.x 3) 20000000 (captions.Time all) ∷ []

-- how long a frame waited, where it begins
unfoldable pub waited_since : PageState → Sign → Row → Wait → List Stroke
waited_since c s row wait =
    Draws (record { mark = marks.Wait; row = row; x = wait.x; width = c.x - wait.x; sign = s })
    ∷ Says row (sum_up wait.x 3) c.x (captions.Waits (s.step - wait.step) (c.ticks - wait.ticks)) ∷ []

unfoldable pub waited : PageState → Sign → Row → Option Wait → List Stroke
waited c s row None = []
waited c s row (Some wait) = waited_since c s row wait

abbrev pub waited_in : PageState → Sign → Row → List Stroke
waited_in c s row = waited c s row (page_states.wait_in c row)

-- the label of a frame's bar: what it was begun for, and its answer
abbrev pub long_label : Purpose → Ending → Caption
long_label purpose (endings.Returned reply) = captions.Answer purpose reply
long_label purpose _ = captions.Frame purpose

-- the bar of a frame, where it is gone
unfoldable pub gone : PageState → Sign → Frame → Ending → List Stroke
gone c s frame ending =
    Draws (record { mark = marks.Bar frame.purpose ending; row = page_states.row_of frame.purpose frame.level; x = (page_states.frame_at c frame.depth).x; width = max (c.x - (page_states.frame_at c frame.depth).x) 2; sign = s })
    ∷ SaysEither (page_states.row_of frame.purpose frame.level) (sum_up (page_states.frame_at c frame.depth).x 3) c.x (long_label frame.purpose ending) (captions.Frame frame.purpose) ∷ []

-- the steps with the mask closed, where it is opened
unfoldable pub window : PageState → Sign → Option RowPoint → List Stroke
window c s None = Draws (symbol c s rows.Held) ∷ []
window c s (Some place) = Draws (record { mark = marks.Mask; row = place.row; x = place.x; width = max (c.x - place.x) 1; sign = s }) ∷ []

-- a symbol with what it says above it
unfoldable pub flag : PageState → Sign → Row → List Stroke
flag c s row = Draws (symbol c s row) ∷ Says row c.x 20000000 (captions.Says s.what) ∷ []

unfoldable pub shown : PageState → Sign → What → List Stroke
shown c s (whats.Turn asked) = turn c s asked
shown c s (whats.Ticked ticks all) = gap c s all
shown c s (whats.Waited ticks all) = gap c s all
shown c s (whats.Begins frame) = waited_in c s (page_states.row_of frame.purpose frame.level)
shown c s (whats.Stepped step fresh) = Draws (symbol c s (page_states.frame_at c s.depth).row) ∷ []
shown c s (whats.Held cause) = flag c s rows.Held
shown c s (whats.Noted notice) = flag c s rows.Notices
shown c s (whats.Erred found) = flag c s rows.Errors
shown c s (whats.Gone frame ending) = gone c s frame ending
shown c s (whats.Window first) = window c s c.shut
shown c s (whats.Reset reason dropped) = flag c s rows.Errors
shown c s whats.Shown = Draws (symbol c s (rows.Script 0)) ∷ []
shown c s whats.Done = Draws (symbol c s (rows.Script 0)) ∷ []

unfoldable pub drawn_by : PageState → Sign → List Stroke
drawn_by c s = overtaken c (page_states.setting_of s.what) ++ shown c s s.what

-- ---- what all signs put there

-- nothing, where the page has no room for it; and the run goes on behind it
unfoldable pub strokes_of : PageState → Sign → List Stroke
strokes_of c s = if is_left_out s then [] else drawn_by c s

unfoldable pub next : PageState → Sign → PageState
next c s = if is_left_out s then c else page_states.behind c s

abbrev pub strokes : PageState → List Sign → List Stroke
strokes c [] = []
strokes c (s ∷ signs) = strokes_of c s ++ strokes (next c s) signs

abbrev pub behind_all : PageState → List Sign → PageState
behind_all c [] = c
behind_all c (s ∷ signs) = behind_all (next c s) signs

-- the values that stand at the end, of rows where they changed
unfoldable pub last : ℕ → Option Level → List Stroke
last end None = []
last end (Some level) = if level.changed then ended level end else []

abbrev pub lasts : ℕ → List (Option Level) → List Stroke
lasts end levels = flat_map (last end) levels
