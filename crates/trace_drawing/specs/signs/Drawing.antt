-- The signs of a trace: what is drawn of it, line by line, in whatever form.
use Rattle.std.specs.Prelude.{ℕ, ◌+◌, ◌==◌, ◌&&◌, nat_lt, nat_le, List, [], ◌∷◌, ◌++◌, length, Bool, true, false, Option, Some, None, is_some, unwrap_or, Result, Ok, Err, bytes_eq, if◌then◌else◌}
use Rattle.mcal_base.specs.Names.{service_text}
use Rattle.mcal_base.specs.declared.moves.Move.{Move}
use Rattle.mcal_base.specs.declared.moves.Move.TheVariants as moves
use Rattle.mcal_base.specs.declared.service.Service.{Service}
use Rattle.bench_report.specs.declared.frames.Purpose.{Purpose}
use Rattle.bench_report.specs.declared.frames.Purpose.TheVariants as purposes
use Rattle.trace_reader.specs.declared.told.Mark.{Mark}
use Rattle.trace_reader.specs.declared.told.Mark.TheVariants as marks
use Rattle.trace_reader.specs.declared.told.Step.{Step}
use Rattle.trace_reader.specs.declared.told.Told.{Told}
use Rattle.trace_reader.specs.declared.told.Told.TheVariants as tells
use Rattle.trace_forms.specs.kinds.Sums.{sum_up}
use Rattle.trace_forms.specs.declared.kinds.signs.Asked.{Asked}
use Rattle.trace_forms.specs.declared.kinds.signs.Asked.TheVariants as asks
use Rattle.trace_forms.specs.declared.kinds.signs.Ending.{Ending}
use Rattle.trace_forms.specs.declared.kinds.signs.Ending.TheVariants as endings
use Rattle.trace_forms.specs.declared.kinds.signs.Frame.{Frame}
use Rattle.trace_forms.specs.declared.kinds.signs.Sign.{Sign}
use Rattle.trace_forms.specs.declared.kinds.signs.What.{What}
use Rattle.trace_forms.specs.declared.kinds.signs.What.TheVariants as whats
use Rattle.trace_drawing.specs.declared.signs.moments.Moment.{Moment}

-- the signs so far, and where the trace stands behind them
pub record Drawing : Type 0 where
  pub signs : List Sign
  -- the frames that are under way, the topmost first
  pub frames : List Frame
  -- the steps that were made, and the ticks that were asked for or waited
  pub steps : ℕ
  pub ticks : ℕ
  -- the step that closed the mask, while it is closed
  pub since : Option ℕ
  -- a directive was held, or the chip was reset, since the last step
  pub fresh : Bool

abbrev pub blank : Drawing
blank = record { signs = []; frames = []; steps = 0; ticks = 0; since = None; fresh = false }

-- with one more sign
abbrev pub put : Drawing → ℕ → What → Drawing
put d number what = record d { signs = d.signs ++ record { step = d.steps; number = number; depth = length d.frames; closed = is_some d.since; what = what } ∷ [] }

-- ---- what the first line of a directive shows of it

abbrev pub turned : Drawing → Moment → Drawing
turned d m = if m.first then put d m.number (whats.Turn m.asked) else d

abbrev pub with_ticks : Drawing → ℕ → Drawing
with_ticks d ticks = record d { ticks = sum_up d.ticks ticks }

abbrev pub ticked : Drawing → Moment → Drawing
ticked d m = if m.ticks == 0 then d else put (with_ticks d m.ticks) m.number (whats.Ticked m.ticks (sum_up d.ticks m.ticks))

abbrev pub with_frame : Drawing → ℕ → Frame → Drawing
with_frame d number frame = put (record d { frames = frame ∷ d.frames }) number (whats.Begins frame)

-- the level of a call that is asked for
abbrev pub level_of : Asked → ℕ
level_of (asks.Frame purpose level whole) = level
level_of _ = 0

abbrev pub begun : Drawing → ℕ → ℕ → Option Purpose → Drawing
begun d number level None = d
begun d number level (Some purpose) = with_frame d number (record { purpose = purpose; level = level; number = number; depth = length d.frames + 1; from = d.steps })

abbrev pub entered : Drawing → Moment → Drawing
entered d m = begun (ticked (turned d m) m) m.number (level_of m.asked) m.begins

-- ---- frames and the mask

-- the mask is opened, or lost
abbrev pub shut_at : Drawing → ℕ → Option ℕ → Drawing
shut_at d number None = d
shut_at d number (Some step) = record (put d number (whats.Window step)) { since = None }

abbrev pub shut : Drawing → ℕ → Drawing
shut d number = shut_at d number d.since

-- the topmost frame is gone
abbrev pub ended_of : Drawing → ℕ → Ending → List Frame → Drawing
ended_of d number ending [] = d
ended_of d number ending (frame ∷ frames) = record (put d number (whats.Gone frame ending)) { frames = frames }

abbrev pub ended : Drawing → ℕ → Ending → Drawing
ended d number ending = ended_of d number ending d.frames

-- all frames are gone
abbrev pub all_ended_of : Drawing → ℕ → Ending → List Frame → Drawing
all_ended_of d number ending [] = d
all_ended_of d number ending (frame ∷ frames) = all_ended_of (record (put d number (whats.Gone frame ending)) { frames = frames }) number ending frames

abbrev pub all_ended : Drawing → ℕ → Ending → Drawing
all_ended d number ending = all_ended_of d number ending d.frames

-- ---- what a line tells

-- before the sign of a step, and behind it
abbrev pub before_step : Drawing → Move → Drawing
before_step d moves.Mask = record d { since = Some (unwrap_or d.since d.steps) }
before_step d _ = d

abbrev pub behind_step : Drawing → ℕ → Move → Drawing
behind_step d number moves.Unmask = shut d number
behind_step d number _ = d

abbrev pub counted : Drawing → Drawing
counted d = record d { steps = sum_up d.steps 1; fresh = false }

abbrev pub stepped : Drawing → ℕ → Step → Drawing
stepped d number step = behind_step (counted (put (before_step d step.made) number (whats.Stepped step d.fresh))) number step.made

abbrev pub freshly : Drawing → Drawing
freshly d = record d { fresh = true }

abbrev pub told : Drawing → ℕ → Told → Drawing
told d number (tells.Held cause) = put (freshly d) number (whats.Held cause)
told d number (tells.Step step) = stepped d number step
told d number (tells.Waited ticks) = put (with_ticks d ticks) number (whats.Waited ticks (sum_up d.ticks ticks))
told d number (tells.Noted notice) = put d number (whats.Noted notice)
told d number (tells.Erred found) = put d number (whats.Erred found)
told d number (tells.Returned service reply) = ended d number (endings.Returned reply)
told d number (tells.Left line) = ended d number endings.Left
told d number (tells.Reset reason dropped) = shut (all_ended (put (freshly d) number (whats.Reset reason dropped)) number endings.Dropped) number
told d number tells.Shown = put d number whats.Shown
told d number tells.Done = put d number whats.Done

-- ---- what a line may tell

-- a chip has 32 lines
abbrev pub is_on_chip : Option Mark → Bool
is_on_chip (Some (marks.Serve line)) = nat_lt line 32
is_on_chip _ = true

abbrev pub is_call_of : Service → Purpose → Bool
is_call_of service (purposes.Call own) = bytes_eq (service_text own) (service_text service)
is_call_of service (purposes.Handler line) = false

abbrev pub is_handler_of : ℕ → Purpose → Bool
is_handler_of line (purposes.Call own) = false
is_handler_of line (purposes.Handler own) = own == line

-- what the topmost frame was begun for, where it made a step
abbrev pub top_of : ℕ → List Frame → Option Purpose
top_of steps [] = None
top_of steps (frame ∷ frames) = if nat_lt frame.from steps then Some frame.purpose else None

abbrev pub is_of : (Purpose → Bool) → Option Purpose → Bool
is_of p None = false
is_of p (Some purpose) = p purpose

-- a step has as many frames as are there; a call or a handler ends that is the topmost; a reset drops all
abbrev pub fits_frames : Drawing → Told → Bool
fits_frames d (tells.Step step) = (step.depth == length d.frames) && (nat_lt 0 step.depth && is_on_chip step.mark)
fits_frames d (tells.Returned service reply) = is_of (is_call_of service) (top_of d.steps d.frames)
fits_frames d (tells.Left line) = is_of (is_handler_of line) (top_of d.steps d.frames)
fits_frames d (tells.Reset reason dropped) = dropped == length d.frames
fits_frames d _ = true

-- and there are at most eight
abbrev pub fits : Drawing → Told → Bool
fits d told = nat_le (length d.frames) 8 && fits_frames d told

-- ---- the whole trace

-- after lines of a trace; else the number of the first one, from 1 behind some lines, that can't stand where it does
abbrev pub drawn : ℕ → Drawing → List Moment → Result Drawing ℕ
drawn place d [] = Ok d
drawn place d (m ∷ ms) = if fits (entered d m) m.told then drawn (place + 1) (told (entered d m) m.number m.told) ms else Err (place + 1)

-- what is under way where the trace ends, behind all its lines
abbrev pub completed : Drawing → Drawing
completed d = shut (all_ended d 0 endings.Open) 0

abbrev pub completed_of : Result Drawing ℕ → Result Drawing ℕ
completed_of (Ok d) = Ok (completed d)
completed_of (Err line) = Err line

abbrev pub drawing_of : List Moment → Result Drawing ℕ
drawing_of ms = completed_of (drawn 0 blank ms)
