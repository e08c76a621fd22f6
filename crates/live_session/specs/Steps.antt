-- The steps of the top frame: their lines, how far they go, and what follows one of them.
use Rattle.std.specs.Prelude.{◌≡◌, ℕ, zero, suc, Bool, List, [], ◌∷◌, ◌++◌, codes, Option, Some, None, MatchBool, if◌then◌else◌}
use Rattle.mcal_base.specs.declared.answer.Answer.{Answer}
use Rattle.mcal_base.specs.declared.directive.Reason.TheVariants.{Software, Watchdog}
use Rattle.run_model.specs.Frame.{resets_chip}
use Rattle.run_model.specs.Moment as moment
use Rattle.run_model.specs.declared.item.Stepped.{Stepped}
use Rattle.run_model.specs.declared.stop_condition.StopCondition.{StopCondition}
use Rattle.run_model.specs.declared.stop_condition.StopCondition.TheVariants as conditions
use Rattle.step_runner.specs.Driver.{Driver}
use Rattle.bench_report.specs.Lines.{Line, Holds, Restarts, Waits}
use Rattle.bench_report.specs.Report.{step_lines, move_lines, end_lines, frames_after_end}
use Rattle.bench_report.specs.declared.frames.Purpose.{Purpose}
use Rattle.live_board.specs.Lives.{GoesOn as MovesOn, IsBeside, LiveRun}
use Rattle.live_board.specs.declared.outside.Refusal.{Refusal}
use Rattle.live_board.specs.declared.outside.Refusal.TheVariants as refusals
use Rattle.live_session.specs.Pages.{Page, say, refused}
use Rattle.live_session.specs.declared.steps.Far.{Far}
use Rattle.live_session.specs.declared.steps.Far.TheVariants as far
use Rattle.live_session.specs.declared.steps.Goes as declared
use Rattle.live_session.specs.declared.steps.Goes.TheVariants as turns

-- the lines of a step, and of the reset that it makes: with what the frames before it were begun for, and how many are dropped by a reset
abbrev pub lines_of : (traced : Bool) → (depth : ℕ) → (frames : List Purpose) → (dropped : ℕ) → Stepped → List Line
lines_of traced depth frames dropped step =
    (step_lines traced depth step ++ (move_lines step.made ++ end_lines frames step.ended))
    ++ (if resets_chip step.made then Restarts Software dropped ∷ [] else [])

-- what the frames after it were begun for
abbrev pub frames_of : List Purpose → Stepped → List Purpose
frames_of frames step = if resets_chip step.made then [] else frames_after_end frames step.ended

-- the line of a wait
abbrev pub waits_of : (ticks : ℕ) → List Line
waits_of zero = []
waits_of (suc n) = Waits (suc n) ∷ []

-- what is told of the watchdog's reset, where it dropped so many frames, and what the frames after it were begun for
abbrev pub watchdog_lines : (dropped : Option ℕ) → List Line
watchdog_lines None = []
watchdog_lines (Some dropped) = Restarts Watchdog dropped ∷ []

abbrev pub watchdog_frames : List Purpose → (dropped : Option ℕ) → List Purpose
watchdog_frames frames None = frames
watchdog_frames frames (Some dropped) = []

-- what is told where something isn't done
abbrev pub refusal_told : Page → Refusal → Page
refusal_told page (refusals.Held cause) = say page (Holds cause)
refusal_told page refusals.Spent = refused page (codes "Spent")

-- whether the frame is there after its step
abbrev pub goes_by : Option Answer → declared.Goes
goes_by None = turns.On
goes_by (Some answer) = turns.Off

abbrev pub goes_after : Stepped → declared.Goes
goes_after step = if resets_chip step.made then turns.Off else goes_by step.ended

-- the driver on the chip, behind a step and the reset that it makes
abbrev pub IsFollowed : {M State Call Frame : Type 0} → Driver State Call Frame → (before after : LiveRun M Frame) → Stepped → Type 0
IsFollowed d before after step = MatchBool (resets_chip step.made) (MovesOn d before after (moment.Resets Software ∷ []) × IsBeside before after) (after ≡ before)

-- the condition at which a directive stops; steps up to the first that tells something are those to the frame's end, as far as they go
abbrev pub reach_of : Far → StopCondition
reach_of (far.Count n) = conditions.Count n
reach_of (far.Until stop) = conditions.Until stop
reach_of far.Told = conditions.Whole
reach_of far.Whole = conditions.Whole

-- what is asked of steps that go so far; of steps up to the first that tells something nothing is said
abbrev pub asked : Far → Type 0 → Type 0
asked far.Told P = Unit {0}
asked (far.Count n) P = P
asked (far.Until stop) P = P
asked far.Whole P = P
