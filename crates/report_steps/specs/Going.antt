-- Steps of the top frame, one after another, as a checker takes them off the front of a block.
use Rattle.std.specs.Prelude.{◌≡◌, ℕ, ◌<◌, ◌≤◌, Bool, true, false, List, [], ◌∷◌, ◌++◌, length, Option, Some, None, cond}
use Rattle.bench_report.specs.Lines.{Line, Waits, Restarts, Done}
use Rattle.bench_report.specs.Numbers.{IsNumber, StepFits}
use Rattle.chip_model.specs.Chip.{is_masked, stall_of, wait_on}
use Rattle.mcal_base.specs.declared.directive.Order.TheVariants.{Tick}
use Rattle.mcal_base.specs.declared.directive.Reason.{Reason}
use Rattle.mcal_base.specs.declared.directive.Reason.TheVariants.{Watchdog}
use Rattle.mcal_base.specs.declared.moves.Move.{Move}
use Rattle.mcal_base.specs.declared.moves.Move.TheVariants.{Read}
use Rattle.mcal_base.specs.declared.register.Reg.TheVariants.{SerialWait}
use Rattle.run_model.specs.Follows.{MayWait, ends_within}
use Rattle.run_model.specs.Legal.{IsServed}
use Rattle.run_model.specs.Moment.{Moment, Setting, Happens, Resets, after}
use Rattle.run_model.specs.declared.item.Stepped.{Stepped}
use Rattle.run_model.specs.declared.stop_condition.StopCondition.{StopCondition}
use Rattle.report_text.specs.reading.Blocks.{AuditState, printed}
use Rattle.report_text.specs.reading.Steps.{Comes, StepComes, lines_at}
use Rattle.report_text.specs.Unread.{Unread, own_text}
use Rattle.trace_reader.specs.declared.told.Step.{Step}
use Rattle.trace_reader.specs.declared.told.Told.{Told}
use Rattle.trace_reader.specs.declared.told.Told.TheVariants as tells
use Rattle.report_auditor.specs.Auditing.{moved_to}
use Rattle.report_steps.specs.StepRules.{NoEnd, made_of, stepped_to}
use Rattle.report_auditor.specs.Deeds.{restarted}
use Rattle.report_steps.specs.Taking.{PrintsOn}
use Rattle.report_steps.specs.declared.made.Made.{Made}
use Rattle.report_steps.specs.declared.series.Came.{Came}
use Rattle.report_steps.specs.declared.series.Came.TheVariants as came

-- ---- what came

abbrev pub step_in : Came → Option Made
step_in came.Wrong = None
step_in (came.Step made) = Some made
step_in came.Reset = None

abbrev pub is_reset : Came → Bool
is_reset came.Wrong = false
is_reset (came.Step made) = false
is_reset came.Reset = true

-- what holds where a line is right
abbrev pub OnRight : Came → Type 0 → Type 0
OnRight came.Wrong P = Unit {0}
OnRight (came.Step made) P = P
OnRight came.Reset P = P

-- ---- what a line tells

-- a step, a wait before one, or a reset of the watchdog
abbrev pub told_step : Told → Option Step
told_step (tells.Step s) = Some s
told_step _ = None

abbrev pub told_wait : Told → Option ℕ
told_wait (tells.Waited ticks) = Some ticks
told_wait _ = None

abbrev pub told_reset : Told → Option ℕ
told_reset (tells.Reset Watchdog dropped) = Some dropped
told_reset _ = None

-- ---- waits

-- the unit that a move waits for
abbrev pub unit_of : Move → Option ℕ
unit_of (Read (SerialWait u)) = Some u
unit_of _ = None

-- the move waits for a serial unit, which the newest frame may, with the mask open
abbrev pub WaitsOn : {State Call : Type 0} → Setting State Call → Moment State Call → (unit : ℕ) → Type 0
WaitsOn g m u = (is_masked m.chip ≡ false) × MayWait g m.opens u

abbrev pub WaitsOpen : {State Call : Type 0} → Setting State Call → Moment State Call → Move → Type 0
WaitsOpen g m (Read (SerialWait u)) = WaitsOn g m u
WaitsOpen g m _ = ⊥

-- it waits so many ticks, and the watchdog's time doesn't end in them
pub record WaitsRight {State Call : Type 0} (g : Setting State Call) (m : Moment State Call) (made : Move) (ticks : ℕ) : Type 0 where
  pub busy : 0 < ticks
  pub waits : WaitsOpen g m made
  pub stalls : stall_of m.chip made ≡ ticks
  pub goes : ends_within ticks (g.machine.expires m.world m.state) ≡ false

-- the newest frame may wait for a unit, and the watchdog's time ends in that wait
pub record EndsWaiting {State Call : Type 0} (g : Setting State Call) (m : Moment State Call) (unit : ℕ) : Type 0 where
  pub busy : 0 < wait_on m.chip unit
  pub ends : ends_within (wait_on m.chip unit) (g.machine.expires m.world m.state) ≡ true
  pub waits : WaitsOn g m unit

-- the time that is left is at most that of a wait
abbrev pub IsShort : (left : Option ℕ) → Type 0
IsShort None = Unit {0}
IsShort (Some left) = left ≤ 8

-- a step that waits, behind the line of its wait, with the line that tells it
abbrev pub waited_to : {State Call : Type 0} → Setting State Call → AuditState State Call → (ticks : ℕ) → AuditState State Call
waited_to g p ticks = moved_to (after g p.moment (Happens (Tick ticks))) p

pub record IsAwaited {State Call : Type 0} (g : Setting State Call) (p : AuditState State Call) (ticks : ℕ) (s : Stepped) : Type 0 where
  pub fits : StepFits s
  pub right : WaitsRight g p.moment s.made ticks
  pub comes : StepComes g p.moment s (after g p.moment (Happens (Tick ticks))) (Waits ticks ∷ [])

-- the lines of a step that comes in this place, behind the line of its wait
abbrev pub step_lines : {State Call : Type 0} → AuditState State Call → Stepped → List Line
step_lines p s = lines_at p.moment p.frames s

-- The step was made behind the line of its wait, or none that fits the block.
pub record IsMadeAwaited {State Call : Type 0} (g : Setting State Call) (p : AuditState State Call) (ticks : ℕ) (Stands : AuditState State Call → Type 0) (number : ℕ) (text rest : List ℕ) (made : Made) : Type 0 where
  pub step : Stepped
  pub awaited : IsAwaited g p ticks step
  pub is : made ≡ made_of step
  pub text_is : text ≡ printed number (step_lines (waited_to g p ticks) step) ++ rest
  pub stands : Stands (stepped_to g (waited_to g p ticks) step)
  pub only : (s : Stepped) (more : List Line) → IsAwaited g p ticks s → NoEnd more → text ≡ printed number (step_lines (waited_to g p ticks) s ++ more) → s ≡ step

abbrev pub MakesAwaited : {State Call : Type 0} → Setting State Call → AuditState State Call → (ticks : ℕ) → (Stands : AuditState State Call → Type 0) → (number : ℕ) → (text rest : List ℕ) → Option Made → Type 0
MakesAwaited g p ticks Stands number text rest (Some made) = IsMadeAwaited g p ticks Stands number text rest made
MakesAwaited g p ticks Stands number text rest None = (s : Stepped) (more : List Line) → IsAwaited g p ticks s → NoEnd more → text ≡ printed number (step_lines (waited_to g p ticks) s ++ more) → ⊥

-- ---- the watchdog's reset in a wait

-- It comes in a wait, and drops so many frames.
pub record RunsOut {State Call : Type 0} (g : Setting State Call) (p : AuditState State Call) (dropped : ℕ) (ticks : ℕ) : Type 0 where
  pub unit : ℕ
  pub waits : EndsWaiting g p.moment unit
  pub left : g.machine.expires p.moment.world p.moment.state ≡ Some ticks
  pub dropped_is : dropped ≡ length p.moment.opens
  pub fits : IsNumber ticks
  pub comes : Comes g p.moment (Happens (Tick ticks))
  pub resets : Comes g (waited_to g p ticks).moment (Resets Watchdog)

abbrev pub RunsOutRight : {State Call : Type 0} → Setting State Call → AuditState State Call → (dropped : ℕ) → (Stands : AuditState State Call → Type 0) → (right : Bool) → Type 0
RunsOutRight g p dropped Stands true = (ticks : ℕ) × RunsOut g p dropped ticks × Stands (restarted g (waited_to g p ticks) Watchdog)
RunsOutRight g p dropped Stands false = (ticks : ℕ) → RunsOut g p dropped ticks → ⊥

-- the line of a reset, and the place behind it
pub record PrintsReset {State Call : Type 0} (g : Setting State Call) (p : AuditState State Call) (reason : Reason) (lines : List Line) (there : AuditState State Call) : Type 0 where
  pub comes : Comes g p.moment (Resets reason)
  pub lines_are : lines ≡ Restarts reason (length p.moment.opens) ∷ []
  pub leads : there ≡ restarted g p reason

-- ---- what comes next

-- a step comes that fits the block, behind its wait where it waits, and more behind it
pub record FitsStep {State Call : Type 0} (g : Setting State Call) (p : AuditState State Call) (number : ℕ) (text : List ℕ) (s : Stepped) (at : Moment State Call) (waits more : List Line) : Type 0 where
  pub comes : StepComes g p.moment s at waits
  pub behind : NoEnd more
  pub text_is : text ≡ printed number ((waits ++ lines_at at p.frames s) ++ more)

-- the watchdog's reset comes in its place
pub record FitsReset {State Call : Type 0} (g : Setting State Call) (p : AuditState State Call) (number : ℕ) (text : List ℕ) (ticks : ℕ) : Type 0 where
  pub out : RunsOut g p (length p.moment.opens) ticks
  pub text_is : text ≡ printed number (Restarts Watchdog (length p.moment.opens) ∷ [])

-- A step came, and no other fits the block.
pub record StepCame {State Call : Type 0} (g : Setting State Call) (p : AuditState State Call) (Stands : AuditState State Call → Type 0) (before after : Unread) (made : Made) : Type 0 where
  pub step : Stepped
  pub at : Moment State Call
  pub waits : List Line
  pub comes : StepComes g p.moment step at waits
  pub is : made ≡ made_of step
  pub text_is : own_text before ≡ printed before.number (waits ++ lines_at at p.frames step) ++ own_text after
  pub stands : Stands (stepped_to g (moved_to at p) step)
  pub only : (s : Stepped) (at1 : Moment State Call) (waits1 more : List Line) → FitsStep g p before.number (own_text before) s at1 waits1 more → (s ≡ step) × (at1 ≡ at) × (waits1 ≡ waits)
  pub goes : (ticks : ℕ) → FitsReset g p before.number (own_text before) ticks → ⊥

-- The watchdog's reset came, and no step fits the block.
pub record ResetCame {State Call : Type 0} (g : Setting State Call) (p : AuditState State Call) (Stands : AuditState State Call → Type 0) (before after : Unread) : Type 0 where
  pub ticks : ℕ
  pub out : RunsOut g p (length p.moment.opens) ticks
  pub text_is : own_text before ≡ printed before.number (Restarts Watchdog (length p.moment.opens) ∷ []) ++ own_text after
  pub stands : Stands (restarted g (waited_to g p ticks) Watchdog)
  pub never : (s : Stepped) (at : Moment State Call) (waits more : List Line) → FitsStep g p before.number (own_text before) s at waits more → ⊥

-- Neither fits it.
pub record NoneComes {State Call : Type 0} (g : Setting State Call) (p : AuditState State Call) (before : Unread) : Type 0 where
  pub never : (s : Stepped) (at : Moment State Call) (waits more : List Line) → FitsStep g p before.number (own_text before) s at waits more → ⊥
  pub goes : (ticks : ℕ) → FitsReset g p before.number (own_text before) ticks → ⊥

abbrev pub ComesNext : {State Call : Type 0} → Setting State Call → AuditState State Call → (Stands : AuditState State Call → Type 0) → (before after : Unread) → Came → Type 0
ComesNext g p Stands before after came.Wrong = NoneComes g p before
ComesNext g p Stands before after (came.Step made) = StepCame g p Stands before after made
ComesNext g p Stands before after came.Reset = ResetCame g p Stands before after

-- ---- one after another

-- ok where nothing else was printed
abbrev pub ok_where : (silent : Bool) → List Line
ok_where silent = cond silent (Done ∷ []) []

-- such lines are the text
pub record GoesBack {State Call : Type 0} (g : Setting State Call) (reach : StopCondition) (number count : ℕ) (silent : Bool) (p : AuditState State Call) (text : List ℕ) (there : AuditState State Call) : Type 0 where
  pub lines : List Line
  pub prints : PrintsOn g reach count silent p lines there
  pub text_is : text ≡ printed number lines

-- So many steps were made from a place on, and lead to this one: what comes from here on came from there, with the lines in front.
pub record SoFar {State Call : Type 0} (g : Setting State Call) (reach : StopCondition) (first : AuditState State Call) (number : ℕ) (whole : List ℕ) (count : ℕ) (silent : Bool) (p : AuditState State Call) (text : List ℕ) : Type 0 where
  pub served : IsServed g p.moment
  pub front : List Line
  pub is : whole ≡ printed number front ++ text
  pub on : (lines : List Line) (there : AuditState State Call) → PrintsOn g reach count silent p lines there → PrintsOn g reach 0 true first (front ++ lines) there
  pub back : (all : List Line) (there : AuditState State Call) → PrintsOn g reach 0 true first all there → whole ≡ printed number all → GoesBack g reach number count silent p text there
