-- The lines of steps of the top frame, one after another: what a reader of reports looks for, in the order in which it comes.
use Rattle.std.specs.Prelude.{◌≡◌, ℕ, ◌+◌, ◌<◌, Bool, true, false, ◌&&◌, ◌||◌, List, [], ◌∷◌, ◌++◌, length, is_some, Some, if◌then◌else◌}
use Rattle.std.specs.List.{list_all}
use Rattle.bench_report.specs.Lines.{Line, Makes, Waits, Restarts, Done}
use Rattle.bench_report.specs.Numbers.{IsNumber, Each, StepFits, EntryFits}
use Rattle.bench_report.specs.Report.{frames_after_end, move_lines, end_lines, chapter_lines, chapter_frames, is_traced}
use Rattle.bench_report.specs.Rows.{Row}
use Rattle.bench_report.specs.declared.frames.Purpose.{Purpose}
use Rattle.chip_model.specs.Chip.{wait_on, is_masked}
use Rattle.mcal_base.specs.declared.directive.Order.{Order}
use Rattle.mcal_base.specs.declared.directive.Order.TheVariants as orders
use Rattle.mcal_base.specs.declared.directive.Reason.TheVariants.{Software, Watchdog}
use Rattle.mcal_base.specs.declared.directive.Request.{Request}
use Rattle.run_model.specs.Entry.{Entry}
use Rattle.run_model.specs.Follows.{GoesOn, MayWait, awaits, deeds_in, ends_within, is_reached}
use Rattle.run_model.specs.Frame.{resets_chip}
use Rattle.run_model.specs.Legal.{InTime, IsLegalDeed, IsServed, IsLegal}
use Rattle.run_model.specs.Moment.{Setting, Moment, Transition, Steps, Happens, Resets, after, after_all}
use Rattle.run_model.specs.declared.item.Stepped.{Stepped}
use Rattle.run_model.specs.declared.stop_condition.StopCondition.{StopCondition}

-- A deed comes: it is in time and legal, and the moment after it is served.
pub record Comes {State Call : Type 0} (g : Setting State Call) (m : Moment State Call) (d : Transition Call) : Type 0 where
  pub time : InTime (g.machine.expires m.world m.state) d
  pub legal : IsLegalDeed g m d
  pub served : IsServed g (after g m d)

-- A tick of the hardware that no directive asks for: the top frame waits so long, with the mask open, for the word in transfer on a unit.
pub record WaitComes {State Call : Type 0} (g : Setting State Call) (m : Moment State Call) (unit ticks : ℕ) : Type 0 where
  pub busy : 0 < wait_on m.chip unit
  pub unmasked : is_masked m.chip ≡ false
  pub may : MayWait g m.opens unit
  pub fits : IsNumber ticks
  pub comes : Comes g m (Happens (orders.Tick ticks))

-- A step of the top frame comes, at once or behind its wait: with the moment in which it is made, and the lines before its own.
pub data StepComes {State Call : Type 0} (g : Setting State Call) (m : Moment State Call) (s : Stepped) : (at : Moment State Call) → (waits : List Line) → Type 0 where
  AtOnce : StepFits s → Comes g m (Steps s) → StepComes g m s m []
  Awaited : (unit ticks : ℕ) → WaitComes g m unit ticks → ticks ≡ wait_on m.chip unit → ends_within (wait_on m.chip unit) (g.machine.expires m.world m.state) ≡ false → awaits unit s.made ≡ true
      → StepFits s → Comes g (after g m (Happens (orders.Tick ticks))) (Steps s)
      → StepComes g m s (after g m (Happens (orders.Tick ticks))) (Waits ticks ∷ [])

-- the lines of a step in a moment: its own, that of its notice or its report, and that of the end of its frame
abbrev pub lines_at : {State Call : Type 0} → Moment State Call → List Purpose → Stepped → List Line
lines_at m frames s = Makes (length m.opens) s.made s.value s.received s.event ∷ (move_lines s.made ++ end_lines frames s.ended)

-- nothing is printed beside steps and waits
abbrev pub is_silent : List Line → Bool
is_silent lines = list_all is_traced lines

-- lines behind such ones: with ok where a directive printed nothing else
abbrev pub done_behind : (silent : Bool) → List Line → List Line
done_behind silent lines = if silent && is_silent lines then lines ++ Done ∷ [] else lines

-- The lines are those of steps of the top frame, as far as a directive reaches, from a moment on and what its frames were begun for, and lead to such. So many steps were made before, and what was printed before was silent or not.
pub data PrintsSteps {State Call : Type 0} (g : Setting State Call) (reach : StopCondition) : (made : ℕ) → (silent : Bool) → Moment State Call → List Purpose → (lines : List Line) → (last : Moment State Call) → (left : List Purpose) → Type 0 where
  -- the last step: the frame ends with it, or the directive stops there
  LastStep : {made : ℕ} {silent : Bool} {m : Moment State Call} {frames : List Purpose} (s : Stepped) (at : Moment State Call) (waits : List Line) → StepComes g m s at waits
      → resets_chip s.made ≡ false → is_some s.ended || is_reached reach (made + 1) s ≡ true
      → PrintsSteps g reach made silent m frames (done_behind silent (waits ++ lines_at at frames s)) (after g at (Steps s)) (frames_after_end frames s.ended)
  -- a step that resets the chip
  ResetStep : {made : ℕ} {silent : Bool} {m : Moment State Call} {frames : List Purpose} (s : Stepped) (at : Moment State Call) (waits : List Line) → StepComes g m s at waits
      → resets_chip s.made ≡ true → Comes g (after g at (Steps s)) (Resets Software)
      → PrintsSteps g reach made silent m frames ((waits ++ lines_at at frames s) ++ Restarts Software (length (after g at (Steps s)).opens) ∷ []) (after g (after g at (Steps s)) (Resets Software)) []
  -- a step, and then more
  MoreSteps : {made : ℕ} {silent : Bool} {m : Moment State Call} {frames : List Purpose} (s : Stepped) (at : Moment State Call) (waits rest : List Line) {last : Moment State Call} {left : List Purpose} → StepComes g m s at waits
      → resets_chip s.made ≡ false → is_some s.ended || is_reached reach (made + 1) s ≡ false
      → PrintsSteps g reach (made + 1) (silent && is_silent (waits ++ lines_at at frames s)) (after g at (Steps s)) frames rest last left
      → PrintsSteps g reach made silent m frames ((waits ++ lines_at at frames s) ++ rest) last left
  -- the watchdog's time ends in a wait, and its reset comes in place of the step
  RunsOut : {made : ℕ} {silent : Bool} {m : Moment State Call} {frames : List Purpose} (unit ticks : ℕ) → WaitComes g m unit ticks
      → ends_within (wait_on m.chip unit) (g.machine.expires m.world m.state) ≡ true → g.machine.expires m.world m.state ≡ Some ticks
      → Comes g (after g m (Happens (orders.Tick ticks))) (Resets Watchdog)
      → PrintsSteps g reach made silent m frames (Restarts Watchdog (length m.opens) ∷ []) (after g (after g m (Happens (orders.Tick ticks))) (Resets Watchdog)) []

-- Items of steps at a script line, as a journal holds them, legal, that print these lines and lead there.
pub record HasSteps {State Call : Type 0} (g : Setting State Call) (call_of : Request → Call) (order : Order) (shows : List (List Row)) (number : ℕ) (reach : StopCondition) (made : ℕ) (silent : Bool) (m : Moment State Call) (frames : List Purpose) (lines : List Line) (last : Moment State Call) (left : List Purpose) : Type 0 where
  pub items : List Entry
  pub fits : Each EntryFits items
  pub goes : GoesOn g number reach made m items
  pub legal : IsLegal g m (deeds_in call_of order items)
  pub prints : done_behind silent (chapter_lines true order frames shows items) ≡ lines
  pub leads : after_all g m (deeds_in call_of order items) ≡ last
  pub leaves : chapter_frames order frames items ≡ left

-- Lines are those of steps exactly where there are such items, in a moment that is served.
abbrev pub PrintsThese : {State Call : Type 0} → Setting State Call → (Request → Call) → Type 0
PrintsThese {State} {Call} g call_of =
    (order : Order) (shows : List (List Row)) (number : ℕ) (reach : StopCondition) (made : ℕ) (silent : Bool) (m : Moment State Call) (frames : List Purpose) (lines : List Line) (last : Moment State Call) (left : List Purpose)
    → IsNumber number → IsNumber (length m.opens) → IsServed g m
    → (PrintsSteps g reach made silent m frames lines last left → HasSteps g call_of order shows number reach made silent m frames lines last left) × (HasSteps g call_of order shows number reach made silent m frames lines last left → PrintsSteps g reach made silent m frames lines last left)
