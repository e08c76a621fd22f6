-- What the lines of a directive say, kind by kind, and where they lead.
use Rattle.std.specs.Prelude.{◌≡◌, ℕ, zero, suc, ◌-◌, nat_lt, Bool, true, false, List, [], ◌∷◌, map, length, Option, Some, None, MatchBool}
use Rattle.bench_report.specs.Lines.{Line, Holds, Restarts, Shows, Done}
use Rattle.bench_report.specs.Report.{with_done}
use Rattle.bench_report.specs.Rows.{Row}
use Rattle.bench_report.specs.Showing.{Showing}
use Rattle.bench_report.specs.declared.frames.Purpose.TheVariants as purposes
use Rattle.irq_control.specs.declared.held.Held.{Held}
use Rattle.irq_control.specs.declared.held.Held.TheVariants.{Empty, Frames}
use Rattle.mcal_base.specs.declared.directive.Order.{Order}
use Rattle.mcal_base.specs.declared.directive.Order.TheVariants as orders
use Rattle.mcal_base.specs.declared.directive.Order.TheVariants.{Tick}
use Rattle.mcal_base.specs.declared.directive.Reason.TheVariants.{Watchdog, Software}
use Rattle.mcal_base.specs.declared.directive.Request.{Request}
use Rattle.mcal_base.specs.declared.directive.Shown.{Shown}
use Rattle.run_model.specs.Follows.{call_held, line_held}
use Rattle.run_model.specs.Frame.{Called, Entered, Origin, Open}
use Rattle.run_model.specs.Legal.{hardware_held}
use Rattle.run_model.specs.Moment.{Setting, Happens, Resets, after}
use Rattle.run_model.specs.declared.stop_condition.StopCondition.{StopCondition}
use Rattle.run_model.specs.declared.stop_condition.StopCondition.TheVariants.{Count, Until, Whole}
use Rattle.bench_report.specs.declared.frames.Purpose.{Purpose}
use Rattle.report_text.specs.reading.Blocks.{AuditState, counted}
use Rattle.report_text.specs.reading.Steps.{Comes}
use Rattle.report_text.specs.Unread.{Unread}
use Rattle.report_auditor.specs.Auditing.{Auditing, moved_to}
use Rattle.report_steps.specs.Going.{PrintsReset, waited_to}
use Rattle.report_steps.specs.Lines.{TakesLine}
use Rattle.report_steps.specs.StepParts.{counting}
use Rattle.report_auditor.specs.Deeds.{beginning, restarted}
use Rattle.report_steps.specs.Taking.{PrintsOn}

-- ---- directives that are held

-- the line that says so comes and was taken; or it doesn't come
pub record Stays {Parts Call : Type 0} (right : Bool) (cause : Held) (before after : Auditing Parts Call) (old new : Unread) : Type 0 where
  pub takes : TakesLine right (Holds cause) old new
  pub counted : after ≡ counting (Holds cause ∷ []) before

-- the lines of a held directive, which leads nowhere
pub record PrintsHeld {State Call : Type 0} (p : AuditState State Call) (cause : Held) (lines : List Line) (there : AuditState State Call) : Type 0 where
  pub lines_are : lines ≡ Holds cause ∷ []
  pub leads : there ≡ record { moment = p.moment; frames = p.frames; tally = counted p.tally (Holds cause ∷ []) }

-- ---- deeds that print nothing

pub record PrintsDeed {State Call : Type 0} (Comes : Type 0) (to : AuditState State Call) (lines : List Line) (there : AuditState State Call) : Type 0 where
  pub comes : Comes
  pub lines_are : lines ≡ Done ∷ []
  pub leads : there ≡ to

-- ---- beginnings

-- a frame that began makes its steps, or prints that it began
abbrev pub PrintsBegun : {State Call : Type 0} → Setting State Call → (whole : Bool) → AuditState State Call → List Line → AuditState State Call → Type 0
PrintsBegun g true p lines there = PrintsOn g Whole 0 true p lines there
PrintsBegun g false p lines there = (lines ≡ Done ∷ []) × (there ≡ p)

-- the place of a frame that begins
abbrev pub begun_to : {State Call : Type 0} → Setting State Call → AuditState State Call → Origin Call → (level : ℕ) → Purpose → AuditState State Call
begun_to g p origin level purpose = record { moment = after g p.moment (beginning origin level); frames = purpose ∷ p.frames; tally = p.tally }

abbrev pub PrintsBeginning : {State Call : Type 0} → Setting State Call → (whole : Bool) → AuditState State Call → Origin Call → (level : ℕ) → Purpose → Option Held → List Line → AuditState State Call → Type 0
PrintsBeginning g whole p origin level purpose (Some cause) lines there = PrintsHeld p cause lines there
PrintsBeginning g whole p origin level purpose None lines there = Comes g p.moment (beginning origin level) × PrintsBegun g whole (begun_to g p origin level purpose) lines there

abbrev pub PrintsCall : {State Call : Type 0} → Setting State Call → (Request → Call) → AuditState State Call → (line level : ℕ) → Request → (whole : Bool) → List Line → AuditState State Call → Type 0
PrintsCall g call_of p line level r whole lines there =
    PrintsBeginning g whole p (Called (call_of r)) level (purposes.Call r.service) (call_held g p.moment (call_of r) level) lines there

abbrev pub PrintsEnter : {State Call : Type 0} → Setting State Call → AuditState State Call → (line irq : ℕ) → (whole : Bool) → List Line → AuditState State Call → Type 0
PrintsEnter g p line irq whole lines there = PrintsBeginning g whole p (Entered irq) 0 (purposes.Handler irq) (line_held g p.moment irq) lines there

-- ---- going on

abbrev pub PrintsReaching : {State Call : Type 0} → Setting State Call → StopCondition → AuditState State Call → List Line → AuditState State Call → Type 0
PrintsReaching g (Count zero) p lines there = (lines ≡ Done ∷ []) × (there ≡ p)
PrintsReaching g (Count (suc n)) p lines there = PrintsOn g (Count (suc n)) 0 true p lines there
PrintsReaching g (Until stop) p lines there = PrintsOn g (Until stop) 0 true p lines there
PrintsReaching g Whole p lines there = PrintsOn g Whole 0 true p lines there

abbrev pub PrintsGoingOver : {State Call : Type 0} → Setting State Call → StopCondition → AuditState State Call → List (Open Call) → List Line → AuditState State Call → Type 0
PrintsGoingOver g reach p [] lines there = PrintsHeld p Empty lines there
PrintsGoingOver g reach p (o ∷ os) lines there = PrintsReaching g reach p lines there

abbrev pub PrintsGoing : {State Call : Type 0} → Setting State Call → StopCondition → AuditState State Call → List Line → AuditState State Call → Type 0
PrintsGoing g reach p lines there = PrintsGoingOver g reach p p.moment.opens lines there

-- ---- the hardware

abbrev pub PrintsHappening : {State Call : Type 0} → Setting State Call → AuditState State Call → Order → Option Held → List Line → AuditState State Call → Type 0
PrintsHappening g p order (Some cause) lines there = PrintsHeld p cause lines there
PrintsHappening g p order None lines there = PrintsDeed (Comes g p.moment (Happens order)) (moved_to (after g p.moment (Happens order)) p) lines there

abbrev pub PrintsHardware : {State Call : Type 0} → Setting State Call → AuditState State Call → Order → List Line → AuditState State Call → Type 0
PrintsHardware g p order lines there = PrintsHappening g p order (hardware_held g p.moment order) lines there

-- the ticks that are left behind the watchdog's reset, if any
abbrev pub TicksOn : {State Call : Type 0} → Setting State Call → AuditState State Call → (ticks : ℕ) → AuditState State Call → Type 0
TicksOn g p zero there = there ≡ p
TicksOn g p (suc n) there = Comes g p.moment (Happens (Tick (suc n))) × (there ≡ waited_to g p (suc n))

-- ticks in which the watchdog's time ends
pub record PrintsThrough {State Call : Type 0} (g : Setting State Call) (p : AuditState State Call) (left rest : ℕ) (lines : List Line) (there : AuditState State Call) : Type 0 where
  pub comes : Comes g p.moment (Happens (Tick left))
  pub resets : Comes g (waited_to g p left).moment (Resets Watchdog)
  pub lines_are : lines ≡ Restarts Watchdog (length p.moment.opens) ∷ []
  pub leads : TicksOn g (restarted g (waited_to g p left) Watchdog) rest there

-- ticks before it ends
abbrev pub PrintsTicksOn : {State Call : Type 0} → Setting State Call → AuditState State Call → (ticks : ℕ) → List Line → AuditState State Call → Type 0
PrintsTicksOn g p n lines there = PrintsDeed (Comes g p.moment (Happens (Tick n))) (waited_to g p n) lines there

abbrev pub PrintsTicksTo : {State Call : Type 0} → Setting State Call → AuditState State Call → (ticks : ℕ) → (left : Option ℕ) → List Line → AuditState State Call → Type 0
PrintsTicksTo g p n None lines there = PrintsTicksOn g p n lines there
PrintsTicksTo g p n (Some left) lines there = MatchBool (nat_lt n left) (PrintsTicksOn g p n lines there) (PrintsThrough g p left (n - left) lines there)

abbrev pub PrintsTicks : {State Call : Type 0} → Setting State Call → AuditState State Call → (line ticks : ℕ) → List Line → AuditState State Call → Type 0
PrintsTicks g p line ticks lines there = PrintsTicksTo g p ticks (g.machine.expires p.moment.world p.moment.state) lines there

-- ---- shows

-- its rows, and ok without one
abbrev pub PrintsRows : {State Call : Type 0} → AuditState State Call → List Row → List Line → AuditState State Call → Type 0
PrintsRows p rows lines there = (lines ≡ with_done (map (λ row. Shows row) rows)) × (there ≡ p)

abbrev pub PrintsShowOver : {State Call : Type 0} → Showing State → AuditState State Call → Shown → List (Open Call) → List Line → AuditState State Call → Type 0
PrintsShowOver showing p what [] lines there = PrintsRows p (showing p.moment.world p.moment.state what) lines there
PrintsShowOver showing p what (o ∷ os) lines there = PrintsHeld p Frames lines there

abbrev pub PrintsShow : {State Call : Type 0} → Setting State Call → Showing State → AuditState State Call → (line : ℕ) → Shown → List Line → AuditState State Call → Type 0
PrintsShow g showing p line what lines there = PrintsShowOver showing p what p.moment.opens lines there

-- ---- each directive

-- what the lines of a directive at a script line say
abbrev pub PrintsOrder : {State Call : Type 0} → Setting State Call → (Request → Call) → Showing State → AuditState State Call → (line : ℕ) → Order → List Line → AuditState State Call → Type 0
PrintsOrder g call_of showing p line (orders.Call level r) lines there = PrintsCall g call_of p line level r false lines there
PrintsOrder g call_of showing p line (orders.Do level r) lines there = PrintsCall g call_of p line level r true lines there
PrintsOrder g call_of showing p line (orders.Enter irq) lines there = PrintsEnter g p line irq false lines there
PrintsOrder g call_of showing p line (orders.Serve irq) lines there = PrintsEnter g p line irq true lines there
PrintsOrder g call_of showing p line (orders.Run n) lines there = PrintsGoing g (Count n) p lines there
PrintsOrder g call_of showing p line (orders.Upto stop) lines there = PrintsGoing g (Until stop) p lines there
PrintsOrder g call_of showing p line orders.Finish lines there = PrintsGoing g Whole p lines there
PrintsOrder g call_of showing p line (orders.Tick n) lines there = PrintsTicks g p line n lines there
-- a script asks for no software reset
PrintsOrder g call_of showing p line (orders.Reset Software) lines there = ⊥
PrintsOrder g call_of showing p line (orders.Reset reason) lines there = PrintsReset g p reason lines there
PrintsOrder g call_of showing p line (orders.Show what) lines there = PrintsShow g showing p line what lines there
PrintsOrder g call_of showing p line order lines there = PrintsHardware g p order lines there
