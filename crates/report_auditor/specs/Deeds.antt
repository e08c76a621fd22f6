-- What is answered of a deed: a reset, a frame that begins, what the hardware does.
use Rattle.std.specs.Prelude.{ℕ, ◌-◌, ◌==◌, Bool, true, false, if◌then◌else◌, IsSome, Option, Some, None, []}
use Rattle.irq_control.specs.declared.held.Held.{Held}
use Rattle.irq_control.specs.declared.held.Held.TheVariants.{Unknown}
use Rattle.mcal_base.specs.declared.directive.Order.{Order}
use Rattle.mcal_base.specs.declared.directive.Order.TheVariants.{Tick, Detach, Fill}
use Rattle.mcal_base.specs.declared.directive.Reason.{Reason}
use Rattle.run_model.specs.Frame.{Open, Origin, Called, Entered, opened}
use Rattle.run_model.specs.Machine as machines
use Rattle.run_model.specs.Moment.{Moment, Setting, Transition, Begins, Enters, Resets, after, call_tag, line_tag}
use Rattle.report_text.specs.reading.Blocks.{AuditState}

-- A deed is right: it comes, and then what is kept stands for the moment after it. Or it isn't, and doesn't come.
abbrev pub Judges : (right : Bool) → (Comes After : Type 0) → Type 0
Judges true Comes After = Comes × After
Judges false Comes After = Comes → ⊥

-- ---- the hardware

-- the machine allows that the hardware moves so, and what is kept stands for the moment after it
abbrev pub Moves : {State Call : Type 0} → Setting State Call → Moment State Call → Order → (After : Type 0) → Type 0
Moves g m order After = IsSome (g.machine.happens m.world m.state (machines.Moves order)) × After

-- the channel whose source array an order fills
abbrev pub filled : Order → Option ℕ
filled (Fill channel words) = Some channel
filled order = None

-- why an order that fills no array is held, with so many devices
abbrev pub other_cause : (devices : ℕ) → Order → Option Held
other_cause devices Detach = if devices == 0 then Some Unknown else None
other_cause devices order = None

-- the ticks of the oscillator that an order brings
abbrev pub ticks_by : Order → ℕ
ticks_by (Tick n) = n
ticks_by order = 0

-- how many devices hang on the serial units after it
abbrev pub devices_after : (devices : ℕ) → Order → ℕ
devices_after devices Detach = devices - 1
devices_after devices order = devices

-- the place after a reset
abbrev pub restarted : {State Call : Type 0} → Setting State Call → AuditState State Call → Reason → AuditState State Call
restarted g p reason = record { moment = after g p.moment (Resets reason); frames = []; tally = p.tally }

-- ---- frames that begin

-- a call at a level, or the handler of a line
abbrev pub beginning : {Call : Type 0} → Origin Call → (level : ℕ) → Transition Call
beginning (Called c) level = Begins c level
beginning (Entered l) level = Enters l

abbrev pub opening : {State Call : Type 0} → Setting State Call → Origin Call → (level : ℕ) → Open Call
opening g (Called c) level = opened (Called c) (call_tag g c level)
opening g (Entered l) level = opened (Entered l) (line_tag g l)
