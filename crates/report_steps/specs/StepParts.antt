-- A step that a line tells, part by part: its event, what may come, what the machines say of it, and the lines behind it.
use Rattle.std.specs.Prelude.{◌≡◌, ℕ, ◌+◌, ◌==◌, Bool, true, false, ◌&&◌, ◌||◌, cond, drop, List, [], ◌∷◌, ◌++◌, length, Option, Some, None, IsSome, option_map}
use Rattle.bench_report.specs.Lines.{Line}
use Rattle.bench_report.specs.Report.{end_lines}
use Rattle.bench_report.specs.declared.tally.Tally.{Tally}
use Rattle.chip_model.specs.Chip.{value_of, stall_of, chip_after}
use Rattle.mcal_base.specs.Reach.{CanApply}
use Rattle.mcal_base.specs.declared.answer.Answer.{Answer}
use Rattle.mcal_base.specs.declared.moves.Event.{Event}
use Rattle.mcal_base.specs.declared.moves.Move.{Move}
use Rattle.run_model.specs.Causes.{origins_of}
use Rattle.run_model.specs.Frame.{Open, is_shared}
use Rattle.run_model.specs.Legal.{AreGoing, ReceivedRight, ShowsRight}
use Rattle.run_model.specs.Machine.{Told}
use Rattle.run_model.specs.Moment.{Moment, Setting}
use Rattle.run_model.specs.declared.item.Stepped.{Stepped}
use Rattle.audit_base.specs.Outside.{IsWorld}
use Rattle.audit_frames.specs.FrameRules.{answer_after}
use Rattle.audit_frames.specs.Kept.{Kept}
use Rattle.audit_frames.specs.Parts.{IsAllowed}
use Rattle.audit_frames.specs.StackRules.{StandAll, left_after, rest_of, stepped, top_right}
use Rattle.audit_frames.specs.Told.{answer_of}
use Rattle.audit_frames.specs.declared.terms.Step.{Step}
use Rattle.audit_frames.specs.declared.terms.Task.{Task}
use Rattle.audit_frames.specs.declared.terms.Task.TheVariants as tasks
use Rattle.audit_subject.specs.Hearings.{Says}
use Rattle.audit_subject.specs.declared.hearing.Heard.{Heard}
use Rattle.report_text.specs.reading.Blocks.{AuditState, counted, printed}
use Rattle.report_text.specs.reading.Reading.{event_of}
use Rattle.report_text.specs.Unread.{Unread, own_text}
use Rattle.trace_reader.specs.declared.told.Mark.{Mark}
use Rattle.trace_reader.specs.declared.told.Step as read
use Rattle.report_auditor.specs.Auditing.{Auditing, below, purposes_by}
use Rattle.report_auditor.specs.Seeing.{Agreeing, IsSeen}
use Rattle.report_steps.specs.Lines.{Past}

-- ---- what the line tells

-- the event at a move: none within where none is marked, and none at all where the marked one can't stand there
abbrev pub event_at_mark : Move → Option Mark → Option (Option Event)
event_at_mark made None = Some None
event_at_mark made (Some mark) = option_map (λ e. Some e) (event_of made (Some mark))

abbrev pub event_at : read.Step → Option (Option Event)
event_at s = event_at_mark s.made s.mark

-- the step of a line with this event, with which its frame ends so, where it does
abbrev pub step_told : read.Step → Option Event → (ended : Option Answer) → Stepped
step_told s event ended = record { made = s.made; value = s.value; received = s.received; event = event; ended = ended }

-- ---- what may come

-- a frame is under way
abbrev pub HasTop : List Kept → Type 0
HasTop [] = ⊥
HasTop (k ∷ ks) = Unit {0}

-- the watchdog's time hasn't ended
abbrev pub IsEarly : {State Call : Type 0} → Setting State Call → Moment State Call → Type 0
IsEarly g m = g.machine.expires m.world m.state ≡ Some 0 → ⊥

-- What chip and module say of the move before its event.
pub record ComesNow {State Call : Type 0} (g : Setting State Call) (m : Moment State Call) (o : Open Call) (s : read.Step) : Type 0 where
  pub depth : s.depth ≡ length m.opens
  pub waits : stall_of m.chip s.made ≡ 0
  pub received : ReceivedRight m.chip m.world s.made s.received
  pub shows : ShowsRight g m.chip m.state o.origin o.owed s.made
  pub there : CanApply s.made
  pub own : is_shared s.made || g.may o.origin s.made ≡ true

abbrev pub MayCome : {State Call : Type 0} → Setting State Call → Moment State Call → List (Open Call) → read.Step → Type 0
MayCome g m [] s = ⊥
MayCome g m (o ∷ os) s = ComesNow g m o s

-- ---- its event

-- the lines that the newest frame asks for
abbrev pub asked_by : List Kept → ℕ
asked_by [] = 0
asked_by (k ∷ ks) = k.terms.asked

-- The machines were told the event of a step in this place, and all else is as it was.
pub record IsHeard {Parts Table State Call : Type 0} (agrees : Agreeing Table State) (setting : Table → Setting State Call) (table : Parts → Table) (stands : Parts → State → Type 0) (t : Table) (a : Auditing Parts Call) (p : AuditState State Call) (o : Open Call) (s : Stepped) (heard : Heard) : Type 0 where
  pub kept_of : table a.parts ≡ t
  pub chip : a.chip ≡ p.moment.chip
  pub world : IsWorld a.outside p.moment.world
  pub devices : p.moment.world.devices ≡ a.chip.devices
  pub hung : a.chip.devices ≡ a.devices
  pub frames : StandAll (setting t) a.frames p.moment.opens
  pub origins : a.origins ≡ origins_of p.moment.opens
  pub going : AreGoing (setting t) (below p.moment.opens)
  pub purposes : p.frames ≡ purposes_by a.frames
  pub tally : a.tally ≡ p.tally
  pub seen : IsSeen agrees setting t a.seen p.moment.chip p.moment.world p.moment.state
  pub allowed : IsAllowed (setting t) p.moment o s s.event
  pub says : Says (setting t) (stands a.parts) p.moment o s (asked_by a.frames) heard

-- so they were told it, or they don't allow it
abbrev pub HearsStep : {Parts Table State Call : Type 0} → Agreeing Table State → (Table → Setting State Call) → (Parts → Table) → (Parts → State → Type 0) → Table → Auditing Parts Call → AuditState State Call → Open Call → Stepped → Option Heard → Type 0
HearsStep agrees setting table stands t a p o s (Some heard) = IsHeard agrees setting table stands t a p o s heard
HearsStep agrees setting table stands t a p o s None = IsAllowed (setting t) p.moment o s s.event → ⊥

-- ---- the lines behind its own

-- lines are counted
abbrev pub counting : {Parts Call : Type 0} → List Line → Auditing Parts Call → Auditing Parts Call
counting lines a = record { chip = a.chip; parts = a.parts; outside = a.outside; devices = a.devices; frames = a.frames; origins = a.origins; tally = counted a.tally lines; seen = a.seen }

-- the answer with which the newest frame ends behind a step with this event, and the line of that
abbrev pub end_answer : List Kept → Option Event → Told → Option Answer
end_answer [] e t = None
end_answer (k ∷ ks) e t = answer_of k.terms.task (answer_after k.answer e t.answer)

abbrev pub end_by : List Kept → Option Event → Told → List Line
end_by ks e t = end_lines (purposes_by ks) (end_answer ks e t)

-- with one more call that returned, or one more handler that left
abbrev pub with_end : Task → Tally → Tally
with_end (tasks.Call k) t = record { calls = t.calls + 1; handlers = t.handlers; held = t.held; errors = t.errors; notes = t.notes }
with_end (tasks.Line l) t = record { calls = t.calls; handlers = t.handlers + 1; held = t.held; errors = t.errors; notes = t.notes }

-- the line comes and was taken; or it doesn't, and nothing was
abbrev pub TakesEnd : List Kept → Option Event → Told → (right : Bool) → (before after : Unread) → Type 0
TakesEnd ks e t true before after = IsSome (end_answer ks e t) × Past (end_by ks e t) before after
TakesEnd ks e t false before after = (after ≡ before) × (IsSome (end_answer ks e t) → (rest : List ℕ) → own_text before ≡ printed before.number (end_by ks e t) ++ rest → ⊥)

-- ---- the move

-- The newest frame made a step, and the chip its move; a frame that ended is gone.
pub record HasMoved {Parts Call : Type 0} (before after : Auditing Parts Call) (s : read.Step) (x : Step) (h : Heard) : Type 0 where
  pub chip : after.chip ≡ chip_after before.chip s.made s.received
  pub frames : after.frames ≡ left_after x.ends (stepped before.frames x h.told h.polls h.around)
  pub origins : after.origins ≡ drop (cond x.ends 1 0) before.origins
  pub parts : after.parts ≡ before.parts
  pub outside : after.outside ≡ before.outside
  pub devices : after.devices ≡ before.devices
  pub tally : after.tally ≡ before.tally

-- a frame that ended is gone
abbrev pub without_top : {Parts Call : Type 0} → Auditing Parts Call → Auditing Parts Call
without_top a = record a { frames = rest_of a.frames; origins = drop 1 a.origins }

-- it may make it, and the move gave what was read
abbrev pub moves_right : {Parts Call : Type 0} → Auditing Parts Call → read.Step → Step → Heard → Bool
moves_right a s x h = top_right a.frames x h.told h.polls h.around && value_of a.chip s.made == s.value

-- it did so where it is right
pub record Moves {Parts Call : Type 0} (before after : Auditing Parts Call) (s : read.Step) (x : Step) (h : Heard) (right : Bool) : Type 0 where
  pub is : right ≡ moves_right before s x h
  pub moved : right ≡ true → HasMoved before after s x h
