-- What is told of a step beside its line, and that it is what machine and module say.
use Rattle.std.specs.Prelude.{◌≡◌, ℕ, ◌<◌, Bool, true, false, not, List, length, Option, Some, None, is_some}
use Rattle.mcal_base.specs.det_errors.Reports as errors
use Rattle.mcal_base.specs.Bits.{has_bit}
use Rattle.mcal_base.specs.declared.answer.Answer.{Answer}
use Rattle.mcal_base.specs.declared.error_name.ErrorName.{ErrorName}
use Rattle.mcal_base.specs.declared.moves.Event.{Event}
use Rattle.mcal_base.specs.declared.moves.Move.{Move}
use Rattle.mcal_base.specs.declared.moves.Move.TheVariants.{Read, Write, Load, Store, Mask, Unmask, Note, Report}
use Rattle.run_model.specs.declared.item.Stepped.{Stepped}
use Rattle.run_model.specs.Frame.{Origin, Called, Entered, Open, outcome_at, state_after}
use Rattle.run_model.specs.Machine.{Machine, Outcome, Told, no_answer}
use Rattle.run_model.specs.Moment.{Setting, Moment}
use Rattle.run_model.specs.World.{World}
use Rattle.audit_frames.specs.Kept.{Kept}
use Rattle.audit_frames.specs.StandsFor.{must_of, kind_at}
use Rattle.audit_frames.specs.declared.terms.Around.{Around}
use Rattle.audit_frames.specs.declared.terms.Step.{Step}
use Rattle.audit_frames.specs.declared.terms.Task.{Task}
use Rattle.audit_frames.specs.declared.terms.Task.TheVariants.{Call, Line}

-- the step as its line tells it
abbrev pub step_of : Stepped → Step
step_of s = record { made = s.made; value = s.value; event = s.event; ends = is_some s.ended }

-- the machine allows the event and tells this; without an event it gives nothing
abbrev pub IsTold : {State : Type 0} → Option Event → Told → Option (Outcome State) → Type 0
IsTold None t out = out ≡ None
IsTold (Some e) t None = ⊥
IsTold (Some e) t (Some out) = out.told ≡ t

-- these are the lines that the frame's call polls, in their order
abbrev pub ArePolled : {State Call : Type 0} → Machine State Call → World → State → (polls : List ℕ) → Origin Call → Type 0
ArePolled mac w s polls (Called c) = polls ≡ mac.polls w s c
ArePolled mac w s polls (Entered l) = Unit {0}

-- the move is a write of this kind
abbrev pub is_of_kind : (Move → Bool) → Move → Bool
is_of_kind kind (Write r v) = kind (Write r v)
is_of_kind kind (Read r) = false
is_of_kind kind (Load k) = false
is_of_kind kind (Store k v) = false
is_of_kind kind Mask = false
is_of_kind kind Unmask = false
is_of_kind kind (Note n) = false
is_of_kind kind (Report e) = false

-- how the module reports the error that the call finds
abbrev pub IsReported : {State Call : Type 0} → Machine State Call → Origin Call → Option ErrorName → (reported : Option Bool) → Type 0
IsReported mac (Called c) (Some e) reported = reported ≡ errors.reported (mac.reporting c) e
IsReported mac (Called c) None reported = Unit {0}
IsReported mac (Entered l) error reported = Unit {0}

-- What is told of a step of this frame, of which these lines are asked for.
pub record IsAround {State Call : Type 0} (g : Setting State Call) (m : Moment State Call) (o : Open Call) (s : Stepped) (asked : ℕ) (t : Told) (polls : List ℕ) (x : Around) : Type 0 where
  pub told : IsTold s.event t (outcome_at g.machine m.world m.state o s.made s.received s.event)
  pub polled : ArePolled g.machine m.world m.state polls o.origin
  pub now : x.time ≡ m.world.now
  pub unready : (l : ℕ) → has_bit asked l ≡ true → has_bit x.unready l ≡ not (g.machine.ready m.world m.state l)
  pub calm : (l : ℕ) → has_bit asked l ≡ true → has_bit x.calm l ≡ not (g.machine.line_waits m.world (state_after g.machine m.world m.state o s.made s.received s.event) l)
  pub settles : (i : ℕ) → i < length (must_of g o.origin) → has_bit x.settles i ≡ is_of_kind (kind_at (must_of g o.origin) i) s.made
  pub reported : IsReported g.machine o.origin t.error x.reported

-- the answer with which a frame ends: that of its call's act, none of a handler
abbrev pub answer_of : Task → Option Answer → Option Answer
answer_of (Call c) a = a
answer_of (Line l) a = Some no_answer

abbrev pub ended_of : Kept → (ends : Bool) → Option Answer
ended_of k false = None
ended_of k true = answer_of k.terms.task k.answer
