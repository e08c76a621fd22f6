-- What a module says of a step of a frame.
use Rattle.std.specs.Prelude.{◌≡◌, ℕ, Bool, true, false, Option, Some, None, IsSome, option_map}
use Rattle.run_model.specs.Frame.{Open, begun_by, outcome_at, state_after}
use Rattle.run_model.specs.Machine.{Outcome}
use Rattle.run_model.specs.Moment.{Moment, Setting}
use Rattle.run_model.specs.declared.item.Stepped.{Stepped}
use Rattle.audit_base.specs.Deeds.{begun_of}
use Rattle.audit_frames.specs.Told.{IsAround}
use Rattle.audit_subject.specs.declared.hearing.Heard.{Heard}

-- what the machine makes of the step
abbrev pub made_of : {State Call : Type 0} → Setting State Call → Moment State Call → Open Call → Stepped → Option (Outcome State)
made_of g m o s = outcome_at g.machine m.world m.state o s.made s.received s.event

-- it says what the frame is judged by, and the word that begins there, and what is kept stands for the state after the step
pub record Says {State Call : Type 0} (g : Setting State Call) (stands : State → Type 0) (m : Moment State Call) (o : Open Call) (s : Stepped) (asked : ℕ) (heard : Heard) : Type 0 where
  pub around : IsAround g m o s asked heard.told heard.polls heard.around
  pub begins : option_map begun_of heard.begins ≡ begun_by (made_of g m o s)
  pub kept : stands (state_after g.machine m.world m.state o s.made s.received s.event)

-- it refuses an event that the machine doesn't allow, and nothing else; what is kept stands for the state as it was
abbrev pub Hears : {State Call : Type 0} → Setting State Call → (stands : State → Type 0) → Moment State Call → Open Call → Stepped → (asked : ℕ) → Option Heard → Type 0
Hears g stands m o s asked (Some heard) = Says g stands m o s asked heard
Hears g stands m o s asked None = IsSome s.event × (made_of g m o s ≡ None) × stands m.state

-- what was written down, where the machine allows the step's event
abbrev pub heard_in : (allowed : Bool) → Heard → Option Heard
heard_in true h = Some h
heard_in false h = None
