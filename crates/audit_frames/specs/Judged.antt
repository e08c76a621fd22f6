-- What is promised of frames: a step is judged right exactly where the frame may make it, and what is kept stands for the frame after it.
use Rattle.std.specs.Prelude.{◌≡◌, ℕ, Bool, true, List, ◌∷◌, is_some}
use Rattle.mcal_base.specs.Reach.{CanApply}
use Rattle.run_model.specs.Causes.{call_cause, line_cause, tags_of, top_noted}
use Rattle.run_model.specs.Frame.{Origin, Open, opened, open_after, top_after}
use Rattle.run_model.specs.Legal.{IsLegalStep, IsGoing}
use Rattle.run_model.specs.Machine.{Told}
use Rattle.run_model.specs.Moment.{Setting, Moment}
use Rattle.run_model.specs.declared.class.Class.{Class}
use Rattle.run_model.specs.declared.class.Tag.{Tag}
use Rattle.run_model.specs.declared.item.Stepped.{Stepped}
use Rattle.audit_frames.specs.Decides.{Decides}
use Rattle.audit_frames.specs.FrameRules.{fresh, kept_after, step_right, is_going}
use Rattle.audit_frames.specs.Kept.{Kept}
use Rattle.audit_frames.specs.Parts.{FrameRight, OutsideRight}
use Rattle.audit_frames.specs.StackRules as stack
use Rattle.audit_frames.specs.StackRules.{StandAll}
use Rattle.audit_frames.specs.StandsFor.{IsBegun, StandsFor}
use Rattle.audit_frames.specs.Told.{step_of, IsAround, ended_of}
use Rattle.audit_frames.specs.declared.terms.Around.{Around}
use Rattle.audit_frames.specs.declared.terms.Terms.{Terms}

-- What is kept after a right step stands for the frame after it, and its answer is the one that is kept.
pub record GoesOn {State Call : Type 0} (g : Setting State Call) (m : Moment State Call) (o : Open Call) (s : Stepped) (k : Kept) : Type 0 where
  pub right : FrameRight g m o s
  pub stands : StandsFor g k (open_after g.machine m.world m.state o s.made s.received s.event)

-- a step that is judged right is one that the frame may make
abbrev pub Sound : {State Call : Type 0} → Setting State Call → Type 0
Sound {State} {Call} g =
    (m : Moment State Call) (o : Open Call) (s : Stepped) (k : Kept) (t : Told) (polls : List ℕ) (x : Around)
    → StandsFor g k o → IsAround g m o s k.terms.asked t polls x → CanApply s.made
    → s.ended ≡ ended_of (kept_after k (step_of s) t polls x) (is_some s.ended)
    → step_right k (step_of s) t polls x ≡ true
    → GoesOn g m o s (kept_after k (step_of s) t polls x)

-- and one that it may make is judged right, and ends with the answer that is kept
abbrev pub Complete : {State Call : Type 0} → Setting State Call → Type 0
Complete {State} {Call} g =
    (m : Moment State Call) (o : Open Call) (s : Stepped) (k : Kept) (t : Told) (polls : List ℕ) (x : Around)
    → StandsFor g k o → IsAround g m o s k.terms.asked t polls x → CanApply s.made
    → FrameRight g m o s
    → (s.ended ≡ ended_of (kept_after k (step_of s) t polls x) (is_some s.ended)) × (step_right k (step_of s) t polls x ≡ true)

-- the two parts are the whole of a legal step
abbrev pub Whole : {State Call : Type 0} → Setting State Call → Type 0
Whole {State} {Call} g = (m : Moment State Call) (o : Open Call) (s : Stepped) → FrameRight g m o s → OutsideRight g m o s → IsLegalStep g m o s

abbrev pub Divides : {State Call : Type 0} → Setting State Call → Type 0
Divides {State} {Call} g = (m : Moment State Call) (o : Open Call) (s : Stepped) → IsLegalStep g m o s → FrameRight g m o s × OutsideRight g m o s

-- a frame that is kept can go on exactly where the frame can
abbrev pub Going : {State Call : Type 0} → Setting State Call → Type 0
Going {State} {Call} g = (o : Open Call) (k : Kept) → StandsFor g k o → Decides (is_going k) (IsGoing g o)

-- ---- the frames under way

-- what is kept of a frame that begins stands for it
abbrev pub Begins : {State Call : Type 0} → Setting State Call → Type 0
Begins {State} {Call} g = (terms : Terms) (origin : Origin Call) (tag : Tag) → IsBegun g terms (opened origin tag) → StandsFor g (fresh terms) (opened origin tag)

-- a call and the handler of a line are held over what is kept as over the frames
abbrev pub Holds : {State Call : Type 0} → Setting State Call → Type 0
Holds {State} {Call} g =
    (ks : List Kept) (os : List (Open Call)) (masked : Bool) (class : Class) (level : ℕ) (pending : Bool) → StandAll g ks os
    → (stack.call_held ks masked class level ≡ call_cause masked (tags_of os) (top_noted os) class level)
    × (stack.line_held ks masked level pending ≡ line_cause masked (tags_of os) level pending)

-- after a right step of the newest one, which may have ended, each stands for a frame
abbrev pub StepsOn : {State Call : Type 0} → Setting State Call → Type 0
StepsOn {State} {Call} g =
    (ks : List Kept) (os : List (Open Call)) (k : Kept) (o o1 : Open Call) (s : Stepped) (t : Told) (polls : List ℕ) (x : Around) → StandAll g (k ∷ ks) (o ∷ os)
    → StandsFor g (kept_after k (step_of s) t polls x) o1
    → StandAll g (stack.left_after (is_some s.ended) (stack.stepped (k ∷ ks) (step_of s) t polls x)) (top_after o1 s.ended os)
