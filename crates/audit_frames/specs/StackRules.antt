-- The frames under way as they are kept, the newest first: what begins and ends among them.
use Rattle.std.specs.Prelude.{ℕ, Bool, true, false, cond, List, [], ◌∷◌, Option}
use Rattle.std.specs.List.{list_any}
use Rattle.irq_control.specs.declared.held.Held.{Held}
use Rattle.run_model.specs.Causes.{call_cause, line_cause, reads_source}
use Rattle.run_model.specs.Frame.{Open}
use Rattle.run_model.specs.Machine.{Told}
use Rattle.run_model.specs.Moment.{Setting}
use Rattle.run_model.specs.declared.class.Class.{Class}
use Rattle.run_model.specs.declared.class.Tag.{Tag}
use Rattle.audit_frames.specs.FrameRules.{is_going, kept_after, step_right}
use Rattle.audit_frames.specs.Kept.{Kept}
use Rattle.audit_frames.specs.StandsFor.{StandsFor}
use Rattle.audit_frames.specs.declared.terms.Around.{Around}
use Rattle.audit_frames.specs.declared.terms.Step.{Step}

-- their tags, and whether the newest one's last move is a notice
abbrev pub tags_of : List Kept → List Tag
tags_of [] = []
tags_of (k ∷ ks) = k.terms.tag ∷ tags_of ks

abbrev pub top_noted : List Kept → Bool
top_noted [] = false
top_noted (k ∷ ks) = k.pace.noted

-- why a call is held over them, and the handler of a line
abbrev pub call_held : List Kept → (masked : Bool) → Class → (level : ℕ) → Option Held
call_held ks masked class level = call_cause masked (tags_of ks) (top_noted ks) class level

abbrev pub line_held : List Kept → (masked : Bool) → (level : ℕ) → (pending : Bool) → Option Held
line_held ks masked level pending = line_cause masked (tags_of ks) level pending

-- one of them is of a call that reads the source array of a channel
abbrev pub reads : List Kept → (channel : ℕ) → Bool
reads ks channel = list_any (λ k. reads_source channel k.terms.tag.class) ks

-- the newest one can go on, where there is one
abbrev pub top_goes : List Kept → Bool
top_goes [] = true
top_goes (k ∷ ks) = is_going k

-- a step of the newest one is right, and what is there after it
abbrev pub top_right : List Kept → Step → Told → (polls : List ℕ) → Around → Bool
top_right [] s t polls x = false
top_right (k ∷ ks) s t polls x = step_right k s t polls x

abbrev pub stepped : List Kept → Step → Told → (polls : List ℕ) → Around → List Kept
stepped [] s t polls x = []
stepped (k ∷ ks) s t polls x = kept_after k s t polls x ∷ ks

-- without the newest one
abbrev pub rest_of : List Kept → List Kept
rest_of [] = []
rest_of (k ∷ ks) = ks

-- after a step of the newest one, which is gone where it ended
abbrev pub left_after : (ends : Bool) → List Kept → List Kept
left_after ends ks = cond ends (rest_of ks) ks

-- each stands for a frame
abbrev pub StandAll : {State Call : Type 0} → Setting State Call → List Kept → List (Open Call) → Type 0
StandAll g [] [] = Unit {0}
StandAll g [] (o ∷ os) = ⊥
StandAll g (k ∷ ks) [] = ⊥
StandAll g (k ∷ ks) (o ∷ os) = StandsFor g k o × StandAll g ks os
