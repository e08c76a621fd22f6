-- The newest frame's step, and the chip's move: whether they are right, and what they leave.
use Rattle.std.proofs.Common.{◌≡◌, ℕ, ◌<◌, Bool, true, false, ◌&&◌, ◌==◌, List, [], ◌∷◌, length, drop, map, refl, sym, ◌∙◌, ap, arith}
use Rattle.std.specs.Prelude.{cond, remove}
use Rattle.chip_model.specs.Chip.{value_of}
use Rattle.mcal_base.specs.facts.Numbers.{eq_from, eq_other}
use Rattle.mcal_base.specs.facts.Truths.{off_on}
use Rattle.run_model.specs.Frame.{Origin}
use Rattle.run_model.specs.Machine.{Told}
use Rattle.audit_frames.specs.Kept.{Kept}
use Rattle.audit_frames.specs.StackRules.{left_after, rest_of, stepped, top_right}
use Rattle.audit_frames.specs.declared.terms.Around.{Around}
use Rattle.audit_frames.specs.declared.terms.Step.{Step}
use Rattle.audit_frames.proofs.Deciding.{and_join}
use Rattle.audit_subject.specs.declared.hearing.Heard.{Heard}
use Rattle.trace_reader.specs.declared.told.Step as read
use Rattle.report_auditor.specs.Auditing.{Auditing, Replayed}
use Rattle.report_steps.specs.StepParts.{HasMoved, Moves, without_top}

and_off : (a b : Bool) → b ≡ false → false ≡ (a && b)
and_off true b e = sym e
and_off false b e = refl

-- a frame makes a step where there is one
pub some_frame : (frames : List Kept) (x : Step) (t : Told) (polls : List ℕ) (y : Around) → top_right frames x t polls y ≡ true → 0 < length frames
some_frame [] x t polls y e = off_on e
some_frame (k ∷ ks) x t polls y e = omega arith

module _ {Parts Call : Type 0} (a b : Auditing Parts Call) (s : read.Step) (x : Step) (h : Heard) where
  pub not_stepped : top_right a.frames x h.told h.polls h.around ≡ false → Moves a b s x h false
  not_stepped off = record { is = sym (ap (λ q. q && (value_of a.chip s.made == s.value)) off); moved = λ e. off_on e }

  pub other_value : (value_of a.chip s.made ≡ s.value → ⊥) → Moves a b s x h false
  other_value other = record { is = and_off (top_right a.frames x h.told h.polls h.around) (value_of a.chip s.made == s.value) (eq_other (value_of a.chip s.made) s.value other); moved = λ e. off_on e }

  pub has_moved : top_right a.frames x h.told h.polls h.around ≡ true → value_of a.chip s.made ≡ s.value → HasMoved a b s x h → Moves a b s x h true
  has_moved right same moved = record { is = sym (and_join (top_right a.frames x h.told h.polls h.around) (value_of a.chip s.made == s.value) right (eq_from (value_of a.chip s.made) s.value same)); moved = λ e. moved }

  -- what they leave, where the frame stays, and where it is gone
  module _ (frames : List Kept) (are : frames ≡ stepped a.frames x h.told h.polls h.around) where
    pub stays : Replayed (record a { frames = frames }) b s.made s.received → x.ends ≡ false → HasMoved a b s x h
    stays moved off = record {
      chip = moved.chip;
      frames = moved.frames ∙ (are ∙ ap (λ q. left_after q (stepped a.frames x h.told h.polls h.around)) (sym off));
      origins = moved.origins ∙ ap (λ q. drop (cond q 1 0) a.origins) (sym off);
      parts = moved.parts;
      outside = moved.outside;
      devices = moved.devices;
      tally = moved.tally;
    }

    pub leaves : (mid : Auditing Parts Call) → Replayed (record a { frames = frames }) mid s.made s.received → b ≡ without_top mid → x.ends ≡ true → HasMoved a b s x h
    leaves mid moved is on = record {
      chip = ap (λ y. y.chip) is ∙ moved.chip;
      frames = ap (λ y. y.frames) is ∙ (ap rest_of (moved.frames ∙ are) ∙ ap (λ q. left_after q (stepped a.frames x h.told h.polls h.around)) (sym on));
      origins = ap (λ y. y.origins) is ∙ (ap (λ ys. drop 1 ys) moved.origins ∙ ap (λ q. drop (cond q 1 0) a.origins) (sym on));
      parts = ap (λ y. y.parts) is ∙ moved.parts;
      outside = ap (λ y. y.outside) is ∙ moved.outside;
      devices = ap (λ y. y.devices) is ∙ moved.devices;
      tally = ap (λ y. y.tally) is ∙ moved.tally;
    }

-- without the newest frame
pub without_is : {Parts Call : Type 0} (a b : Auditing Parts Call) → a ≡ b → (frames : List Kept) (origins : List (Origin Call)) → frames ≡ rest_of a.frames → origins ≡ drop 1 a.origins → record a { frames = frames; origins = origins } ≡ without_top b
without_is a b same frames origins are begun =
    ap (λ xs. record a { frames = xs; origins = origins }) are ∙ (ap (λ xs. record a { frames = rest_of a.frames; origins = xs }) begun ∙ ap (λ y. without_top y) same)

-- what frames were begun for, without the newest one
pub removed_first : {A B : Type 0} (f : A → B) (xs : List A) → map f (remove xs 0) ≡ drop 1 (map f xs)
removed_first f [] = refl
removed_first f (x ∷ xs) = refl
