-- A step is judged right exactly where it is legal.
use Rattle.std.proofs.Common.{◌≡◌, ◌⊎◌, inl, inr, ℕ, ◌<◌, Bool, true, List, ◌∷◌, length, Option, Some, None, refl, sym, ap, subst, arith}
use Rattle.std.specs.Prelude.{is_some, IsSome}
use Rattle.mcal_base.specs.declared.answer.Answer.{Answer}
use Rattle.mcal_base.specs.declared.moves.Event.{Event}
use Rattle.chip_model.specs.Chip.{value_of}
use Rattle.run_model.specs.Frame.{Open, begun_by, open_after, outcome_at}
use Rattle.run_model.specs.Legal.{InTime, IsLegalStep, ReceivedRight, SendsRight}
use Rattle.run_model.specs.Moment.{Moment, Setting, Steps}
use Rattle.run_model.specs.declared.item.Stepped.{Stepped}
use Rattle.audit_frames.specs.FrameRules.{kept_after, step_right}
use Rattle.audit_frames.specs.Kept.{Kept}
use Rattle.audit_frames.specs.Parts.{IsAllowed}
use Rattle.audit_frames.specs.StandsFor.{StandsFor}
use Rattle.audit_frames.specs.Told.{IsAround, ended_of, step_of}
use Rattle.audit_frames.proofs.PartLaws.{whole, divides}
use Rattle.audit_frames.proofs.StepLaws.{sound, complete}
use Rattle.audit_subject.specs.declared.hearing.Heard.{Heard}
use Rattle.trace_reader.specs.declared.told.Step as read
use Rattle.report_steps.specs.StepParts.{ComesNow, end_answer, event_at, step_told}
use Rattle.report_steps.specs.StepRules.{told_of}
use Rattle.report_steps.proofs.StepMade.{allowed_with, answer_where, around_with, ends_is, kept_answer, outside_right}
use Rattle.report_steps.proofs.ToldLaws.{event_is, received_is, step_is}

-- ---- the watchdog's time

pub none_or_some : (n : ℕ) → (n ≡ 0) ⊎ (0 < n)
none_or_some n = grind arith

positive : (n : ℕ) → (n ≡ 0 → ⊥) → 0 < n
positive n h = elim (none_or_some n) [
  | inl none ↦ absurd (h none)
  | inr some ↦ some
]

-- a step is in time exactly where that time hasn't ended
pub not_over : (Call : Type 0) (s : Stepped) (left : Option ℕ) → InTime {Call = Call} left (Steps s) → left ≡ Some 0 → ⊥
not_over Call s None h e = absurd (cc)
not_over Call s (Some n) h e = let none : n ≡ 0 = cc in omega (arith, none, h)

pub in_time : (Call : Type 0) (s : Stepped) (left : Option ℕ) → (left ≡ Some 0 → ⊥) → InTime {Call = Call} left (Steps s)
in_time Call s None h = tt
in_time Call s (Some n) h = positive n (λ e. h (ap (λ x. Some x) e))

module _ {State Call : Type 0} (g : Setting State Call) (m : Moment State Call) (o : Open Call) where
  -- ---- a step that is judged right is legal, and what is kept stands for its frame after it

  pub record Judged (s : Stepped) (k : Kept) : Type 0 where
    pub legal : IsLegalStep g m o s
    pub stands : StandsFor g k (open_after g.machine m.world m.state o s.made s.received s.event)

  pub is_legal : (r : read.Step) (e : Option Event) (h : Heard) (k : Kept) (ks : List Kept) (ends : Bool)
      → let s = step_told r e (answer_where ends (k ∷ ks) e h.told) in
      StandsFor g k o → ComesNow g m o r → IsAllowed g m o (step_told r e None) e → IsAround g m o (step_told r e None) k.terms.asked h.told h.polls h.around
      → SendsRight m.chip (begun_by (outcome_at g.machine m.world m.state o r.made r.received e)) r.made → r.value ≡ value_of m.chip r.made
      → (ends ≡ true → IsSome (end_answer (k ∷ ks) e h.told)) → step_right k (step_of s) h.told h.polls h.around ≡ true
      → Judged s (kept_after k (step_of s) h.told h.polls h.around)
  is_legal r e h k ks ends stands now allowed around sends value answers right =
      let ended : Option Answer = answer_where ends (k ∷ ks) e h.told in
      let s : Stepped = step_told r e ended in
      let k1 : Kept = kept_after k (step_of s) h.told h.polls h.around in
      let on = sound g m o s k h.told h.polls h.around stands (around_with g m o r e None ended k.terms.asked h.told h.polls h.around around) now.there
      (kept_answer (is_some ended) k1 ends (ends_is ends (k ∷ ks) e h.told answers)) right in
      record { legal = whole g m o s on.right (outside_right g m o r e ended now allowed sends value); stands = on.stands }

  -- ---- and of a legal one each part is right

  -- chip and module
  comes_told : (depth : ℕ) (s : Stepped) → depth ≡ length m.opens → IsLegalStep g m o s → ComesNow g m o (told_of depth s)
  comes_told depth s deep legal =
      let right = (divides g m o s legal).1 in
      record {
        depth = deep;
        waits = right.waits;
        received = subst (ReceivedRight m.chip m.world s.made) (sym (received_is g m o s legal)) right.received;
        shows = right.shows;
        there = right.there;
        own = right.own;
      }

  pub comes_now : (r : read.Step) (s : Stepped) → told_of (length m.opens) s ≡ r → IsLegalStep g m o s → ComesNow g m o r
  comes_now r s is legal = subst (ComesNow g m o) is (comes_told (length m.opens) s refl legal)

  -- its event, and all of it but the answer of its end
  pub event_told : (r : read.Step) (depth : ℕ) (s : Stepped) → told_of depth s ≡ r → IsLegalStep g m o s → event_at r ≡ Some s.event
  event_told r depth s is legal = subst (λ x. event_at x ≡ Some s.event) is (event_is g m o depth s legal)

  pub all_told : (r : read.Step) (depth : ℕ) (s : Stepped) → told_of depth s ≡ r → IsLegalStep g m o s → step_told r s.event s.ended ≡ s
  all_told r depth s is legal = subst (λ x. step_told x s.event s.ended ≡ s) is (step_is g m o depth s legal)

  -- machine, chip and frame, where it is the step that is told
  pub record Rights (r : read.Step) (e : Option Event) (ended : Option Answer) (h : Heard) (k : Kept) : Type 0 where
    pub sends : SendsRight m.chip (begun_by (outcome_at g.machine m.world m.state o r.made r.received e)) r.made
    pub value : r.value ≡ value_of m.chip r.made
    pub ends : ended ≡ ended_of (kept_after k (step_of (step_told r e ended)) h.told h.polls h.around) (is_some ended)
    pub right : step_right k (step_of (step_told r e ended)) h.told h.polls h.around ≡ true

  pub is_allowed : (r : read.Step) (e : Option Event) (ended : Option Answer) → IsLegalStep g m o (step_told r e ended) → IsAllowed g m o (step_told r e None) e
  is_allowed r e ended legal = allowed_with g m o e r ended None (divides g m o (step_told r e ended) legal).1.event

  pub is_right : (r : read.Step) (e : Option Event) (ended : Option Answer) (h : Heard) (k : Kept)
      → StandsFor g k o → IsAround g m o (step_told r e None) k.terms.asked h.told h.polls h.around → IsLegalStep g m o (step_told r e ended) → Rights r e ended h k
  is_right r e ended h k stands around legal =
      let s : Stepped = step_told r e ended in
      let parts = divides g m o s legal in
      let frame = complete g m o s k h.told h.polls h.around stands (around_with g m o r e None ended k.terms.asked h.told h.polls h.around around) parts.1.there parts.0 in
      record { sends = parts.1.sends; value = parts.1.value; ends = frame.0; right = frame.1 }
