-- Frames that begin, and the frames under way as they are kept.
use Rattle.std.proofs.Common.{◌≡◌, ℕ, zero, suc, not, ◌&&◌, List, [], ◌∷◌, length, Option, Some, None, refl, sym, ◌∙◌, ap, arith}
use Rattle.std.specs.Prelude.{cond, is_some, nat_le, nat_lt, slice_index_or}
use Rattle.std.proofs.lemmas.Bool.Decides.{nat_tests}
use Rattle.std.specs.List.{list_all}
use Rattle.mcal_base.proofs.BitLaws.{has_bit-zero}
use Rattle.mcal_base.specs.facts.Truths.{off_on}
use Rattle.mcal_base.specs.declared.answer.Answer.{Answer}
use Rattle.run_model.specs.Causes as causes
use Rattle.run_model.specs.Frame.{Open, top_after}
use Rattle.run_model.specs.Moment.{Setting}
use Rattle.run_model.specs.declared.class.Class.{Class}
use Rattle.audit_frames.specs.FrameRules.{fresh, kept_after}
use Rattle.audit_frames.specs.Judged.{Begins, Holds, StepsOn}
use Rattle.audit_frames.specs.Kept.{Kept}
use Rattle.audit_frames.specs.StackRules.{StandAll, tags_of, top_noted}
use Rattle.audit_frames.specs.StandsFor.{StandsFor}
use Rattle.audit_frames.specs.Told.{step_of}

-- ---- tags

-- a call may begin over each frame where it may over each tag
pub reenters : (class : Class) (ks : List Kept) → list_all (λ k. not (causes.blocks class k.terms.tag)) ks ≡ causes.may_reenter class (tags_of ks)
reenters class [] = refl
reenters class (k ∷ ks) = ap (λ b. not (causes.blocks class k.terms.tag) && b) (reenters class ks)

count_tags : (ks : List Kept) → length (tags_of ks) ≡ length ks
count_tags [] = refl
count_tags (k ∷ ks) = ap (λ n. suc n) (count_tags ks)

le_not_lt : (n m : ℕ) → n ≡ m → nat_le 8 n ≡ not (nat_lt m 8)
le_not_lt n m e = grind (arith, nat_tests)

-- there are eight frames where so many are counted
pub full : (ks : List Kept) (n : ℕ) → n ≡ length ks → nat_le 8 n ≡ causes.is_full (tags_of ks)
full ks n e = let counted : n ≡ length (tags_of ks) = e ∙ sym (count_tags ks) in le_not_lt n (length (tags_of ks)) counted

-- ---- a frame that begins

abbrev AllNone : List (Option ℕ) → Type 0
AllNone [] = Unit {0}
AllNone (None ∷ xs) = AllNone xs
AllNone (Some n ∷ xs) = ⊥

none_at : (xs : List (Option ℕ)) → AllNone xs → (c : ℕ) → slice_index_or xs c None ≡ None
none_at [] h c = refl
none_at (None ∷ xs) h zero = refl
none_at (None ∷ xs) h (suc c) = none_at xs h c
none_at (Some n ∷ xs) h c = absurd h

module _ {State Call : Type 0} (g : Setting State Call) where
  pub begins : Begins g
  begins terms origin tag begun = record {
    begun = begun;
    lines = record { polled = λ l. has_bit-zero l; served = λ l. has_bit-zero l; has_served = refl; missed = λ l on. has_bit-zero l; asks = λ l on. off_on on };
    accesses = record { low_read = refl; high_read = refl; wrote = refl; made = λ i lt. has_bit-zero i; lows = λ p. has_bit-zero p; beside = refl; committed = λ c. none_at (fresh terms).accesses.committed tt c; channels = refl };
    pace = record { inside = refl; acts_since = refl; steps = refl; window = refl; noted = refl };
    acted = tt;
    answer = refl;
    report = refl;
    owed = refl;
  }

  -- ---- those under way

  tags_same : (ks : List Kept) (os : List (Open Call)) → StandAll g ks os → tags_of ks ≡ causes.tags_of os
  tags_same [] [] h = refl
  tags_same [] (o ∷ os) h = absurd h
  tags_same (k ∷ ks) [] h = absurd h
  tags_same (k ∷ ks) (o ∷ os) h = ap (λ t. t ∷ tags_of ks) h.0.begun.tag ∙ ap (λ ts. o.tag ∷ ts) (tags_same ks os h.1)

  noted_same : (ks : List Kept) (os : List (Open Call)) → StandAll g ks os → top_noted ks ≡ causes.top_noted os
  noted_same [] [] h = refl
  noted_same [] (o ∷ os) h = absurd h
  noted_same (k ∷ ks) [] h = absurd h
  noted_same (k ∷ ks) (o ∷ os) h = h.0.pace.noted

  pub holds : Holds g
  holds ks os masked class level pending h = (
    ap (λ ts. causes.call_cause masked ts (top_noted ks) class level) (tags_same ks os h) ∙ ap (λ b. causes.call_cause masked (causes.tags_of os) b class level) (noted_same ks os h),
    ap (λ ts. causes.line_cause masked ts level pending) (tags_same ks os h),
  )

  after : (ended : Option Answer) (ks : List Kept) (os : List (Open Call)) (k1 : Kept) (o1 : Open Call) → StandAll g ks os → StandsFor g k1 o1 → StandAll g (cond (is_some ended) ks (k1 ∷ ks)) (top_after o1 ended os)
  after None ks os k1 o1 h stands = (stands, h)
  after (Some answer) ks os k1 o1 h stands = h

  pub steps_on : StepsOn g
  steps_on ks os k o o1 s t polls x h stands = after s.ended ks os (kept_after k (step_of s) t polls x) o1 h.1 stands
