-- The newest frame as it is kept, and whether the step of a line may come for it.
use Rattle.std.proofs.Common.{◌≡◌, ℕ, suc, ◌<◌, ◌≤◌, Bool, true, false, ◌||◌, List, [], ◌∷◌, length, Some, None, refl, sym, ◌∙◌, ap, subst, arith}
use Rattle.std.specs.Prelude.{slice_get}
use Rattle.bench_report.specs.Numbers.{IsNumber}
use Rattle.chip_model.specs.Chip.{stall_of}
use Rattle.mcal_base.specs.Reach.{CanApply}
use Rattle.mcal_base.specs.facts.Truths.{off_on}
use Rattle.run_model.specs.Causes.{origins_of}
use Rattle.run_model.specs.Frame.{Open, Origin, is_shared}
use Rattle.run_model.specs.Legal.{ReceivedRight, ShowsRight}
use Rattle.run_model.specs.Moment.{Moment, Setting}
use Rattle.audit_frames.specs.Decides.{Decides}
use Rattle.audit_frames.specs.Kept.{Kept}
use Rattle.audit_frames.specs.StackRules.{StandAll}
use Rattle.audit_frames.specs.StandsFor.{StandsFor}
use Rattle.audit_frames.proofs.Deciding.{no, worded}
use Rattle.trace_reader.specs.declared.told.Step.{Step}
use Rattle.report_steps.specs.StepParts.{ComesNow, HasTop, MayCome}

-- one test that fails
pub fails : {P : Type 0} (b : Bool) → Decides b P → b ≡ false → P → ⊥
fails b d e p = off_on (sym e ∙ d.shows p)

-- ---- the newest frame

-- the newest one of those that are kept stands for the newest one under way
pub record Newest {State Call : Type 0} (g : Setting State Call) (frames : List Kept) (opens : List (Open Call)) (k : Kept) (x : Origin Call) : Type 0 where
  pub o : Open Call
  pub os : List (Open Call)
  pub ks : List Kept
  pub frames_are : frames ≡ k ∷ ks
  pub opens_are : opens ≡ o ∷ os
  pub stood : StandsFor g k o
  pub origin : o.origin ≡ x

pub same_some : {A : Type 0} (x y : A) → Some x ≡ Some y → x ≡ y
same_some x y e = cc

pub some_none : {A : Type 0} (x : A) → Some x ≡ None → ⊥
some_none x e = cc

module _ {State Call : Type 0} (g : Setting State Call) where
  pub newest : (frames : List Kept) (opens : List (Open Call)) (origins : List (Origin Call)) (k : Kept) (x : Origin Call) → StandAll g frames opens → origins ≡ origins_of opens
      → slice_get frames 0 ≡ Some k → slice_get origins 0 ≡ Some x → Newest g frames opens k x
  newest [] opens origins k x all same first begun = absurd (cc)
  newest (j ∷ ks) [] origins k x all same first begun = absurd all
  newest (j ∷ ks) (o ∷ os) origins k x all same first begun =
      let top : j ≡ k = same_some j k first in
      record {
        o = o;
        os = os;
        ks = ks;
        frames_are = ap (λ y. y ∷ ks) top;
        opens_are = refl;
        stood = subst (λ y. StandsFor g y o) top all.0;
        origin = same_some o.origin x (sym (ap (λ ys. slice_get ys 0) same) ∙ begun);
      }

  -- without one none is under way
  pub none_kept : (frames : List Kept) (opens : List (Open Call)) → StandAll g frames opens → slice_get frames 0 ≡ None → opens ≡ []
  none_kept [] [] all none = refl
  none_kept [] (o ∷ os) all none = absurd all
  none_kept (k ∷ ks) opens all none = absurd (cc)

  pub none_begun : (opens : List (Open Call)) (origins : List (Origin Call)) → origins ≡ origins_of opens → slice_get origins 0 ≡ None → opens ≡ []
  none_begun [] origins same none = refl
  none_begun (o ∷ os) origins same none = absurd (some_none o.origin (sym (ap (λ ys. slice_get ys 0) same) ∙ none))

-- the newest one that is kept, where the newest one under way is this
pub record Keeps {State Call : Type 0} (g : Setting State Call) (frames : List Kept) (o : Open Call) (k : Kept) : Type 0 where
  pub ks : List Kept
  pub is : frames ≡ k ∷ ks
  pub stood : StandsFor g k o

pub keeps_top : {State Call : Type 0} (g : Setting State Call) (frames : List Kept) (o : Open Call) (os : List (Open Call)) (k : Kept) → StandAll g frames (o ∷ os) → slice_get frames 0 ≡ Some k → Keeps g frames o k
keeps_top g [] o os k all first = absurd all
keeps_top g (j ∷ ks) o os k all first =
    let top : j ≡ k = same_some j k first in
    record { ks = ks; is = ap (λ y. y ∷ ks) top; stood = subst (λ y. StandsFor g y o) top all.0 }

pub keeps_some : {State Call : Type 0} (g : Setting State Call) (frames : List Kept) (o : Open Call) (os : List (Open Call)) → StandAll g frames (o ∷ os) → slice_get frames 0 ≡ None → ⊥
keeps_some g [] o os all none = all
keeps_some g (j ∷ ks) o os all none = some_none j none

-- as many are under way as are kept
pub depth_is : {State Call : Type 0} (g : Setting State Call) (frames : List Kept) (opens : List (Open Call)) → StandAll g frames opens → length opens ≡ length frames
depth_is g [] [] all = refl
depth_is g [] (o ∷ os) all = absurd all
depth_is g (k ∷ ks) [] all = absurd all
depth_is g (k ∷ ks) (o ∷ os) all = ap (λ n. suc n) (depth_is g ks os all.1)

small : (m n : ℕ) → m ≡ n → n ≤ 8 → m < 4294967296
small m n e le = omega (arith, e, le)

pub few_opens : {State Call : Type 0} (g : Setting State Call) (frames : List Kept) (opens : List (Open Call)) → StandAll g frames opens → length frames ≤ 8 → IsNumber (length opens)
few_opens g frames opens all le = small (length opens) (length frames) (depth_is g frames opens all) le

pub has_top : (frames : List Kept) (k : Kept) → slice_get frames 0 ≡ Some k → HasTop frames
has_top [] k e = absurd (cc)
has_top (j ∷ ks) k e = tt

-- ---- whether it may come

module _ {State Call : Type 0} (g : Setting State Call) (m : Moment State Call) (opens : List (Open Call)) (s : Step) where
  pub none_comes : opens ≡ [] → Decides false (MayCome g m opens s)
  none_comes e = no (λ h. subst (λ os. MayCome g m os s) e h)

  module _ (o : Open Call) (os : List (Open Call)) (are : opens ≡ o ∷ os) where
    now_of : MayCome g m opens s → ComesNow g m o s
    now_of h = subst (λ ys. MayCome g m ys s) are h

    -- where one part is wrong, it may not
    pub not_now : (ComesNow g m o s → ⊥) → Decides false (MayCome g m opens s)
    not_now wrong = no (λ h. wrong (now_of h))

    -- and where the others are right, depth and wait say whether it may
    pub by_depth : (c : Bool) → Decides c ((s.depth ≡ length m.opens) × (stall_of m.chip s.made ≡ 0)) → ReceivedRight m.chip m.world s.made s.received → ShowsRight g m.chip m.state o.origin o.owed s.made
        → CanApply s.made → is_shared s.made || g.may o.origin s.made ≡ true → Decides c (MayCome g m opens s)
    by_depth c d received shows there own =
        worded (λ x. subst (λ ys. MayCome g m ys s) (sym are) (record { depth = x.0; waits = x.1; received = received; shows = shows; there = there; own = own }))
        (λ h. ((now_of h).depth, (now_of h).waits)) d
