-- The event of a step is told, by what an auditor keeps.
use Rattle.std.proofs.Common.{◌≡◌, ℕ, Bool, true, false, List, [], ◌∷◌, Option, Some, None, sym, ◌∙◌, ap, subst}
use Rattle.std.specs.Prelude.{slice_get}
use Rattle.mcal_base.specs.declared.moves.Event.{Event}
use Rattle.run_model.specs.Causes.{origins_of}
use Rattle.run_model.specs.Frame.{Open, Origin}
use Rattle.run_model.specs.Moment.{Setting}
use Rattle.audit_base.specs.Deeds.{Member}
use Rattle.audit_base.specs.Outside.{IsWorld}
use Rattle.audit_base.specs.declared.outside.Outside.{Outside}
use Rattle.audit_frames.specs.Decides.{Decides}
use Rattle.audit_frames.specs.Kept.{Kept}
use Rattle.audit_frames.specs.Parts.{IsAllowed}
use Rattle.audit_frames.specs.StackRules.{StandAll}
use Rattle.audit_frames.specs.StandsFor.{StandsFor}
use Rattle.audit_subject.specs.Hearings.{Hears}
use Rattle.audit_subject.specs.Product.{member_of}
use Rattle.audit_subject.specs.declared.hearing.Heard.{Heard}
use Rattle.report_text.specs.reading.Blocks.{AuditState}
use Rattle.trace_reader.specs.declared.told.Step as read
use Rattle.report_auditor.specs.Asking.{StartRight}
use Rattle.report_auditor.specs.Auditing.{AllCommitted, Auditing, HasCommitted, Stands}
use Rattle.report_auditor.specs.Seeing.{Agreeing}
use Rattle.report_steps.specs.StepParts.{HearsStep, step_told}
use Rattle.report_steps.proofs.ComeLaws.{Keeps, fails, keeps_some, keeps_top, same_some, some_none}
use Rattle.report_steps.proofs.HeardLaws.{is_heard, not_heard, not_started, told_to}

-- what the newest frame that is kept committed
pub first_committed : (now : ℕ) (frames : List Kept) (k : Kept) → AllCommitted now frames → slice_get frames 0 ≡ Some k → HasCommitted now k
first_committed now [] k all first = absurd (cc)
first_committed now (j ∷ ks) k all first = subst (HasCommitted now) (same_some j k first) all.0

module _ {Parts Table State Call : Type 0} (agrees : Agreeing Table State) (setting : Table → Setting State Call) (table : Parts → Table) (stands : Parts → State → Type 0)
    (member : Table → Member State Call) (member_is : (t : Table) → member_of (setting t) ≡ member t)
    (t : Table) (a : Auditing Parts Call) (p : AuditState State Call) (s : Stands agrees setting table stands t a p)
    (o : Open Call) (os : List (Open Call)) (opens : p.moment.opens ≡ o ∷ os) (r : read.Step) (event : Option Event) where
  all : StandAll (setting t) a.frames (o ∷ os)
  all = subst (λ ys. StandAll (setting t) a.frames ys) opens s.frames

  pub no_frame : slice_get a.frames 0 ≡ None → IsAllowed (setting t) p.moment o (step_told r event None) event → ⊥
  no_frame none allowed = keeps_some (setting t) a.frames o os all none

  pub no_origin : slice_get a.origins 0 ≡ None → IsAllowed (setting t) p.moment o (step_told r event None) event → ⊥
  no_origin none allowed = some_none o.origin (sym (ap (λ ys. slice_get ys 0) (s.origins ∙ ap origins_of opens)) ∙ none)

  pub origin_is : (x : Origin Call) → slice_get a.origins 0 ≡ Some x → o.origin ≡ x
  origin_is x first = same_some o.origin x (sym (ap (λ ys. slice_get ys 0) (s.origins ∙ ap origins_of opens)) ∙ first)

  module _ (k : Kept) (first : slice_get a.frames 0 ≡ Some k) where
    keeps : Keeps (setting t) a.frames o k
    keeps = keeps_top (setting t) a.frames o os k all first

    pub stood : StandsFor (setting (table a.parts)) k o
    stood = subst (λ y. StandsFor (setting y) k o) (sym s.kept_of) keeps.stood

    module _ (b : Bool) (d : Decides b (StartRight (member (table a.parts)).machine p.moment.world p.moment.state k.answer event)) where
      pub no_start : b ≡ false → IsAllowed (setting t) p.moment o (step_told r event None) event → ⊥
      no_start off = not_started agrees setting table stands member member_is t a p s o k keeps.ks keeps.is keeps.stood r event (fails b d off)

      pub hears : b ≡ true → (parts : Parts) (outside : Outside) (h : Option Heard) → table parts ≡ table a.parts → IsWorld outside p.moment.world
          → Hears (setting (table a.parts)) (stands parts) p.moment o (step_told r event None) k.terms.asked h
          → HearsStep agrees setting table stands t (told_to parts outside a) p o (step_told r event None) h
      hears on parts outside (Some h) same world said = is_heard agrees setting table stands member member_is t a p s o k keeps.ks keeps.is keeps.stood r event parts outside h same world (d.says on) said
      hears on parts outside None same world said = not_heard agrees setting table stands member member_is t a p s o k keeps.ks keeps.is keeps.stood r event parts said
