-- A step that a line tells and that comes passes each test before it is made.
use Rattle.std.proofs.Common.{◌≡◌, Bool, true, false, List, [], ◌∷◌, length, Option, Some, None, refl, sym, ◌∙◌, ap, subst}
use Rattle.mcal_base.specs.declared.moves.Event.{Event}
use Rattle.run_model.specs.Frame.{Open}
use Rattle.run_model.specs.Legal.{LegalStep}
use Rattle.run_model.specs.Moment.{Moment, Setting}
use Rattle.run_model.specs.declared.item.Stepped.{Stepped}
use Rattle.audit_base.specs.Deeds.{Member}
use Rattle.audit_frames.specs.Decides.{Decides}
use Rattle.audit_frames.specs.Parts.{IsAllowed}
use Rattle.audit_subject.specs.Product.{member_of}
use Rattle.report_text.specs.reading.Blocks.{AuditState}
use Rattle.trace_reader.specs.declared.told.Step as read
use Rattle.report_auditor.specs.Auditing.{Auditing, Stands}
use Rattle.report_auditor.specs.Seeing.{Agreeing}
use Rattle.report_auditor.proofs.ServedParts.{machine_is}
use Rattle.report_steps.specs.StepParts.{ComesNow, IsEarly, MayCome, event_at, step_told}
use Rattle.report_steps.specs.StepRules.{ComesTold, told_of}
use Rattle.report_steps.proofs.ComeLaws.{fails}
use Rattle.report_steps.proofs.NextLaws.{legal_top}
use Rattle.report_steps.proofs.StepJudged.{all_told, comes_now, event_told, is_allowed, not_over}

may_from : {State Call : Type 0} (g : Setting State Call) (m : Moment State Call) (opens : List (Open Call)) (r : read.Step) (x : Stepped) → told_of (length m.opens) x ≡ r → LegalStep g m opens x → MayCome g m opens r
may_from g m [] r x told legal = absurd legal
may_from g m (o ∷ os) r x told legal = comes_now g m o r x told legal

same_event : (x : Option (Option Event)) (a b : Option Event) → x ≡ Some a → x ≡ Some b → a ≡ b
same_event x a b e f = cc

none_event : (x : Option (Option Event)) (a : Option Event) → x ≡ None → x ≡ Some a → ⊥
none_event x a e f = cc

module _ {State Call : Type 0} (g : Setting State Call) (p : AuditState State Call) (r : read.Step) (x : Stepped) (comes : ComesTold g p r x) where
  pub may : MayCome g p.moment p.moment.opens r
  may = may_from g p.moment p.moment.opens r x comes.told comes.comes.legal

  -- without an event at its line it doesn't come
  pub no_event : event_at r ≡ None → ⊥
  no_event none =
      let top = legal_top g p.moment p.moment.opens x comes.comes.legal in
      none_event (event_at r) x.event none (event_told g p.moment top.0 r (length p.moment.opens) x comes.told (subst (λ ys. LegalStep g p.moment ys x) top.2 comes.comes.legal))

  -- its event is allowed
  pub allowed : (o : Open Call) (os : List (Open Call)) (event : Option Event) → p.moment.opens ≡ o ∷ os → event_at r ≡ Some event → IsAllowed g p.moment o (step_told r event None) event
  allowed o os event opens at =
      let legal = subst (λ ys. LegalStep g p.moment ys x) opens comes.comes.legal in
      let same : x.event ≡ event = same_event (event_at r) x.event event (event_told g p.moment o r (length p.moment.opens) x comes.told legal) at in
      let whole : step_told r event x.ended ≡ x = ap (λ e. step_told r e x.ended) (sym same) ∙ all_told g p.moment o r (length p.moment.opens) x comes.told legal in
      is_allowed g p.moment o r event x.ended (subst (λ y. LegalStep g p.moment (o ∷ os) y) (sym whole) legal)

pub may_have : {State Call : Type 0} (g : Setting State Call) (m : Moment State Call) (opens : List (Open Call)) (r : read.Step) → MayCome g m opens r → (o : Open Call) × (os : List (Open Call)) × (opens ≡ o ∷ os)
may_have g m [] r h = absurd h
may_have g m (o ∷ os) r h = (o, os, refl)

pub now_of : {State Call : Type 0} (g : Setting State Call) (m : Moment State Call) (o : Open Call) (os : List (Open Call)) (r : read.Step) → m.opens ≡ o ∷ os → MayCome g m m.opens r → ComesNow g m o r
now_of g m o os r opens h = subst (λ ys. MayCome g m ys r) opens h

module _ {Parts Table State Call : Type 0} (agrees : Agreeing Table State) (setting : Table → Setting State Call) (table : Parts → Table) (stands : Parts → State → Type 0)
    (member : Table → Member State Call) (member_is : (t : Table) → member_of (setting t) ≡ member t)
    (t : Table) (a : Auditing Parts Call) (p : AuditState State Call) (s : Stands agrees setting table stands t a p)
    (b : Bool) (d : Decides b ((member (table a.parts)).machine.expires p.moment.world p.moment.state ≡ Some 0)) where
  same_left : (member (table a.parts)).machine.expires p.moment.world p.moment.state ≡ (setting t).machine.expires p.moment.world p.moment.state
  same_left = ap (λ mac. mac.expires p.moment.world p.moment.state) (machine_is agrees setting table stands member member_is t a p s)

  pub over : b ≡ true → (r : read.Step) (x : Stepped) → ComesTold (setting t) p r x → ⊥
  over on r x comes = not_over Call x ((setting t).machine.expires p.moment.world p.moment.state) comes.comes.time (sym same_left ∙ d.says on)

  pub early : b ≡ false → IsEarly (setting t) p.moment
  early off e = fails b d off (same_left ∙ e)
