-- The machines were told the event of a step, or they don't allow it.
use Rattle.std.proofs.Common.{◌≡◌, ℕ, List, ◌∷◌, Option, None, sym, ◌∙◌, ap, subst}
use Rattle.mcal_base.specs.declared.moves.Event.{Event}
use Rattle.run_model.specs.Frame.{Open}
use Rattle.run_model.specs.Moment.{Setting}
use Rattle.run_model.specs.World.{World}
use Rattle.audit_base.specs.Deeds.{Member}
use Rattle.audit_base.specs.Outside.{IsWorld}
use Rattle.audit_base.specs.declared.outside.Outside.{Outside}
use Rattle.audit_frames.specs.Kept.{Kept}
use Rattle.audit_frames.specs.Parts.{IsAllowed}
use Rattle.audit_frames.specs.StandsFor.{StandsFor}
use Rattle.audit_subject.specs.Hearings.{Hears, Says}
use Rattle.audit_subject.specs.Product.{member_of}
use Rattle.audit_subject.specs.declared.hearing.Heard.{Heard}
use Rattle.report_text.specs.reading.Blocks.{AuditState}
use Rattle.trace_reader.specs.declared.told.Step as read
use Rattle.report_auditor.specs.Asking.{StartRight}
use Rattle.report_auditor.specs.Auditing.{AllCommitted, Auditing, IsSound, Stands}
use Rattle.report_auditor.specs.Seeing.{Agreeing}
use Rattle.report_auditor.proofs.HearLaws.{is_allowed_by, is_refused, start_right}
use Rattle.report_auditor.proofs.ServedParts.{machine_is}
use Rattle.report_steps.specs.StepParts.{IsHeard, asked_by, step_told}

-- with other machines and another outside
abbrev pub told_to : {Parts Call : Type 0} → Parts → Outside → Auditing Parts Call → Auditing Parts Call
told_to parts outside a = record { chip = a.chip; parts = parts; outside = outside; devices = a.devices; frames = a.frames; origins = a.origins; tally = a.tally; seen = a.seen }

-- it is the same time there
pub same_time : (before after : Outside) (w : World) → IsWorld before w → ((w : World) → IsWorld before w → IsWorld after w) → before.time ≡ after.time
same_time before after w h same = sym h.now ∙ (same w h).now

-- what is needed to go on is left
pub still_sound : {Parts Call : Type 0} (fits : Parts → Outside → Type 0) (within : Parts → Type 0) (given : ℕ) (a : Auditing Parts Call) (parts : Parts) (outside : Outside)
    → (s : IsSound fits within given a) → fits parts outside → within parts → ((w : World) → IsWorld a.outside w → IsWorld outside w) → IsSound fits within given (told_to parts outside a)
still_sound fits within given a parts outside s fit limits same =
    let world : IsWorld outside s.around = same s.around s.world in
    record {
      can_tell = fit;
      in_limits = limits;
      around = s.around;
      world = world;
      osc = s.osc ∙ (sym s.world.osc ∙ world.osc);
      time = s.time ∙ (sym s.world.now ∙ world.now);
      committed = subst (λ n. AllCommitted n a.frames) (sym s.world.now ∙ world.now) s.committed;
      few = s.few;
      counted = s.counted;
      room = s.room;
      sources = s.sources;
    }

module _ {Parts Table State Call : Type 0} (agrees : Agreeing Table State) (setting : Table → Setting State Call) (table : Parts → Table) (stands : Parts → State → Type 0)
    (member : Table → Member State Call) (member_is : (t : Table) → member_of (setting t) ≡ member t)
    (t : Table) (a : Auditing Parts Call) (p : AuditState State Call) (s : Stands agrees setting table stands t a p)
    (o : Open Call) (k : Kept) (ks : List Kept) (top : a.frames ≡ k ∷ ks) (stood : StandsFor (setting t) k o) (r : read.Step) (event : Option Event) where
  -- a start is judged by the machine of the run, with the answer that the frame has
  starts : StartRight (member (table a.parts)).machine p.moment.world p.moment.state k.answer event → StartRight (setting t).machine p.moment.world p.moment.state o.acted event
  starts h =
      subst (λ x. StartRight (setting t).machine p.moment.world p.moment.state x event) stood.answer
      (subst (λ mac. StartRight mac p.moment.world p.moment.state k.answer event) (machine_is agrees setting table stands member member_is t a p s) h)

  started : StartRight (setting t).machine p.moment.world p.moment.state o.acted event → StartRight (member (table a.parts)).machine p.moment.world p.moment.state k.answer event
  started h =
      subst (λ mac. StartRight mac p.moment.world p.moment.state k.answer event) (sym (machine_is agrees setting table stands member member_is t a p s))
      (subst (λ x. StartRight (setting t).machine p.moment.world p.moment.state x event) (sym stood.answer) h)

  -- one that isn't right is of an event that isn't allowed
  pub not_started : (StartRight (member (table a.parts)).machine p.moment.world p.moment.state k.answer event → ⊥) → IsAllowed (setting t) p.moment o (step_told r event None) event → ⊥
  not_started wrong allowed = wrong (started (start_right (setting t) p.moment o (step_told r event None) event allowed))

  -- they were told it
  pub is_heard : (parts : Parts) (outside : Outside) (h : Heard) → table parts ≡ table a.parts → IsWorld outside p.moment.world
      → StartRight (member (table a.parts)).machine p.moment.world p.moment.state k.answer event
      → Says (setting (table a.parts)) (stands parts) p.moment o (step_told r event None) k.terms.asked h
      → IsHeard agrees setting table stands t (told_to parts outside a) p o (step_told r event None) h
  is_heard parts outside h same world start said =
      let says : Says (setting t) (stands parts) p.moment o (step_told r event None) k.terms.asked h =
      subst (λ y. Says (setting y) (stands parts) p.moment o (step_told r event None) k.terms.asked h) s.kept_of said in
      record {
        kept_of = same ∙ s.kept_of;
        chip = s.chip;
        world = world;
        devices = s.devices;
        hung = s.hung;
        frames = s.frames;
        origins = s.origins;
        going = s.going;
        purposes = s.purposes;
        tally = s.tally;
        seen = s.seen;
        allowed = is_allowed_by (setting t) p.moment o (step_told r event None) event h.told says.around.told (starts start);
        says = subst (λ n. Says (setting t) (stands parts) p.moment o (step_told r event None) n h) (sym (ap asked_by top)) says;
      }

  -- they don't allow it
  pub not_heard : (parts : Parts) → Hears (setting (table a.parts)) (stands parts) p.moment o (step_told r event None) k.terms.asked None → IsAllowed (setting t) p.moment o (step_told r event None) event → ⊥
  not_heard parts said allowed =
      let none = subst (λ y. Hears (setting y) (stands parts) p.moment o (step_told r event None) k.terms.asked None) s.kept_of said in
      is_refused (setting t) p.moment o (step_told r event None) event none.0 none.1 allowed
