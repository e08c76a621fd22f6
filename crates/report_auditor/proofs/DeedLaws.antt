-- A deed of the hardware, a reset and a beginning: what is kept after it stands for the place after it.
use Rattle.std.proofs.Common.{◌≡◌, ℕ, Bool, true, false, [], ◌∷◌, Option, Some, None, refl, sym, ◌∙◌, ap, subst}
use Rattle.chip_model.specs.Chip.{Chip, happened, reset_chip}
use Rattle.std.specs.Prelude.{IsSome}
use Rattle.mcal_base.specs.declared.directive.Order.{Order}
use Rattle.mcal_base.specs.declared.directive.Order.TheVariants.{Tick}
use Rattle.mcal_base.specs.declared.directive.Reason.{Reason}
use Rattle.mcal_base.specs.declared.moves.Unit.{Unit}
use Rattle.run_model.specs.Frame.{Origin, Called, Entered, state_by}
use Rattle.run_model.specs.Legal.{AreGoing, InTime, IsLegalDeed, IsServed, hardware_held}
use Rattle.run_model.specs.Machine as machines
use Rattle.run_model.specs.Moment.{Moment, Setting, Transition, Happens, Resets, after, call_tag, line_tag}
use Rattle.run_model.specs.World.{World, world_after}
use Rattle.audit_base.specs.Comes as deeds
use Rattle.audit_base.specs.Outside.{IsWorld}
use Rattle.audit_frames.specs.Decides.{Decides}
use Rattle.audit_frames.specs.FrameRules.{fresh}
use Rattle.audit_frames.specs.StackRules.{StandAll}
use Rattle.audit_frames.specs.StandsFor.{IsBegun, StandsFor}
use Rattle.audit_frames.specs.declared.terms.Terms.{Terms}
use Rattle.audit_frames.proofs.StackLaws.{begins}
use Rattle.mcal_base.specs.facts.Truths.{off_on}
use Rattle.report_text.specs.reading.Blocks.{AuditState}
use Rattle.report_text.specs.reading.Steps.{Comes}
use Rattle.report_auditor.specs.Auditing.{Auditing, Stands, moved_to, purpose_by, purposes_by}
use Rattle.report_auditor.specs.Deeds.{Judges, Moves, beginning, opening, restarted}
use Rattle.report_auditor.specs.Seeing.{Agreeing, IsSeen, moved_in, nothing}
use Rattle.audit_whole.specs.Touching.{by_order, is_touched}
use Rattle.audit_whole.specs.declared.aspects.Aspect.{Aspect}
use Rattle.report_auditor.proofs.LeftLaws.{begins_in_time}
use Rattle.report_auditor.proofs.SeenLaws.{seen_moved, seen_nothing}

-- ---- what is answered of a deed

-- a deed whose time and legality are right comes exactly where the moment after it is served
pub judged : {State Call : Type 0} (g : Setting State Call) (m : Moment State Call) (d : Transition Call) (b : Bool) (After : Type 0)
    → InTime (g.machine.expires m.world m.state) d → IsLegalDeed g m d → Decides b (IsServed g (after g m d)) → After → Judges b (Comes g m d) After
judged g m d true After time legal served kept = (record { time = time; legal = legal; served = served.says refl }, kept)
judged g m d false After time legal served kept = λ h. off_on (served.shows h.served)

-- ---- a frame that begins

module _ {Parts Table State Call : Type 0} (agrees : Agreeing Table State) (setting : Table → Setting State Call) (table : Parts → Table) (stands : Parts → State → Type 0) (t : Table) where
  leads : (m : Moment State Call) (x : Origin Call) (level : ℕ) → after (setting t) m (beginning x level) ≡ record m { opens = opening (setting t) x level ∷ m.opens }
  leads m (Called c) level = refl
  leads m (Entered l) level = refl

  origin_is : (x : Origin Call) (level : ℕ) → (opening (setting t) x level).origin ≡ x
  origin_is (Called c) level = refl
  origin_is (Entered l) level = refl

  stands_begun : (x : Origin Call) (level : ℕ) (terms : Terms) → IsBegun (setting t) terms (opening (setting t) x level) → StandsFor (setting t) (fresh terms) (opening (setting t) x level)
  stands_begun (Called c) level terms h = begins (setting t) terms (Called c) (call_tag (setting t) c level) h
  stands_begun (Entered l) level terms h = begins (setting t) terms (Entered l) (line_tag (setting t) l) h

  -- what is kept of a frame that begins over those that are kept, in a moment that is served
  pub begun : (a b : Auditing Parts Call) (p : AuditState State Call) (x : Origin Call) (level : ℕ) (terms : Terms)
      → Stands agrees setting table stands t a p → AreGoing (setting t) p.moment.opens → IsBegun (setting t) terms (opening (setting t) x level)
      → b.chip ≡ a.chip → b.parts ≡ a.parts → b.outside ≡ a.outside → b.devices ≡ a.devices → b.tally ≡ a.tally → b.seen ≡ a.seen → b.frames ≡ fresh terms ∷ a.frames → b.origins ≡ x ∷ a.origins
      → Stands agrees setting table stands t b (record { moment = after (setting t) p.moment (beginning x level); frames = purpose_by terms.task ∷ p.frames; tally = p.tally })
  begun a b p x level terms s going new chip parts outside devices tally seen frames origins =
      subst (λ m. Stands agrees setting table stands t b (record { moment = m; frames = purpose_by terms.task ∷ p.frames; tally = p.tally })) (sym (leads p.moment x level))
      (record {
        kept_of = ap table parts ∙ s.kept_of;
        chip = chip ∙ s.chip;
        world = subst (λ o. IsWorld o p.moment.world) (sym outside) s.world;
        devices = s.devices ∙ ap (λ c. c.devices) (sym chip);
        hung = ap (λ c. c.devices) chip ∙ (s.hung ∙ sym devices);
        state = subst (λ y. stands y p.moment.state) (sym parts) s.state;
        frames = subst (λ ks. StandAll (setting t) ks (opening (setting t) x level ∷ p.moment.opens)) (sym frames) (stands_begun x level terms new, s.frames);
        origins = origins ∙ (ap (λ y. y ∷ a.origins) (sym (origin_is x level)) ∙ ap (λ ys. (opening (setting t) x level).origin ∷ ys) s.origins);
        going = going;
        purposes = ap (λ ys. purpose_by terms.task ∷ ys) s.purposes ∙ ap purposes_by (sym frames);
        tally = tally ∙ s.tally;
        seen = subst (λ x. IsSeen agrees setting t x p.moment.chip p.moment.world p.moment.state) (sym seen) s.seen;
      })

  -- what is answered of it, where the watchdog's time hasn't ended
  pub begun_judged : (a b c : Auditing Parts Call) (p : AuditState State Call) (x : Origin Call) (level : ℕ) (terms : Terms) (right : Bool)
      → Stands agrees setting table stands t a p → IsServed (setting t) p.moment → IsBegun (setting t) terms (opening (setting t) x level) → IsLegalDeed (setting t) p.moment (beginning x level)
      → ((setting t).machine.expires p.moment.world p.moment.state ≡ Some 0 → ⊥)
      → b.chip ≡ a.chip → b.parts ≡ a.parts → b.outside ≡ a.outside → b.devices ≡ a.devices → b.tally ≡ a.tally → b.seen ≡ a.seen → b.frames ≡ fresh terms ∷ a.frames → b.origins ≡ x ∷ a.origins
      → ((q : AuditState State Call) → Stands agrees setting table stands t b q → Decides right (IsServed (setting t) q.moment)) → ((q : AuditState State Call) → Stands agrees setting table stands t b q → Stands agrees setting table stands t c q)
      → Judges right (Comes (setting t) p.moment (beginning x level)) (Stands agrees setting table stands t c (record { moment = after (setting t) p.moment (beginning x level); frames = purpose_by terms.task ∷ p.frames; tally = p.tally }))
  begun_judged a b c p x level terms right s served new legal left chip parts outside devices tally seen frames origins law goes =
      let q : AuditState State Call = record { moment = after (setting t) p.moment (beginning x level); frames = purpose_by terms.task ∷ p.frames; tally = p.tally } in
      let kept : Stands agrees setting table stands t b q = begun a b p x level terms s served.going new chip parts outside devices tally seen frames origins in
      judged (setting t) p.moment (beginning x level) right (Stands agrees setting table stands t c q) (begins_in_time x level ((setting t).machine.expires p.moment.world p.moment.state) left) legal (law q kept) (goes q kept)

  -- ---- the hardware, and a reset

  -- the machine allows it, and what it keeps stands for the state after it
  pub record Allowed (m : Moment State Call) (h : machines.Happening Call) (b : Auditing Parts Call) : Type 0 where
    pub is : IsSome ((setting t).machine.happens m.world m.state h)
    pub kept : stands b.parts (state_by m.state ((setting t).machine.happens m.world m.state h))

  -- what comes of a deed that a machine always allows
  pub comes_allowed : (m : Moment State Call) (b : Auditing Parts Call) (h : machines.Happening Call) (out : Option (machines.Outcome State)) → out ≡ (setting t).machine.happens m.world m.state h
      → deeds.Comes (stands b.parts) machines.tells_nothing out → Allowed m h b
  comes_allowed m b h None e c = absurd c
  comes_allowed m b h (Some x) e c = record {
    is = subst IsSome e refl;
    kept = subst (λ y. stands b.parts (state_by m.state y)) e c.kept;
  }

  -- after the hardware moved, which leaves what it doesn't touch
  pub moved : ((a : Aspect) (x : Table) (chip : Chip) (w : World) (s : State) (order : Order) → is_touched a (by_order order) ≡ false → agrees a x chip w s
      → agrees a x (happened chip order) (world_after w ((setting x).machine.rate s) order) (state_by s ((setting x).machine.happens w s (machines.Moves order))))
      → ((x : Table) (w : World) (s : State) (n : ℕ) (u : Unit) → (setting x).machine.startable w s u ≡ false
      → (setting x).machine.startable (world_after w ((setting x).machine.rate s) (Tick n)) (state_by s ((setting x).machine.happens w s (machines.Moves (Tick n)))) u ≡ false)
      → (a b : Auditing Parts Call) (p : AuditState State Call) (order : Order) → Stands agrees setting table stands t a p → Allowed p.moment (machines.Moves order) b
      → table b.parts ≡ table a.parts → b.chip ≡ happened a.chip order → IsWorld b.outside (world_after p.moment.world ((setting t).machine.rate p.moment.state) order)
      → (world_after p.moment.world ((setting t).machine.rate p.moment.state) order).devices ≡ b.chip.devices → b.chip.devices ≡ b.devices
      → b.frames ≡ a.frames → b.origins ≡ a.origins → b.tally ≡ a.tally → b.seen ≡ moved_in order a.seen
      → Stands agrees setting table stands t b (moved_to (after (setting t) p.moment (Happens order)) p)
  moved law ticks a b p order s allowed same chip world devices hung frames origins tally seen = record {
    kept_of = same ∙ s.kept_of;
    chip = chip ∙ ap (λ c. happened c order) s.chip;
    world = world;
    devices = devices;
    hung = hung;
    state = allowed.kept;
    frames = subst (λ ks. StandAll (setting t) ks p.moment.opens) (sym frames) s.frames;
    origins = origins ∙ s.origins;
    going = s.going;
    purposes = s.purposes ∙ ap purposes_by (sym frames);
    tally = tally ∙ s.tally;
    seen = subst (λ x. IsSeen agrees setting t x (happened p.moment.chip order) (world_after p.moment.world ((setting t).machine.rate p.moment.state) order) (state_by p.moment.state ((setting t).machine.happens p.moment.world p.moment.state (machines.Moves order)))) (sym seen)
        (seen_moved agrees setting t law ticks a.seen p.moment.chip p.moment.world p.moment.state order s.seen);
  }

  -- after a reset
  pub was_reset : (a b : Auditing Parts Call) (p : AuditState State Call) (reason : Reason) → Stands agrees setting table stands t a p → Allowed p.moment (machines.Restarts reason) b
      → table b.parts ≡ table a.parts → b.chip ≡ reset_chip a.chip reason → IsWorld b.outside p.moment.world → b.devices ≡ a.devices → b.frames ≡ [] → b.origins ≡ [] → b.tally ≡ a.tally → b.seen ≡ nothing a.seen.used
      → Stands agrees setting table stands t b (restarted (setting t) p reason)
  was_reset a b p reason s allowed same chip world devices frames origins tally seen = record {
    kept_of = same ∙ s.kept_of;
    chip = chip ∙ ap (λ c. reset_chip c reason) s.chip;
    world = world;
    devices = s.devices ∙ ap (λ c. c.devices) (sym chip);
    hung = ap (λ c. c.devices) chip ∙ (s.hung ∙ sym devices);
    state = allowed.kept;
    frames = subst (λ ks. StandAll (setting t) ks []) (sym frames) tt;
    origins = origins;
    going = tt;
    purposes = ap purposes_by (sym frames);
    tally = tally ∙ s.tally;
    seen = subst (λ x. IsSeen agrees setting t x (reset_chip p.moment.chip reason) p.moment.world (state_by p.moment.state ((setting t).machine.happens p.moment.world p.moment.state (machines.Restarts reason)))) (sym seen)
        (seen_nothing agrees setting t a.seen.used _ _ _ s.seen.used);
  }

  -- what is answered of both, where they are in time
  pub moved_judged : (b c : Auditing Parts Call) (p : AuditState State Call) (order : Order) (right : Bool)
      → InTime {Call = Call} ((setting t).machine.expires p.moment.world p.moment.state) (Happens order) → hardware_held (setting t) p.moment order ≡ None
      → Moves (setting t) p.moment order (Stands agrees setting table stands t b (moved_to (after (setting t) p.moment (Happens order)) p))
      → ((q : AuditState State Call) → Stands agrees setting table stands t b q → Decides right (IsServed (setting t) q.moment)) → ((q : AuditState State Call) → Stands agrees setting table stands t b q → Stands agrees setting table stands t c q)
      → Judges right (Comes (setting t) p.moment (Happens order)) (Stands agrees setting table stands t c (moved_to (after (setting t) p.moment (Happens order)) p))
  moved_judged b c p order right time held moves law goes =
      let q : AuditState State Call = moved_to (after (setting t) p.moment (Happens order)) p in
      judged (setting t) p.moment (Happens order) right (Stands agrees setting table stands t c q) time (held, moves.0) (law q moves.1) (goes q moves.1)

  pub reset_judged : (a b c : Auditing Parts Call) (p : AuditState State Call) (reason : Reason) (right : Bool) → Stands agrees setting table stands t a p → Allowed p.moment (machines.Restarts reason) b
      → InTime {Call = Call} ((setting t).machine.expires p.moment.world p.moment.state) (Resets reason)
      → table b.parts ≡ table a.parts → b.chip ≡ reset_chip a.chip reason → IsWorld b.outside p.moment.world → b.devices ≡ a.devices → b.frames ≡ [] → b.origins ≡ [] → b.tally ≡ a.tally → b.seen ≡ nothing a.seen.used
      → ((q : AuditState State Call) → Stands agrees setting table stands t b q → Decides right (IsServed (setting t) q.moment)) → ((q : AuditState State Call) → Stands agrees setting table stands t b q → Stands agrees setting table stands t c q)
      → Judges right (Comes (setting t) p.moment (Resets reason)) (Stands agrees setting table stands t c (restarted (setting t) p reason))
  reset_judged a b c p reason right s allowed time same chip world devices frames origins tally seen law goes =
      let q : AuditState State Call = restarted (setting t) p reason in
      let kept : Stands agrees setting table stands t b q = was_reset a b p reason s allowed same chip world devices frames origins tally seen in
      judged (setting t) p.moment (Resets reason) right (Stands agrees setting table stands t c q) time allowed.is (law q kept) (goes q kept)
