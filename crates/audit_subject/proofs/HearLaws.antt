-- What a module says of a step is what the frame of the step is judged by.
use Rattle.std.proofs.Common.{◌≡◌, ℕ, ◌<◌, not, Option, Some, sym, ◌∙◌, ap, subst}
use Rattle.std.specs.Prelude.{length, option_map}
use Rattle.mcal_base.specs.Bits.{has_bit}
use Rattle.mcal_base.specs.Reach.{CanApply}
use Rattle.mcal_base.specs.declared.moves.Move.{Move}
use Rattle.run_model.specs.Frame as frame
use Rattle.run_model.specs.Frame.{Open, Origin, brought_by, happening_at, outcome_at, outcome_of, state_after, time_or}
use Rattle.run_model.specs.Machine.{Machine}
use Rattle.run_model.specs.Moment.{Moment, Setting}
use Rattle.run_model.specs.World.{World}
use Rattle.run_model.specs.declared.item.Stepped.{Stepped}
use Rattle.audit_base.specs.Deeds.{begun_of}
use Rattle.audit_base.specs.Outside.{AreTimes}
use Rattle.audit_base.specs.declared.done.Done.{Done}
use Rattle.audit_frames.proofs.AccessLaws.{committed_kept}
use Rattle.audit_frames.specs.FrameRules.{committed_at}
use Rattle.audit_frames.specs.Kept.{Kept}
use Rattle.audit_frames.specs.StandsFor.{StandsFor, kind_at, must_of}
use Rattle.audit_frames.specs.Told.{ArePolled, IsReported, IsTold, is_of_kind, step_of}
use Rattle.audit_frames.specs.declared.terms.Step.{Step}
use Rattle.audit_subject.proofs.LineMasks.{asked_line}
use Rattle.audit_subject.proofs.TellLaws.{begins, kept, time_of, told}
use Rattle.audit_subject.specs.Hearings.{Says, made_of}
use Rattle.audit_subject.specs.Lines.{lines_where}
use Rattle.audit_subject.specs.Tellings.{Came, times_at}
use Rattle.audit_subject.specs.declared.hearing.Heard.{Heard}

-- the times that an act brings are those that the frame keeps
pub times_brought : {State Call : Type 0} (g : Setting State Call) (k : Kept) (o : Open Call) (w : World) (made : Move) (now received : ℕ) → StandsFor g k o → CanApply made → w.now ≡ now
    → AreTimes (times_at (committed_at k made now) now) (brought_by w o.committed made received).committed
times_brought g k o w made now received stands can at c lt =
    sym (time_of (committed_at k made now) now c lt
    ∙ (ap (λ t. time_or now t) (committed_kept w k.accesses.committed o.committed made now c can stands.accesses.channels (sym at) stands.accesses.committed)
    ∙ ap (λ n. time_or n (frame.committed_after w o.committed made c)) (sym at)))

-- what a machine and a module say of a step
pub record Facts {State Call : Type 0} (mac : Machine State Call) (stands : State → Type 0) (m : Moment State Call) (o : Open Call) (s : Stepped) (asked : ℕ) (heard : Heard) (done : Done) : Type 0 where
  pub came : Came stands m.state s.event (Some done) (outcome_at mac m.world m.state o s.made s.received s.event)
  pub unready : heard.around.unready ≡ lines_where asked (λ l. not (mac.ready m.world m.state l))
  pub calm : heard.around.calm ≡ lines_where asked (λ l. not (mac.line_waits m.world (state_after mac m.world m.state o s.made s.received s.event) l))
  pub polled : ArePolled mac m.world m.state heard.polls o.origin
  pub reported : IsReported mac o.origin heard.told.error heard.around.reported
  pub told : heard.told ≡ done.told
  pub begins : heard.begins ≡ done.begins

-- what comes of the event, as the step of the run has it
pub came_at : {State Call : Type 0} (mac : Machine State Call) (stands : State → Type 0) (m : Moment State Call) (o : Open Call) (s : Stepped) (origin : Origin Call) (step : Step) (received : ℕ) (done : Option Done)
    → step ≡ step_of s → o.origin ≡ origin → s.received ≡ received
    → Came stands m.state step.event done (outcome_of mac m.world m.state (happening_at origin (brought_by m.world o.committed step.made received) step.event))
    → Came stands m.state s.event done (outcome_at mac m.world m.state o s.made s.received s.event)
came_at mac stands m o s origin step received done is begun came_in came =
    subst (λ r. Came stands m.state s.event done (outcome_at mac m.world m.state o s.made r s.event)) (sym came_in)
    (subst (λ y. Came stands m.state s.event done (outcome_of mac m.world m.state (happening_at y (brought_by m.world o.committed s.made received) s.event))) (sym begun)
    (subst (λ x. Came stands m.state x.event done (outcome_of mac m.world m.state (happening_at origin (brought_by m.world o.committed x.made received) x.event))) is came))

pub says : {State Call : Type 0} (g : Setting State Call) (stands : State → Type 0) (m : Moment State Call) (o : Open Call) (s : Stepped) (k : Kept) (heard : Heard) (done : Done)
    → StandsFor g k o → Facts g.machine stands m o s k.terms.asked heard done → heard.around.time ≡ m.world.now
    → ((i : ℕ) → i < length (must_of g o.origin) → has_bit heard.around.settles i ≡ is_of_kind (kind_at (must_of g o.origin) i) s.made)
    → Says g stands m o s k.terms.asked heard
says g stands m o s k heard done stood f now settles = record {
  around = record {
    told = subst (λ t. IsTold s.event t (made_of g m o s)) (sym f.told) (told stands m.state s.event done (made_of g m o s) f.came);
    polled = f.polled;
    now = now;
    unready = λ l on. ap (λ n. has_bit n l) f.unready ∙ asked_line k.terms.asked (λ l. not (g.machine.ready m.world m.state l)) l stood.begun.asked on;
    calm = λ l on. ap (λ n. has_bit n l) f.calm ∙ asked_line k.terms.asked (λ l. not (g.machine.line_waits m.world (state_after g.machine m.world m.state o s.made s.received s.event) l)) l stood.begun.asked on;
    settles = settles;
    reported = f.reported;
  };
  begins = ap (λ b. option_map begun_of b) f.begins ∙ begins stands m.state s.event done (made_of g m o s) f.came;
  kept = kept stands m.state s.event done (made_of g m o s) f.came;
}
