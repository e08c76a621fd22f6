-- What is said of a step is what the machine and the module say of it.
use Rattle.std.proofs.Common.{◌≡◌, ℕ, ◌<◌, not, refl, sym, ◌∙◌, ap, subst, Some, None}
use Rattle.std.specs.Prelude.{length, IsSome}
use Rattle.mcal_base.specs.Bits.{has_bit}
use Rattle.run_model.specs.Frame.{brought_by, happening_at, outcome_at, outcome_of, state_after}
use Rattle.audit_base.specs.declared.done.Done.{Done}
use Rattle.audit_frames.specs.StandsFor.{kind_at, must_of}
use Rattle.audit_frames.specs.Told.{ArePolled, IsReported, is_of_kind}
use Rattle.audit_frames.specs.declared.terms.Around.{Around}
use Rattle.audit_subject.specs.Lines.{lines_where}
use Rattle.audit_subject.specs.Origins.{origin_of}
use Rattle.audit_subject.specs.Tellings.{Came, done_in}
use Rattle.audit_subject.specs.declared.hearing.Heard.{Heard}
use Rattle.audit_subject.proofs.HearLaws.{Facts, came_at, says, times_brought}
use Rattle.audit_subject.proofs.TellLaws.{kept, refused}
use Rattle.audit_subject.proofs.hearing.hear.Goals as goal

pub returns-clause-hears : goal.returns-clause-hears
returns-clause-hears g c m o s at stands origin stood step received =
    let t = g.S.Part.table c.args.subject.now in
    let mac = (g.S.Part.member t).machine in
    let own = g.S.Subject.setting t in
    let k = c.args.frame.now in
    let x = c.args.step.now in
    let p = g.S.Part.stands c.tell.new.part in
    let done : Done = record { told = c.tell.new.heard.told; begins = c.tell.new.heard.begins } in
    let begun = origin_of c.args.origin.now in
    let out = outcome_at mac m.world m.state o s.made s.received s.event in
    let later = state_after mac m.world m.state o s.made s.received s.event in
    let same : mac ≡ own.machine = sym (ap (λ y. y.machine) (g.met.S.Subject.member_is t)) in
    let times = times_brought own k o m.world x.made c.args.outside.now.time c.args.received stood c.requires.there at.now in
    let told = subst (λ b. Came p m.state x.event (done_in b c.tell.new.heard) (outcome_of mac m.world m.state (happening_at begun (brought_by m.world o.committed x.made c.args.received) x.event))) c.if-not-allowed.false
    (c.in_ok-allowed.ensures.came m.world m.state (brought_by m.world o.committed x.made c.args.received).committed at times stands) in
    let came = came_at mac p m o s begun x c.args.received (Some done) step origin received told in
    let after = c.in_ok-allowed.ensures.fits c.count.new.self c.count.ensures.after in
    let calm = subst (λ y. c.calm.result ≡ lines_where c.terms.result.now.asked (λ l. not ((g.S.Part.member y).machine.line_waits m.world later l))) c.in_ok-allowed.ensures.table
    (c.calm.ensures m.world later after (c.count.ensures.world m.world at) (kept p m.state s.event done out came)) in
    let reported = subst (λ y. IsReported (g.S.Part.member y).machine begun c.error.result c.reported_of.result) c.in_ok-allowed.ensures.table c.reported_of.ensures in
    let around : Around = record { time = c.args.outside.now.time; unready = c.unready-unready.result; calm = c.calm.result; settles = c.settles_of-settles.result; reported = c.reported_of.result } in
    let heard : Heard = record { told = done.told; begins = done.begins; polls = c.polls_of-polls.result; around = around } in
    let facts : Facts mac p m o s k.terms.asked heard done = record {
      came = came;
      unready = c.unready-unready.ensures m.world m.state c.requires.fits at stands ∙ ap (λ terms. lines_where terms.asked (λ l. not (mac.ready m.world m.state l))) c.terms.ensures;
      calm = subst (λ terms. c.calm.result ≡ lines_where terms.asked (λ l. not (mac.line_waits m.world later l))) c.terms.ensures calm;
      polled = subst (λ y. ArePolled mac m.world m.state c.polls_of-polls.result y) (sym origin) (c.polls_of-polls.ensures m.world m.state stands);
      reported = subst (λ y. IsReported mac y done.told.error c.reported_of.result) (sym origin) (subst (λ e. IsReported mac begun e c.reported_of.result) c.error.ensures reported);
      told = refl;
      begins = refl;
    } in
    says own p m o s k heard done stood (subst (λ y. Facts y p m o s k.terms.asked heard done) same facts) (sym at.now)
    (subst (λ z. (i : ℕ) → i < length (must_of own o.origin) → has_bit c.settles_of-settles.result i ≡ is_of_kind (kind_at (must_of own o.origin) i) z.made) step
    (subst (λ y. (i : ℕ) → i < length (must_of own y) → has_bit c.settles_of-settles.result i ≡ is_of_kind (kind_at (must_of own y) i) x.made) (sym origin) c.settles_of-settles.ensures))

pub returns-then-not-allowed-clause-hears : goal.returns-then-not-allowed-clause-hears
returns-then-not-allowed-clause-hears g c m o s at stands origin stood step received =
    let t = g.S.Part.table c.args.subject.now in
    let mac = (g.S.Part.member t).machine in
    let own = g.S.Subject.setting t in
    let x = c.args.step.now in
    let p = g.S.Part.stands c.tell.new.part in
    let begun = origin_of c.args.origin.now in
    let same : mac ≡ own.machine = sym (ap (λ y. y.machine) (g.met.S.Subject.member_is t)) in
    let times = times_brought own c.args.frame.now o m.world x.made c.args.outside.now.time c.args.received stood c.requires.there at.now in
    let told = subst (λ b. Came p m.state x.event (done_in b c.tell.new.heard) (outcome_of mac m.world m.state (happening_at begun (brought_by m.world o.committed x.made c.args.received) x.event))) c.if-not-allowed.true
    (c.in_ok-allowed.ensures.came m.world m.state (brought_by m.world o.committed x.made c.args.received).committed at times stands) in
    subst (λ y. IsSome s.event × (outcome_at y m.world m.state o s.made s.received s.event ≡ None) × p m.state) same
    (refused p m.state s.event (outcome_at mac m.world m.state o s.made s.received s.event) (came_at mac p m o s begun x c.args.received None step origin received told))

pub returns-clause-fits : goal.returns-clause-fits
returns-clause-fits g c = c.in_ok-allowed.ensures.fits c.count.new.self c.count.ensures.after

pub returns-then-not-allowed-clause-fits : goal.returns-then-not-allowed-clause-fits
returns-then-not-allowed-clause-fits g c = c.in_ok-allowed.ensures.fits c.count.new.self c.count.ensures.after
