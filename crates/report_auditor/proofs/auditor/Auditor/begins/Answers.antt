-- What begins is in time where the watchdog has left some, and then it is kept.
use Rattle.std.proofs.Common.{◌∷◌, map, ◌∙◌, ap}
use Rattle.std.proofs.lemmas.Bool.{OnTrue_at, OnTrue_from}
use Rattle.audit_frames.specs.FrameRules.{fresh}
use Rattle.audit_subject.specs.Origins.{origin_of}
use Rattle.report_auditor.proofs.DeedLaws.{begun_judged}
use Rattle.report_auditor.proofs.LeftLaws.{begins_before}
use Rattle.report_auditor.proofs.ServedParts.{fails, over_is}
use Rattle.report_auditor.proofs.SoundLaws.{begun_sound}
use Rattle.report_auditor.proofs.auditor.Auditor.begins.Goals as goal

pub returns-then-is_over-clause-comes : goal.returns-then-is_over-clause-comes
returns-then-is_over-clause-comes g c t p level stands served begun legal =
    let own = g.P.Subject.setting t in
    let x = origin_of c.args.origin in
    let over = over_is g.P.Whole.agrees g.P.Subject.setting g.P.Part.table g.P.Part.stands g.P.Part.member g.met.P.Subject.member_is t _ p stands c.is_over.result (c.is_over.ensures p.moment.world p.moment.state stands.world stands.state) in
    λ h. begins_before x level (own.machine.expires p.moment.world p.moment.state) h.time (over.says c.if-is_over.true)

pub returns-clause-comes : goal.returns-clause-comes
returns-clause-comes g c t p level stands served begun legal =
    let x = origin_of c.args.origin in
    let over = over_is g.P.Whole.agrees g.P.Subject.setting g.P.Part.table g.P.Part.stands g.P.Part.member g.met.P.Subject.member_is t _ p stands c.is_over.result (c.is_over.ensures p.moment.world p.moment.state stands.world stands.state) in
    begun_judged g.P.Whole.agrees g.P.Subject.setting g.P.Part.table g.P.Part.stands t c.args.self.now _ _ p x level c.args.terms c.is_served.result stands served begun legal (fails c.is_over.result over c.if-is_over.false)
    (ap (λ v. v.chip) c.self.view_is) (ap (λ v. v.parts) c.self.view_is) (ap (λ v. v.outside) c.self.view_is) (ap (λ v. v.devices) c.self.view_is) (ap (λ v. v.tally) c.self.view_is) (ap (λ v. v.seen) c.self.view_is)
    (c.in_ok-begin.ensures ∙ ap (λ v. fresh c.args.terms ∷ v.frames) c.self.view_is) (ap (λ xs. map origin_of xs) c.in_ok-keep_origin.ensures ∙ ap (λ v. x ∷ v.origins) c.self.view_is)
    (c.is_served.ensures.served t) (c.is_served.ensures.stands t)

pub returns-clause-ready : goal.returns-clause-ready
returns-clause-ready g c given ready =
    let x = origin_of c.args.origin in
    OnTrue_from c.is_served.result _ (λ e. record {
      sound = c.is_served.ensures.sound given (begun_sound g.P.Part.fits g.P.Whole.within given c.args.self.now _ c.args.terms x ready.sound c.requires.free (ap (λ v. v.chip) c.self.view_is) (ap (λ v. v.parts) c.self.view_is) (ap (λ v. v.outside) c.self.view_is)
          (c.in_ok-begin.ensures ∙ ap (λ v. fresh c.args.terms ∷ v.frames) c.self.view_is) (ap (λ xs. map origin_of xs) c.in_ok-keep_origin.ensures ∙ ap (λ v. x ∷ v.origins) c.self.view_is));
      rate = OnTrue_at e c.is_served.ensures.rate;
    })

pub is_served-requires-clause-fits : goal.is_served-requires-clause-fits
is_served-requires-clause-fits g c = let r = rw (← c.self.view_is) at c.requires.ready in r.sound.can_tell

pub is_served-requires-clause-within : goal.is_served-requires-clause-within
is_served-requires-clause-within g c = let r = rw (← c.self.view_is) at c.requires.ready in r.sound.in_limits
