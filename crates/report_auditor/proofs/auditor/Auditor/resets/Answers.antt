-- A reset that is in time comes, and no frame is left.
use Rattle.std.proofs.Common.{◌≡◌, map, ◌∙◌, ap, subst}
use Rattle.std.proofs.lemmas.Bool.{OnTrue_at, OnTrue_from}
use Rattle.chip_model.specs.Chip.{reset_chip}
use Rattle.run_model.specs.Legal.{InTime}
use Rattle.report_auditor.specs.Seeing.{nothing}
use Rattle.run_model.specs.Machine as machines
use Rattle.run_model.specs.Moment.{Resets}
use Rattle.audit_frames.specs.Decides.{Decides}
use Rattle.audit_subject.specs.Origins.{origin_of}
use Rattle.report_auditor.proofs.DeedLaws.{comes_allowed, reset_judged}
use Rattle.report_auditor.proofs.ServedParts.{fails, machine_is}
use Rattle.report_auditor.proofs.SoundLaws.{reset_sound}
use Rattle.report_auditor.proofs.auditor.Auditor.resets.Goals as goal

pub returns-then-not-may_reset-clause-comes : goal.returns-then-not-may_reset-clause-comes
returns-then-not-may_reset-clause-comes g c t p stands served =
    let time = subst (λ mac. Decides c.may_reset.result (InTime {Call = g.row.P-Call.Denot} (mac.expires p.moment.world p.moment.state) (Resets c.args.reason))) (machine_is g.P.Whole.agrees g.P.Subject.setting g.P.Part.table g.P.Part.stands g.P.Part.member g.met.P.Subject.member_is t _ p stands) (c.may_reset.ensures p.moment.world p.moment.state stands.world stands.state) in
    λ h. fails c.may_reset.result time c.if-not-may_reset.true h.time

pub reset-requires-2 : goal.reset-requires-2
reset-requires-2 g c = let r = rw (← c.self.view_is) at c.requires.ready in record { fits = r.sound.can_tell }

pub count-requires : goal.count-requires
count-requires g c = let h = rw (← c.self.view_is) at (OnTrue_at c.if-not-has_time.false c.has_time.ensures) in h.told

pub is_served-requires-clause-fits : goal.is_served-requires-clause-fits
is_served-requires-clause-fits g c = c.reset-2.ensures.fits c.count.new.self c.count.ensures.after

pub is_served-requires-clause-within : goal.is_served-requires-clause-within
is_served-requires-clause-within g c = let r = rw (← c.self.view_is) at c.requires.ready in g.met.P.Whole.stays c.self.inside.parts c.reset-2.new.self c.reset-2.ensures.table r.sound.in_limits

pub returns-clause-comes : goal.returns-clause-comes
returns-clause-comes g c t p stands served =
    let s = rw (← c.self.view_is) at stands in
    let reason = c.args.reason in
    let m = p.moment in
    let mac = (g.P.Part.member (g.P.Part.table c.self.inside.parts)).machine in
    let own = g.P.Subject.setting t in
    let is : mac ≡ own.machine = machine_is g.P.Whole.agrees g.P.Subject.setting g.P.Part.table g.P.Part.stands g.P.Part.member g.met.P.Subject.member_is t _ p s in
    let time = subst (λ x. Decides c.may_reset.result (InTime {Call = g.row.P-Call.Denot} (x.expires m.world m.state) (Resets reason))) (machine_is g.P.Whole.agrees g.P.Subject.setting g.P.Part.table g.P.Part.stands g.P.Part.member g.met.P.Subject.member_is t _ p stands) (c.may_reset.ensures m.world m.state stands.world stands.state) in
    let allowed = comes_allowed g.P.Whole.agrees g.P.Subject.setting g.P.Part.table g.P.Part.stands t m _ (machines.Restarts reason) (mac.happens m.world m.state (machines.Restarts reason)) (ap (λ x. x.happens m.world m.state (machines.Restarts reason)) is) (c.reset-2.ensures.comes m.world m.state s.state) in
    reset_judged g.P.Whole.agrees g.P.Subject.setting g.P.Part.table g.P.Part.stands t c.args.self.now _ _ p reason c.is_served.result stands allowed (time.says c.if-not-may_reset.false)
    (c.reset-2.ensures.table ∙ ap (λ v. g.P.Part.table v.parts) c.self.view_is) (c.reset.ensures ∙ ap (λ v. reset_chip v.chip reason) c.self.view_is)
    (c.count.ensures.world m.world s.world) (ap (λ v. v.devices) c.self.view_is) c.clear.ensures (ap (λ xs. map origin_of xs) c.clear-2.ensures.items) (ap (λ v. v.tally) c.self.view_is) (c.nothing-self-inside.ensures ∙ ap (λ v. nothing v.seen.used) c.self.view_is)
    (c.is_served.ensures.served t) (c.is_served.ensures.stands t)

pub returns-clause-ready : goal.returns-clause-ready
returns-clause-ready g c given ready =
    let r = rw (← c.self.view_is) at ready in
    let reason = c.args.reason in
    OnTrue_from c.is_served.result _ (λ e. record {
      sound = c.is_served.ensures.sound given (reset_sound g.P.Part.fits g.P.Whole.within given c.args.self.now _ reason ready.sound (c.reset-2.ensures.fits c.count.new.self c.count.ensures.after)
          (g.met.P.Whole.stays c.self.inside.parts c.reset-2.new.self c.reset-2.ensures.table r.sound.in_limits) (c.reset.ensures ∙ ap (λ v. reset_chip v.chip reason) c.self.view_is)
          (λ w at. c.count.ensures.world w (rw (← c.self.view_is) at at)) c.clear.ensures (ap (λ xs. map origin_of xs) c.clear-2.ensures.items));
      rate = OnTrue_at e c.is_served.ensures.rate;
    })
