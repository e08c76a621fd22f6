-- Rate and expiry are right where both are.
use Rattle.std.proofs.lemmas.Bool.{OnTrue_at, OnTrue_from}
use Rattle.audit_frames.proofs.Deciding.{no, worded}
use Rattle.report_auditor.proofs.ServedParts.{expiry_by, fails}
use Rattle.report_auditor.proofs.auditor.Auditor.keeps_time.Goals as goal

pub returns-then-not-keeps_rate-clause-time : goal.returns-then-not-keeps_rate-clause-time
returns-then-not-keeps_rate-clause-time g c t p stands = no (λ h. fails c.keeps_rate.result (c.keeps_rate.ensures.right t p stands) c.if-not-keeps_rate.true h.rate)

pub returns-clause-time : goal.returns-clause-time
returns-clause-time g c t p stands =
    let s = rw (← c.self.view_is) at stands in
    worded (λ h. record { rate = (c.keeps_rate.ensures.right t p stands).says c.if-not-keeps_rate.false; expiry = h }) (λ h. h.expiry)
    (expiry_by g.P.Whole.agrees g.P.Subject.setting g.P.Part.table g.P.Part.stands g.P.Part.member g.met.P.Subject.member_is t _ p s c.same_left.result c.expiry.result c.expires.result c.same_left.ensures c.expiry.ensures (c.expires.ensures p.moment.world p.moment.state s.world s.state))

pub returns-clause-rate : goal.returns-clause-rate
returns-clause-rate g c = OnTrue_from c.same_left.result _ (λ e. OnTrue_at c.if-not-keeps_rate.false c.keeps_rate.ensures.rate)
