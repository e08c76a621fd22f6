-- That no unit may start or abort is known, or they are asked.
use Rattle.std.proofs.lemmas.Bool.{OnTrue_at}
use Rattle.audit_frames.proofs.Deciding.{yes}
use Rattle.report_auditor.proofs.ServedParts.{units_by}
use Rattle.report_auditor.proofs.auditor.Auditor.units_rest.Goals as goal

pub returns-then-known : goal.returns-then-known
returns-then-known g c t p stands =
    let s = rw (← c.self.view_is) at stands in
    yes (OnTrue_at c.if-known.true s.seen.units)

pub returns : goal.returns
returns g c t p stands =
    let s = rw (← c.self.view_is) at stands in
    let fits = rw (← c.self.view_is) at c.requires.fits in
    units_by g.P.Whole.agrees g.P.Subject.setting g.P.Part.table g.P.Part.stands g.P.Part.member g.met.P.Subject.member_is t _ p s c.units_rest.result (c.units_rest.ensures p.moment.world p.moment.state s.world s.state)
