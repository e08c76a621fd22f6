-- An aspect is known, or it is looked at.
use Rattle.std.proofs.Common.{sym, ◌∙◌}
use Rattle.std.proofs.lemmas.Bool.{OnTrue_at}
use Rattle.report_auditor.proofs.ServedParts.{seen_in}
use Rattle.report_auditor.proofs.auditor.Auditor.is_seen.Goals as goal

pub returns-then-knows : goal.returns-then-knows
returns-then-knows g c t p stands =
    let s = rw (← c.self.view_is) at stands in
    OnTrue_at (sym c.knows.ensures ∙ c.if-knows.true) (s.seen.each c.args.aspect)

pub returns : goal.returns
returns g c t p stands =
    let s = rw (← c.self.view_is) at stands in
    let fits = rw (← c.self.view_is) at c.requires.fits in
    seen_in g.P.Whole.agrees g.P.Subject.setting g.P.Part.table g.P.Part.stands g.P.Part.member g.met.P.Subject.member_is t _ p s c.agrees_in.result c.args.aspect (c.agrees_in.ensures p.moment.world p.moment.state fits s.world s.state)
