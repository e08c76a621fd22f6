-- Nothing is asked with a frame under way.
use Rattle.std.proofs.Common.{sym, ◌∙◌, ap, option_copied}
use Rattle.report_auditor.proofs.ServedLaws.{rests, works}
use Rattle.report_auditor.proofs.auditor.Auditor.is_quiet_at_rest.Goals as goal

pub returns-in-Some : goal.returns-in-Some
returns-in-Some g c t p stands =
    let s = rw (← c.self.view_is) at stands in
    works (g.P.Subject.setting t) p.moment c.self.inside.frames _ p.moment.opens (ap option_copied (sym c.in-Some.is) ∙ c.top.ensures) s.frames

pub returns-in-None : goal.returns-in-None
returns-in-None g c t p stands =
    let s = rw (← c.self.view_is) at stands in
    rests (g.P.Subject.setting t) p.moment c.self.inside.frames p.moment.opens (ap option_copied (sym c.in-None.is) ∙ c.top.ensures) s.frames (c.is_quiet.ensures t p stands)
