-- What was looked at is known, and so is what was.
use Rattle.audit_whole.specs.declared.aspects.Aspect.TheVariants.{Ram, Results, Stamps}
use Rattle.report_auditor.proofs.SeenLaws.{seen_all}
use Rattle.report_auditor.proofs.auditor.Auditor.sees_open.Goals as goal

pub returns : goal.returns
returns g c t p stands =
    let s = rw (← c.self.view_is) at stands in
    seen_all g.P.Whole.agrees g.P.Subject.setting t _ p.moment.chip p.moment.world p.moment.state s.seen.used (c.due-due.ensures t p stands) s.seen.units
    (c.is_seen-outputs.ensures t p stands) (c.is_seen-pins.ensures t p stands) (s.seen.each Ram) (s.seen.each Stamps) (s.seen.each Results) (c.is_seen-arrays.ensures t p stands)
