-- All was looked at that wasn't known.
use Rattle.std.proofs.lemmas.Bool.{OnTrue_from}
use Rattle.report_auditor.proofs.SeenLaws.{seen_all}
use Rattle.report_auditor.proofs.auditor.Auditor.sees_all.Goals as goal

pub returns : goal.returns
returns g c t p stands =
    let s = rw (← c.self.view_is) at stands in
    seen_all g.P.Whole.agrees g.P.Subject.setting t _ p.moment.chip p.moment.world p.moment.state s.seen.used (c.due-due.ensures t p stands) (OnTrue_from c.units_rest-units.result _ (c.units_rest-units.ensures t p stands).says)
    (c.is_seen-outputs.ensures t p stands) (c.is_seen-pins.ensures t p stands) (c.is_seen-ram.ensures t p stands) (c.is_seen-stamps.ensures t p stands) (c.is_seen-results.ensures t p stands) (c.is_seen-arrays.ensures t p stands)
