-- Each part of what rests is asked, or known.
use Rattle.std.proofs.Common.{sym, ◌∙◌}
use Rattle.audit_frames.proofs.Deciding.{no, yes}
use Rattle.report_auditor.proofs.ServedLaws.{quiet}
use Rattle.report_auditor.proofs.ServedParts.{fails, rest_by, rested}
use Rattle.report_auditor.proofs.auditor.Auditor.is_quiet.Goals as goal

pub returns-then-not-units_rest : goal.returns-then-not-units_rest
returns-then-not-units_rest g c t p stands =
    let units = c.units_rest.ensures t p stands in
    no (λ h. fails c.units_rest.result units c.if-not-units_rest.true h.units)

pub returns-then-not-has_due_lines : goal.returns-then-not-has_due_lines
returns-then-not-has_due_lines g c t p stands = no (λ h. fails c.has_due_lines.result (c.has_due_lines.ensures t p stands) c.if-not-has_due_lines.true h.lines)

pub returns-then-knows_rest : goal.returns-then-knows_rest
returns-then-knows_rest g c t p stands =
    let s = rw (← c.self.view_is) at stands in
    let units = c.units_rest.ensures t p stands in
    quiet (g.P.Subject.setting t) p.moment (units.says c.if-not-units_rest.false) ((c.has_due_lines.ensures t p stands).says c.if-not-has_due_lines.false)
    (yes (rested g.P.Whole.agrees g.P.Subject.setting g.P.Part.table g.P.Part.stands g.P.Part.member g.met.P.Subject.member_is t _ p s g.met.P.Whole.rests (sym c.knows_rest.ensures ∙ c.if-knows_rest.true)))

pub returns : goal.returns
returns g c t p stands =
    let s = rw (← c.self.view_is) at stands in
    let fits = rw (← c.self.view_is) at c.requires.fits in
    let units = c.units_rest.ensures t p stands in
    quiet (g.P.Subject.setting t) p.moment (units.says c.if-not-units_rest.false) ((c.has_due_lines.ensures t p stands).says c.if-not-has_due_lines.false)
    (rest_by g.P.Whole.agrees g.P.Subject.setting g.P.Part.table g.P.Part.stands g.P.Part.member g.met.P.Subject.member_is t _ p s c.agrees_at_rest.result (c.agrees_at_rest.ensures p.moment.world p.moment.state fits s.world s.state))
