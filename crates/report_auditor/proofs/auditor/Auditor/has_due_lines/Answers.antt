-- The mask of what is pending is that of what is due.
use Rattle.report_auditor.proofs.ServedParts.{quiet_lines}
use Rattle.report_auditor.proofs.auditor.Auditor.has_due_lines.Goals as goal

pub returns : goal.returns
returns g c t p stands =
    let parts = c.args.self.now.parts in
    quiet_lines g.P.Whole.agrees g.P.Subject.setting g.P.Part.table g.P.Part.stands g.P.Part.member g.met.P.Subject.member_is t _ p stands c.args.pending c.requires.pending
    (λ l on. g.met.P.Whole.due_bounded parts p.moment.world p.moment.state l stands.state on) (λ l on. g.met.P.Whole.used_lines parts l on)
    c.due-due.result (c.due-due.ensures t p stands)
