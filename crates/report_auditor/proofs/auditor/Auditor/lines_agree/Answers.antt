-- Each line that is due is pending, and each that is pending is used.
use Rattle.audit_frames.proofs.Deciding.{no, worded}
use Rattle.report_auditor.proofs.ServedParts.{all_due, fails, none_unused}
use Rattle.report_auditor.proofs.auditor.Auditor.lines_agree.Goals as goal

pub returns-then-not-includes : goal.returns-then-not-includes
returns-then-not-includes g c t p stands =
    let parts = c.args.self.now.parts in
    let d = all_due g.P.Whole.agrees g.P.Subject.setting g.P.Part.table g.P.Part.stands g.P.Part.member g.met.P.Subject.member_is t _ p stands c.args.pending c.requires.pending
    (λ l on. g.met.P.Whole.due_bounded parts p.moment.world p.moment.state l stands.state on) (λ l on. g.met.P.Whole.used_lines parts l on)
    c.includes.result c.due.result c.includes.ensures (c.due.ensures t p stands) in
    no (λ h. fails c.includes.result d c.if-not-includes.true h.due)

pub returns : goal.returns
returns g c t p stands =
    let i = c.self.inside in
    let s = rw (← c.self.view_is) at stands in
    let pending = rw (← c.self.view_is) at c.requires.pending in
    let d = all_due g.P.Whole.agrees g.P.Subject.setting g.P.Part.table g.P.Part.stands g.P.Part.member g.met.P.Subject.member_is t _ p s c.args.pending pending
    (λ l on. g.met.P.Whole.due_bounded i.parts p.moment.world p.moment.state l s.state on) (λ l on. g.met.P.Whole.used_lines i.parts l on)
    c.includes.result c.due.result c.includes.ensures (c.due.ensures t p stands) in
    let u = none_unused g.P.Whole.agrees g.P.Subject.setting g.P.Part.table g.P.Part.stands g.P.Part.member g.met.P.Subject.member_is t _ p s c.args.pending pending
    (λ l on. g.met.P.Whole.due_bounded i.parts p.moment.world p.moment.state l s.state on) (λ l on. g.met.P.Whole.used_lines i.parts l on)
    c.includes-2.result i.seen.used c.includes-2.ensures s.seen.used in
    worded (λ h. record { due = d.says c.if-not-includes.false; unused = h }) (λ h. h.unused) u
