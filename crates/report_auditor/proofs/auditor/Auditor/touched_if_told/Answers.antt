-- What the event touches, where one stands there.
use Rattle.std.proofs.Common.{Some, sym, ◌∙◌, ap}
use Rattle.report_auditor.specs.Seeing.{touched_if_told}
use Rattle.report_auditor.proofs.auditor.Auditor.touched_if_told.Goals as goal

pub returns-in-Some : goal.returns-in-Some
returns-in-Some g c x xs is = ap (λ y. Some y) (c.touched_by.ensures x xs is) ∙ ap (λ e. touched_if_told (g.P.Subject.setting (g.P.Part.table c.args.self.now.parts)) x e) (sym c.in-Some.is)
