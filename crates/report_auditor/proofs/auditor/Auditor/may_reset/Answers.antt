-- The watchdog's own reset may always come.
use Rattle.std.proofs.Common.{true, sym, subst}
use Rattle.run_model.specs.Legal.{InTime}
use Rattle.run_model.specs.Moment.{Resets}
use Rattle.audit_frames.specs.Decides.{Decides}
use Rattle.audit_frames.proofs.Deciding.{yes}
use Rattle.report_auditor.proofs.LeftLaws.{reset_in_time, watchdog_in_time}
use Rattle.report_auditor.proofs.auditor.Auditor.may_reset.Goals as goal

pub returns-in-Watchdog : goal.returns-in-Watchdog
returns-in-Watchdog g c w s at stands =
    let left = (g.P.Part.member (g.P.Part.table c.args.self.now.parts)).machine.expires w s in
    subst (λ r. Decides true (InTime {Call = g.row.P-Call.Denot} left (Resets r))) (sym c.in-Watchdog.is) (yes (watchdog_in_time g.row.P-Call.Denot left))

pub returns-in_default : goal.returns-in_default
returns-in_default g c w s at stands =
    let left = (g.P.Part.member (g.P.Part.table c.args.self.now.parts)).machine.expires w s in
    reset_in_time g.row.P-Call.Denot c.is_over.result c.args.reason left c.in_default.not-Watchdog (c.is_over.ensures w s at stands)
