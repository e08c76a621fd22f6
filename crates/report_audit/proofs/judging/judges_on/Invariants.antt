-- What is left of the script is audited from where it has come.
use Rattle.std.proofs.Common.{drop}
use Rattle.run_model.specs.Legal.{IsServed}
use Rattle.script_runner.specs.Scripts.{words_given}
use Rattle.report_text.specs.reading.Blocks.{AuditState}
use Rattle.report_auditor.specs.Auditing.{IsReady, Stands}
use Rattle.report_audit.specs.Obeying.{CanObeyAll, ComesTo}
use Rattle.report_audit.proofs.judging.judges_on.Given as goal

abbrev pub invariant-loop-directive : goal.invariant-loop-directive
invariant-loop-directive g l = record {
  ready : IsReady g.P.Part.fits g.P.Whole.within g.P.Part.ticks (words_given (drop l.directive-index l.script)) l.auditor;
  can : CanObeyAll g.P.Whole.has_service (drop l.directive-index l.script);
  comes : (p : AuditState g.row.P-State.Denot g.row.P-Call.Denot) → Stands g.P.Whole.agrees g.P.Subject.setting g.P.Part.table g.P.Part.stands (g.P.Whole.table_of l.configuration) l.fn.auditor p → IsServed (g.P.Subject.setting (g.P.Whole.table_of l.configuration)) p.moment →
      ComesTo (g.P.Subject.setting (g.P.Whole.table_of l.configuration)) g.P.Whole.call_of (g.P.Whole.showing l.configuration) (Stands g.P.Whole.agrees g.P.Subject.setting g.P.Part.table g.P.Part.stands (g.P.Whole.table_of l.configuration) l.auditor) p l.script l.fn.report (drop l.directive-index l.script) l.report;
}
