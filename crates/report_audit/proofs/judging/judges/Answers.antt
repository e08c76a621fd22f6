-- From a first moment that is served it goes on, and else the first line is refused.
use Rattle.std.proofs.Common.{ℕ, ◌+◌, subst}
use Rattle.std.specs.Prelude.{IfOk}
use Rattle.std.proofs.lemmas.Bool.{OnTrue_at}
use Rattle.report_text.specs.reading.Audits.{Audits}
use Rattle.script_runner.specs.Scripts.{words_given}
use Rattle.trace_reader.specs.Reading.{parts_of}
use Rattle.report_auditor.proofs.ServedParts.{fails}
use Rattle.report_audit.proofs.JudgeLaws.{unserved}
use Rattle.report_audit.proofs.judging.judges.Goals as goal

pub is_served-requires-clause-fits : goal.is_served-requires-clause-fits
is_served-requires-clause-fits g c = c.requires.sound.can_tell

pub is_served-requires-clause-within : goal.is_served-requires-clause-within
is_served-requires-clause-within g c = c.requires.sound.in_limits

pub judges_on-requires-clause-ready : goal.judges_on-requires-clause-ready
judges_on-requires-clause-ready g c = record { sound = c.is_served.ensures.sound (words_given c.args.script.now) c.requires.sound; rate = OnTrue_at c.if-is_served.true c.is_served.ensures.rate }

pub judges_on-requires-clause-stands : goal.judges_on-requires-clause-stands
judges_on-requires-clause-stands g c =
    let t = g.P.Whole.table_of c.args.configuration.now in
    let at = c.requires.stands in
    record { place = at.place; kept = c.is_served.ensures.stands t at.place at.kept; served = (c.is_served.ensures.served t at.place at.kept).says c.if-is_served.true }

pub returns-then-is_served : goal.returns-then-is_served
returns-then-is_served g c p stands =
    subst (λ (n : ℕ). IfOk c.judges_on.result (λ verdict. Audits (g.P.Subject.setting (g.P.Whole.table_of c.args.configuration.now)) g.P.Whole.call_of (g.P.Whole.showing c.args.configuration.now) p c.args.script.now (n + 1) (parts_of c.args.report.now.left) verdict)) c.requires.first
    (c.judges_on.ensures p (c.is_served.ensures.stands (g.P.Whole.table_of c.args.configuration.now) p stands) ((c.is_served.ensures.served (g.P.Whole.table_of c.args.configuration.now) p stands).says c.if-is_served.true))

pub returns-else-is_served : goal.returns-else-is_served
returns-else-is_served g c p stands = unserved (g.P.Subject.setting (g.P.Whole.table_of c.args.configuration.now)) g.P.Whole.call_of (g.P.Whole.showing c.args.configuration.now) p c.args.script.now 1 (parts_of c.args.report.now.left) (fails c.is_served.result (c.is_served.ensures.served (g.P.Whole.table_of c.args.configuration.now) p stands) c.if-is_served.false)
