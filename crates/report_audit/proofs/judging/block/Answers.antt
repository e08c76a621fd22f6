-- A block is right where its lines are and no more is left.
use Rattle.std.proofs.Common.{ap}
use Rattle.std.proofs.lemmas.Bool.{OnTrue_at, OnTrue_from}
use Rattle.report_auditor.specs.Auditing.{Stands}
use Rattle.report_text.specs.Unread.{Unread}
use Rattle.report_audit.proofs.BlockLaws.{block_right, block_wrong}
use Rattle.report_audit.proofs.judging.block.Goals as goal

pub obeys-requires-clause-ready : goal.obeys-requires-clause-ready
obeys-requires-clause-ready g c = c.requires.ready

pub obeys-requires-clause-table : goal.obeys-requires-clause-table
obeys-requires-clause-table g c = c.requires.table

pub obeys-requires-clause-number : goal.obeys-requires-clause-number
obeys-requires-clause-number g c = ap (λ (r : Unread). r.number) c.in-Ok.ensures

pub returns-then-not-right-clause-block : goal.returns-then-not-right-clause-block
returns-then-not-right-clause-block g c t p stands served =
    block_wrong (g.P.Subject.setting t) g.P.Whole.call_of (g.P.Whole.showing c.args.configuration.now) p c.args.directive.now (Stands g.P.Whole.agrees g.P.Subject.setting g.P.Part.table g.P.Part.stands t c.obeys.new.auditor) c.args.report.now c.obeys.new.report c.begin.new.self c.in-Ok.ensures c.in_ok-right.right c.if-not-right.true (c.in_ok-right.ensures.obeys t p stands served)

pub returns-clause-block : goal.returns-clause-block
returns-clause-block g c t p stands served =
    block_right (g.P.Subject.setting t) g.P.Whole.call_of (g.P.Whole.showing c.args.configuration.now) p c.args.directive.now (Stands g.P.Whole.agrees g.P.Subject.setting g.P.Part.table g.P.Part.stands t c.obeys.new.auditor) c.args.report.now c.obeys.new.report c.begin.new.self c.in-Ok.ensures c.in_ok-right.right c.if-not-right.false (c.in_ok-right.ensures.obeys t p stands served)
    (c.in_ok-right.ensures.on t p stands) c.block_is_over.result c.block_is_over.ensures

pub returns-clause-ready : goal.returns-clause-ready
returns-clause-ready g c given ready =
    OnTrue_from c.block_is_over.result _ (λ e. OnTrue_at c.if-not-right.false (c.in_ok-right.ensures.ready given ready))
