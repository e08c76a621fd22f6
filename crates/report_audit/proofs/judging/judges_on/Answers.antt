-- A report is judged block by block, and then its last line.
use Rattle.std.proofs.Common.{◌+◌, [], ◌∷◌, ◌∙◌, ap, drop, arith}
use Rattle.std.proofs.lemmas.Bool.{OnTrue_at}
use Rattle.std.proofs.lemmas.Result.{IfOk-weaker}
use Rattle.script_runner.specs.Scripts.{words_given}
use Rattle.script_runner.specs.Standing.{words_by}
use Rattle.report_auditor.specs.Auditing.{Stands}
use Rattle.report_audit.proofs.JudgeLaws.{can_next, comes_as, drop_next, ended, goes_on_right, none_left, refused_at, starts, words_next}
use Rattle.report_audit.proofs.TakeLaws.{fewer_is, same_ready}
use Rattle.report_audit.proofs.judging.judges_on.Goals as goal

pub block-requires-clause-ready : goal.block-requires-clause-ready
block-requires-clause-ready g c =
    let left = drop_next c.args.script.now c.loop-directive.directive-index c.directive-item.result (omega arith) c.directive-item.is in
    fewer_is g.P.Part.fits g.P.Whole.within g.P.Part.ticks _ (words_by c.directive-item.result.order) (words_given (drop (c.loop-directive.directive-index + 1) c.args.script.now)) c.loop-directive.auditor (words_next (drop c.loop-directive.directive-index c.args.script.now) (drop (c.loop-directive.directive-index + 1) c.args.script.now) c.directive-item.result left) c.loop-directive.invariant.ready

pub block-requires-clause-table : goal.block-requires-clause-table
block-requires-clause-table g c = let at = c.loop-directive.invariant.comes c.requires.stands.place c.requires.stands.kept c.requires.stands.served in at.stands.kept_of

pub block-requires-clause-can : goal.block-requires-clause-can
block-requires-clause-can g c =
    let left = drop_next c.args.script.now c.loop-directive.directive-index c.directive-item.result (omega arith) c.directive-item.is in
    (can_next g.P.Whole.has_service (drop c.loop-directive.directive-index c.args.script.now) (drop (c.loop-directive.directive-index + 1) c.args.script.now) c.directive-item.result left c.loop-directive.invariant.can).0

pub loop-directive-init : goal.loop-directive-init
loop-directive-init g c = record {
  ready = c.requires.ready;
  can = c.requires.can;
  comes = λ p stands served. starts (g.P.Subject.setting (g.P.Whole.table_of c.args.configuration.now)) g.P.Whole.call_of (g.P.Whole.showing c.args.configuration.now) p c.args.script.now c.args.report.now (Stands g.P.Whole.agrees g.P.Subject.setting g.P.Part.table g.P.Part.stands (g.P.Whole.table_of c.args.configuration.now) c.args.auditor.now) stands served;
}

pub loop-directive-preserved : goal.loop-directive-preserved
loop-directive-preserved g c =
    let left = drop_next c.args.script.now c.loop-directive.directive-index c.directive-item.result (omega arith) c.directive-item.is in
    let more = drop (c.loop-directive.directive-index + 1) c.args.script.now in
    let words = words_next (drop c.loop-directive.directive-index c.args.script.now) more c.directive-item.result left in
    record {
      ready = OnTrue_at c.if-not-right.false (c.in_ok-right.ensures.ready (words_given more) (same_ready g.P.Part.fits g.P.Whole.within g.P.Part.ticks _ _ c.loop-directive.auditor words c.loop-directive.invariant.ready));
      can = (can_next g.P.Whole.has_service (drop c.loop-directive.directive-index c.args.script.now) more c.directive-item.result left c.loop-directive.invariant.can).1;
      comes = λ p stands served.
          let at = comes_as (g.P.Subject.setting (g.P.Whole.table_of c.args.configuration.now)) g.P.Whole.call_of (g.P.Whole.showing c.args.configuration.now) p c.args.script.now c.args.report.now (Stands g.P.Whole.agrees g.P.Subject.setting g.P.Part.table g.P.Part.stands (g.P.Whole.table_of c.args.configuration.now) c.loop-directive.auditor) (drop c.loop-directive.directive-index c.args.script.now) (c.directive-item.result ∷ more) c.loop-directive.report left (c.loop-directive.invariant.comes p stands served) in
          goes_on_right (g.P.Subject.setting (g.P.Whole.table_of c.args.configuration.now)) g.P.Whole.call_of (g.P.Whole.showing c.args.configuration.now) p c.args.script.now c.args.report.now (Stands g.P.Whole.agrees g.P.Subject.setting g.P.Part.table g.P.Part.stands (g.P.Whole.table_of c.args.configuration.now) c.loop-directive.auditor) (Stands g.P.Whole.agrees g.P.Subject.setting g.P.Part.table g.P.Part.stands (g.P.Whole.table_of c.args.configuration.now) c.block.new.auditor) c.directive-item.result more c.loop-directive.report c.block.new.report at c.in_ok-right.right c.if-not-right.false
          (c.in_ok-right.ensures.block (g.P.Whole.table_of c.args.configuration.now) at.place at.stands at.served);
    }

pub returns-then-not-right : goal.returns-then-not-right
returns-then-not-right g c p stands served =
    let left = drop_next c.args.script.now c.loop-directive.directive-index c.directive-item.result (omega arith) c.directive-item.is in
    let more = drop (c.loop-directive.directive-index + 1) c.args.script.now in
    let at = comes_as (g.P.Subject.setting (g.P.Whole.table_of c.args.configuration.now)) g.P.Whole.call_of (g.P.Whole.showing c.args.configuration.now) p c.args.script.now c.args.report.now (Stands g.P.Whole.agrees g.P.Subject.setting g.P.Part.table g.P.Part.stands (g.P.Whole.table_of c.args.configuration.now) c.loop-directive.auditor) (drop c.loop-directive.directive-index c.args.script.now) (c.directive-item.result ∷ more) c.loop-directive.report left (c.loop-directive.invariant.comes p stands served) in
    refused_at (g.P.Subject.setting (g.P.Whole.table_of c.args.configuration.now)) g.P.Whole.call_of (g.P.Whole.showing c.args.configuration.now) p c.args.script.now c.args.report.now (Stands g.P.Whole.agrees g.P.Subject.setting g.P.Part.table g.P.Part.stands (g.P.Whole.table_of c.args.configuration.now) c.loop-directive.auditor) (Stands g.P.Whole.agrees g.P.Subject.setting g.P.Part.table g.P.Part.stands (g.P.Whole.table_of c.args.configuration.now) c.block.new.auditor) c.directive-item.result more c.loop-directive.report c.block.new.report at c.in_ok-right.right c.if-not-right.true
    (c.in_ok-right.ensures.block (g.P.Whole.table_of c.args.configuration.now) at.place at.stands at.served) c.next_line-line.result c.next_line-line.ensures

pub returns : goal.returns
returns g c p stands served =
    let came = comes_as (g.P.Subject.setting (g.P.Whole.table_of c.args.configuration.now)) g.P.Whole.call_of (g.P.Whole.showing c.args.configuration.now) p c.args.script.now c.args.report.now (Stands g.P.Whole.agrees g.P.Subject.setting g.P.Part.table g.P.Part.stands (g.P.Whole.table_of c.args.configuration.now) c.loop-directive.auditor) (drop c.loop-directive.directive-index c.args.script.now) [] c.loop-directive.report (none_left c.args.script.now c.loop-directive.directive-index (omega arith)) (c.loop-directive.invariant.comes p stands served) in
    IfOk-weaker c.verdict.result _ _ (λ verdict h. ended (g.P.Subject.setting (g.P.Whole.table_of c.args.configuration.now)) g.P.Whole.call_of (g.P.Whole.showing c.args.configuration.now) p c.args.script.now c.args.report.now (Stands g.P.Whole.agrees g.P.Subject.setting g.P.Part.table g.P.Part.stands (g.P.Whole.table_of c.args.configuration.now) c.loop-directive.auditor) c.loop-directive.report came c.in-Ok.ending verdict _ c.next_line-last.result h (ap (λ a. a.tally) c.auditor.view_is ∙ came.stands.tally) c.in-Ok.ensures.ending c.next_line-last.ensures) c.verdict.ensures
