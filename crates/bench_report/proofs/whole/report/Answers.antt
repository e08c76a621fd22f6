use Rattle.std.specs.Prelude.{string_bytes}
use Rattle.std.proofs.lemmas.Result.{IfOk-weaker}
use Rattle.bench_report.proofs.Ends.{is_report, is_longer, shown_is_longer}
use Rattle.bench_report.proofs.whole.report.Goals as goal

pub returns-in_default-clause-too_long : goal.returns-in_default-clause-too_long
returns-in_default-clause-too_long c = λ shows k all e. shown_is_longer c.args.traced c.args.script.now c.args.journal.now.entries shows c.args.shown.now k c.in_default.ensures all

pub returns-in-Ok-clause-text : goal.returns-in-Ok-clause-text
returns-in-Ok-clause-text c = λ shows k.
    IfOk-weaker c.end.result _ _ (λ t e. is_report c.args.traced c.args.script.now c.args.journal.now.entries shows c.args.shown.now _ c.in-Ok.course (string_bytes t) k c.in-Some.ensures (rw (← c.lists.ensures.entries) c.in-Ok.ensures) e) c.end.ensures.text

pub returns-in-Ok-clause-too_long : goal.returns-in-Ok-clause-too_long
returns-in-Ok-clause-too_long c = λ shows k all e. is_longer c.args.traced c.args.script.now c.args.journal.now.entries shows c.args.shown.now _ c.in-Ok.course k c.in-Some.ensures (rw (← c.lists.ensures.entries) c.in-Ok.ensures) (c.end.ensures.too_long e)
