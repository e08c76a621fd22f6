use Rattle.std.proofs.Common.{◌∙◌, List, ap}
use Rattle.std.proofs.lemmas.Result.{IfOk-weaker}
use Rattle.run_model.specs.Entry.{Entry}
use Rattle.bench_report.specs.Lines.{end_text}
use Rattle.bench_report.specs.declared.tally.Tally.{Tally}
use Rattle.report_end.specs.Counts.{beginning, script_counted}
use Rattle.report_end.proofs.Told.{end_is}
use Rattle.report_end.proofs.ending.end_line.Goals as goal

pub returns : goal.returns
returns c = λ shows.
    IfOk-weaker c.format.result _ _ (λ text is.
    is
    ∙ ap (λ (t : Tally). end_text t) c.in_ok-tally.ensures
    ∙ ap (λ (es : List Entry). end_text (script_counted beginning c.args.script.now es).tally) c.lists.ensures.entries
    ∙ end_is c.args.script.now c.args.journal.now.entries shows) c.format.ensures.ok
