use Rattle.std.proofs.Common.{◌≡◌, ◌++◌, ◌∙◌, List, ℕ, ap}
use Rattle.bench_report.specs.Lines.{end_text}
use Rattle.report_text.proofs.Nexts.{ended_alone, ended_followed, ended_missing}
use Rattle.report_text.proofs.text.Report.end.Goals.{in-Some-empty, in-Some, in-None}
use Rattle.report_text.proofs.text.Report.end.Goals as goal

pub returns-clause-ending : goal.returns-clause-ending
returns-clause-ending c =
    let tally = c.args.tally.now in
    let printed : c.as_bytes.result.now ≡ end_text tally = c.as_bytes.ensures.value ∙ (c.in_ok-write.ensures.bytes ∙ ap (λ (bs : List ℕ). bs ++ end_text tally) c.clear.ensures.bytes) in
    elim c.match-behind.branch [
      | in-Some-empty w ↦ rw w.result-is (ended_alone tally _ _ _ _ c.self.view_is printed w.in-Some-empty.ensures.0 w.in-Some-empty.ensures.1 w.in-Some-empty.len_below)
      | in-Some w ↦ rw w.result-is (ended_followed tally _ _ _ _ c.self.view_is printed w.in-Some.ensures.0 w.in-Some.ensures.2 w.in-Some.len_at_least)
      | in-None w ↦ rw w.result-is (ended_missing tally _ _ _ c.self.view_is printed w.in-None.ensures)
    ]
