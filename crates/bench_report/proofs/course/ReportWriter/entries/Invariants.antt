use Rattle.std.proofs.Common.{◌≡◌, length}
use Rattle.run_model.specs.Packing.{entries_in}
use Rattle.bench_report.specs.Report.{own_entries, later_entries}
use Rattle.bench_report.specs.Pages.{entries_put}
use Rattle.bench_report.proofs.course.ReportWriter.entries.Given as goal

abbrev pub invariant-loop-rest : goal.invariant-loop-rest
invariant-loop-rest l = record {
  put : entries_put l.traced l.directive l.self (own_entries l.directive.line (entries_in l.lists l.rest)) ≡ entries_put l.traced l.directive l.initial.self (own_entries l.directive.line (entries_in l.lists l.items));
  later : later_entries l.directive.line (entries_in l.lists l.rest) ≡ later_entries l.directive.line (entries_in l.lists l.items);
}

abbrev pub decreases-loop-rest : goal.decreases-loop-rest
decreases-loop-rest l = length l.rest
