use Rattle.std.proofs.Common.{◌≡◌, ◌≤◌, ◌+◌, ◌*◌, length}
use Rattle.run_model.specs.Packing.{entries_in}
use Rattle.bench_report.specs.Report.{later_entries}
use Rattle.report_end.specs.Counts.{total, directive_counted}
use Rattle.report_end.proofs.counting.Counting.items.Given as goal

abbrev pub invariant-loop-rest : goal.invariant-loop-rest
invariant-loop-rest l = record {
  counted : directive_counted l.directive l.self (entries_in l.lists l.rest) ≡ directive_counted l.directive l.initial.self (entries_in l.lists l.items);
  later : later_entries l.directive.line (entries_in l.lists l.rest) ≡ later_entries l.directive.line (entries_in l.lists l.items);
  room : total l.self.tally + 2 * length l.rest ≤ total l.initial.self.tally + 2 * length l.items;
}

abbrev pub decreases-loop-rest : goal.decreases-loop-rest
decreases-loop-rest l = length l.rest
