use Rattle.std.proofs.Common.{◌≡◌, ◌≤◌, ◌+◌, ◌*◌, drop, length}
use Rattle.run_model.specs.Packing.{entries_in}
use Rattle.report_end.specs.Counts.{beginning, total, script_counted}
use Rattle.report_end.proofs.ending.counted.Given as goal

abbrev pub invariant-loop-directive : goal.invariant-loop-directive
invariant-loop-directive l = record {
  counted : script_counted l.counting (drop l.directive-index l.script) (entries_in l.lists l.rest) ≡ script_counted beginning l.script (entries_in l.lists l.lists.items.now);
  room : total l.counting.tally + 2 * length l.rest ≤ 2 * length l.lists.items.now;
}
