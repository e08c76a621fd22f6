use Rattle.std.proofs.Common.{◌≡◌, drop}
use Rattle.std.specs.Prelude.{map, string_bytes}
use Rattle.run_model.specs.Packing.{entries_in}
use Rattle.bench_report.specs.Pages.{script_put, beginning}
use Rattle.bench_report.proofs.whole.written.Given as goal

abbrev pub invariant-loop-directive : goal.invariant-loop-directive
invariant-loop-directive l = script_put l.traced l.course (drop l.directive-index l.script) (entries_in l.lists l.rest) ≡ script_put l.traced (beginning (map string_bytes l.shows)) l.script (entries_in l.lists l.lists.items.now)
