use Rattle.std.proofs.Common.{length, ◌-◌, ◌≡◌, ◌≤◌}
use Rattle.bench_top.proofs.LastLines.{IsKept}
use Rattle.bench_top.proofs.tail.last_lines.Given as goal

abbrev pub invariant-loop-start : goal.invariant-loop-start
invariant-loop-start l = record {
  capacity : l.starts.capacity ≡ l.fn.starts.capacity;
  within : l.start ≤ length l.text;
  kept : IsKept l.fn.starts.capacity l.start l.text l.starts.items;
}

abbrev pub decreases-loop-start : goal.decreases-loop-start
decreases-loop-start l = length l.text - l.start
