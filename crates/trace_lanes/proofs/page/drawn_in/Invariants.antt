use Rattle.std.proofs.Common.{◌≡◌, ◌≤◌, take}
use Rattle.std.specs.Prelude.{count_by}
use Rattle.trace_lanes.specs.Drawn.{is_drawn}
use Rattle.trace_lanes.proofs.page.drawn_in.Given as goal

abbrev pub invariant-loop-sign : goal.invariant-loop-sign
invariant-loop-sign l = record {
  counted : l.count ≡ count_by is_drawn (take l.sign-index l.signs);
  few : l.count ≤ l.sign-index;
}
