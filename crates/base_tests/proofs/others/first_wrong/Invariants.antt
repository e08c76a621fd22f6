-- Each line takes at most 2 ^ 32 ticks.
use Rattle.std.proofs.Common.{◌*◌, ◌≤◌, ◌^◌}
use Rattle.base_tests.proofs.others.first_wrong.Given as goal

abbrev pub invariant-loop-place : goal.invariant-loop-place
invariant-loop-place l = record {
  clock : l.blocks.clock.osc ≤ 2 ^ 32 * l.place;
  serials : l.blocks.serials.time ≤ 2 ^ 32 * l.place;
}
