-- Each line takes at most 2 ^ 32 ticks.
use Rattle.std.proofs.Common.{◌*◌, ◌≤◌, ◌^◌}
use Rattle.base_tests.proofs.timed.first_wrong.Given as goal

abbrev pub invariant-loop-place : goal.invariant-loop-place
invariant-loop-place l = record {
  timers : l.blocks.timers.time ≤ 2 ^ 32 * l.place;
  pulses : l.blocks.pulses.time ≤ 2 ^ 32 * l.place;
  captures : l.blocks.captures.time ≤ 2 ^ 32 * l.place;
}
