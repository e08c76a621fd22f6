-- Each line takes at most 2 ^ 32 ticks.
use Rattle.std.proofs.Common.{◌*◌, ◌≤◌, ◌^◌}
use Rattle.base_tests.proofs.units.first_wrong.Given as goal

abbrev pub invariant-loop-place : goal.invariant-loop-place
invariant-loop-place l = record {
  converter : l.units.converter.time ≤ 2 ^ 32 * l.place;
  serial : l.units.serial.time ≤ 2 ^ 32 * l.place;
}
