use Rattle.std.proofs.Common.{◌≡◌, ◌≤◌, ◌++◌, ◌-◌, drop, length, map, take, vec_len}
use Rattle.spi_machine.specs.Pending.{without}
use Rattle.audit_serial.specs.Words.{pending_as}
use Rattle.audit_serial.proofs.queue.remove_all.Given as goal

abbrev pub invariant-loop-place : goal.invariant-loop-place
invariant-loop-place l = record {
  within : l.place ≤ length l.entries.items;
  is : take l.place (map pending_as l.entries.items) ++ without l.sequence (drop l.place (map pending_as l.entries.items)) ≡ without l.sequence (map pending_as l.initial.entries.items);
}

abbrev pub decreases-loop-place : goal.decreases-loop-place
decreases-loop-place l = vec_len l.entries - l.place
