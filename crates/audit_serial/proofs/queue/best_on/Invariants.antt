use Rattle.std.proofs.Common.{◌≡◌, ◌≤◌, drop, length, map}
use Rattle.std.specs.Prelude.{option_map}
use Rattle.spi_machine.specs.Pending.{next_on}
use Rattle.audit_serial.specs.Words.{pending_as}
use Rattle.audit_serial.proofs.queue.best_on.Given as goal

abbrev pub invariant-loop-place : goal.invariant-loop-place
invariant-loop-place l = record {
  within : l.place ≤ length l.entries;
  is : option_map pending_as l.best ≡ next_on l.table l.unit (map pending_as (drop l.place l.entries));
}

abbrev pub decreases-loop-place : goal.decreases-loop-place
decreases-loop-place l = l.place
