use Rattle.std.proofs.Common.{◌≡◌, ◌-◌, drop}
use Rattle.spi_machine.specs.Pending.{with_results}
use Rattle.audit_serial.proofs.results.give_back.Given as goal

abbrev pub invariant-loop-place : goal.invariant-loop-place
invariant-loop-place l = with_results (drop l.place l.jobs) (drop l.place l.had) l.results.items ≡ with_results (drop l.from l.jobs) (drop l.from l.had) l.initial.results.items

abbrev pub decreases-loop-place : goal.decreases-loop-place
decreases-loop-place l = l.end - l.place
