use Rattle.std.proofs.Common.{◌≡◌, length, map, take}
use Rattle.spi_machine.specs.Pending.{job_result}
use Rattle.audit_serial.proofs.pending.results_of.Given as goal

abbrev pub invariant-loop-place : goal.invariant-loop-place
invariant-loop-place l = record { is : take l.place l.had ≡ map (job_result l.results) (take l.place l.jobs); size : length l.had ≡ 16 }
