use Rattle.std.proofs.Common.{ℕ, ◌<◌, get_or}
use Rattle.std.specs.List.{Contains}
use Rattle.chip_model.specs.Chip.{word_of}
use Rattle.spi_machine.specs.Bounds.{HoldsArrays}
use Rattle.spi_machine.specs.Table.{channels_of}
use Rattle.audit_serial.specs.Stands.{state_of}
use Rattle.audit_modules.proofs.arrays.jobs_have_arrays.Given as goal

-- the arrays of the channels of the jobs so far have the machine's words
abbrev pub invariant-loop-job : goal.invariant-loop-job
invariant-loop-job l = (i : ℕ) → i < l.job-index → (k : ℕ) → Contains (channels_of l.serials.configured.table (get_or l.jobs i 0)) k → HoldsArrays (word_of l.bus) l.serials.configured.table (state_of l.serials) k
