use Rattle.std.proofs.Common.{ℕ, ◌<◌}
use Rattle.chip_model.specs.Chip.{word_of}
use Rattle.spi_machine.specs.Bounds.{HoldsArrays}
use Rattle.audit_serial.specs.Stands.{state_of}
use Rattle.audit_modules.proofs.arrays.arrays_agree.Given as goal

-- the arrays of the channels so far have the machine's words
abbrev pub invariant-loop-channel : goal.invariant-loop-channel
invariant-loop-channel l = (k : ℕ) → k < l.channel → HoldsArrays (word_of l.bus) l.serials.configured.table (state_of l.serials) k
