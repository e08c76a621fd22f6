use Rattle.std.proofs.Common.{ℕ, ◌<◌, get_or}
use Rattle.chip_model.specs.Chip.{word_of}
use Rattle.spi_machine.specs.Bounds.{HoldsArrays}
use Rattle.audit_serial.specs.Stands.{state_of}
use Rattle.audit_modules.proofs.arrays.have_arrays.Given as goal

-- the arrays of the channels so far have the machine's words
abbrev pub invariant-loop-channel : goal.invariant-loop-channel
invariant-loop-channel l = (i : ℕ) → i < l.channel-index → HoldsArrays (word_of l.bus) l.serials.configured.table (state_of l.serials) (get_or l.channels i 0)
