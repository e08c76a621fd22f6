use Rattle.std.proofs.Common.{◌≡◌, drop}
use Rattle.spi_machine.specs.Table as spec
use Rattle.spi_machine.proofs.kept.find_sequence.Given as goal

abbrev pub invariant-loop-sequence : goal.invariant-loop-sequence
invariant-loop-sequence l = spec.sequence_in l.sequences l.number ≡ spec.sequence_in (drop l.sequence-index l.sequences) l.number
