use Rattle.std.proofs.Common.{◌≡◌, ◌++◌, drop, map}
use Rattle.std.specs.Prelude.{flat_map}
use Rattle.spi_machine.specs.Table.{channel_of}
use Rattle.spi_machine.specs.Transfers.{channel_words}
use Rattle.audit_serial.specs.Flows.{at}
use Rattle.audit_serial.specs.Words.{word_as}
use Rattle.audit_serial.proofs.channels.Channels.job_words.Given as goal

abbrev pub invariant-loop-number : goal.invariant-loop-number
invariant-loop-number l = map word_as l.words.items ++ flat_map (λ c. channel_words c (channel_of l.table c) (at l.self c)) (drop l.number-index l.number-items) ≡ flat_map (λ c. channel_words c (channel_of l.table c) (at l.self c)) l.number-items
