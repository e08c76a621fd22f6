use Rattle.std.proofs.Common.{length, ◌∙◌, ap}
use Rattle.spi_machine.specs.Numbered.{word_at}
use Rattle.spi_machine.specs.State.{channel_at}
use Rattle.machine_laws.proofs.BufferLaws.{read_words, item-first_items, length-first_items}
use Rattle.machine_laws.proofs.serial.buffers.reads_what_was_received.Goals as goal

pub returns-clause-words : goal.returns-clause-words
returns-clause-words _ d w s c place k times out made told there lt =
    ap (λ ws. word_at ws place) (read_words d w s c k times out made told there) ∙ item-first_items 0 k.length (channel_at s c).received place lt

pub returns-clause-count : goal.returns-clause-count
returns-clause-count _ d w s c k times out made told there =
    ap length (read_words d w s c k times out made told there) ∙ length-first_items 0 k.length (channel_at s c).received
