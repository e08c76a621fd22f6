use Rattle.std.proofs.Common.{length, ◌∙◌, ap}
use Rattle.std.proofs.lemmas.List.{get_or-replicate}
use Rattle.spi_machine.specs.Numbered.{word_at}
use Rattle.spi_machine.specs.State.{channel_at}
use Rattle.machine_laws.proofs.BufferLaws.{written_since, initial_since, from_word, from_count}
use Rattle.machine_laws.proofs.serial.buffers.words_as_written.Goals as goal

pub returns-clause-written : goal.returns-clause-written
returns-clause-written _ d w s c place k source times out history made told there left lt =
    ap (λ ws. word_at ws place) (written_since d w s c k source times out history made told there left) ∙ from_word source k.length k (channel_at s c) place lt

pub returns-clause-count : goal.returns-clause-count
returns-clause-count _ d w s c k source times out history made told there left =
    ap length (written_since d w s c k source times out history made told there left) ∙ from_count source k.length k (channel_at s c)

pub returns-clause-initial : goal.returns-clause-initial
returns-clause-initial _ d w s c place k times out history made told there internal few left lt =
    ap (λ ws. word_at ws place) (initial_since d w s c k times out history made told there internal few left) ∙ get_or-replicate k.length place k.default_data 0 lt
