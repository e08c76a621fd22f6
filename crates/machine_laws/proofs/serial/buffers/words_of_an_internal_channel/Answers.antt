use Rattle.machine_laws.proofs.BufferLaws.{internal_at, internal_count}
use Rattle.machine_laws.proofs.serial.buffers.words_of_an_internal_channel.Goals as goal

pub returns-clause-words : goal.returns-clause-words
returns-clause-words _ c n k x internal lt = internal_at c k x n internal lt

pub returns-clause-count : goal.returns-clause-count
returns-clause-count _ c k x internal = internal_count c k x internal
