use Rattle.std.proofs.Common.{ap}
use Rattle.spi_machine.specs.Channels.{set_up_or}
use Rattle.spi_machine.specs.declared.call.Pointer.TheVariants.{Null}
use Rattle.machine_laws.proofs.BufferLaws.{external_at, external_count}
use Rattle.machine_laws.proofs.serial.buffers.words_of_an_external_channel.Goals as goal

pub returns-clause-words : goal.returns-clause-words
returns-clause-words _ c n k x by external is lt = external_at c k x by n external (ap (λ o. set_up_or k o) is) lt

pub returns-clause-count : goal.returns-clause-count
returns-clause-count _ c k x by external is = external_count c k x by external (ap (λ o. set_up_or k o) is)

pub returns-clause-none : goal.returns-clause-none
returns-clause-none _ c n k x external is lt = external_at c k x (record { source = Null; destination = Null; words = k.length }) n external (ap (λ o. set_up_or k o) is) lt

pub returns-clause-most : goal.returns-clause-most
returns-clause-most _ c k x external is = external_count c k x (record { source = Null; destination = Null; words = k.length }) external (ap (λ o. set_up_or k o) is)
