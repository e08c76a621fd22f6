-- How the words of jobs and the sequences that the program keeps stand for the machine's.
use Rattle.std.specs.Prelude.{take}
use Rattle.spi_machine.specs.Channels as channels
use Rattle.spi_machine.specs.Pending as pending
use Rattle.spi_machine.specs.State as machine
use Rattle.spi_machine.specs.Transfers as transfers
use Rattle.audit_serial.specs.declared.buffers.SetUp.{SetUp}
use Rattle.audit_serial.specs.declared.pending.Pending.{Pending}
use Rattle.audit_serial.specs.declared.serials.Mode.{Mode}
use Rattle.audit_serial.specs.declared.serials.Mode.TheVariants.{Off, Polling, Interrupt}
use Rattle.audit_serial.specs.declared.words.Goes.{Goes}
use Rattle.audit_serial.specs.declared.words.Goes.TheVariants.{ToDestination, ToChannel, Nowhere}
use Rattle.audit_serial.specs.declared.words.JobWord.{JobWord}
use Rattle.audit_serial.specs.declared.words.Transfer.{Transfer}

abbrev pub goes_as : Goes → transfers.Goes
goes_as ToDestination = transfers.ToDestination
goes_as ToChannel = transfers.ToChannel
goes_as Nowhere = transfers.Nowhere

abbrev pub word_as : JobWord → transfers.JobWord
word_as x = record { channel = x.channel; place = x.place; width = x.width; sent = x.sent; goes = goes_as x.goes }

abbrev pub transfer_as : Transfer → transfers.Transfer
transfer_as t = record { began = t.began; incoming = t.incoming; failed = t.failed }

abbrev pub set_up_as : SetUp → channels.SetUp
set_up_as x = record { source = x.source; destination = x.destination; words = x.words }

abbrev pub pending_as : Pending → pending.Pending
pending_as p = record { sequence = p.sequence; request = p.request; next = p.next; started = p.started; cancelled = p.cancelled; had = take p.count p.had }

abbrev pub mode_as : Mode → machine.Mode
mode_as Off = machine.Off
mode_as Polling = machine.Polling
mode_as Interrupt = machine.Interrupt
