-- The services, what their arguments have to be, and which error a call has.
use Rattle.std.specs.Prelude.{ℕ, ◌==◌, nat_lt, Bool, false, ◌||◌, not, List, [], ◌∷◌, Option, is_some}
use Rattle.mcal_base.specs.declared.answer.Answer.{Answer}
use Rattle.mcal_base.specs.declared.answer_name.AnswerName.TheVariants.{ENotOk, SpiUninit, SpiJobFailed, SpiSeqFailed}
use Rattle.mcal_base.specs.declared.error_name.ErrorName.{ErrorName}
use Rattle.mcal_base.specs.declared.service.Service.{Service}
use Rattle.mcal_base.specs.declared.service.Service.TheVariants as services
use Rattle.mcal_base.specs.det_errors.Rows.{first_error}
use Rattle.run_model.specs.Machine.{no_answer, named}
use Rattle.spi_machine.specs.declared.call.Call as calls
use Rattle.spi_machine.specs.declared.call.Call.TheVariants.{Init, DeInit, SetAsyncMode, MainFunctionHandling, Channel, Sequence, Get}
use Rattle.spi_machine.specs.declared.call.ChannelCall.{ChannelCall}
use Rattle.spi_machine.specs.declared.call.ChannelCall.TheVariants.{WriteIb, ReadIb, SetupEb}
use Rattle.spi_machine.specs.declared.call.SequenceCall.{SequenceCall}
use Rattle.spi_machine.specs.declared.call.SequenceCall.TheVariants.{AsyncTransmit, Cancel, SyncTransmit}
use Rattle.spi_machine.specs.declared.call.Query.{Query}
use Rattle.spi_machine.specs.declared.call.Query.TheVariants.{Status, JobResult, SequenceResult, HwUnitStatus}
use Rattle.word_shapes.specs.declared.jobs.channel.Channel as configured
use Rattle.spi_machine.specs.declared.table.SpiTable.{SpiTable}
use Rattle.spi_machine.specs.Table.{channel_of, job_of, sequence_of, length_by, is_internal_channel, is_external_channel}
use Rattle.spi_machine.specs.Wiring.{is_sync_sequence}

-- the service of a call
abbrev pub channel_service : ChannelCall → Service
channel_service (WriteIb p) = services.SpiWriteIb
channel_service ReadIb = services.SpiReadIb
channel_service (SetupEb p q n) = services.SpiSetupEb

abbrev pub sequence_service : SequenceCall → Service
sequence_service AsyncTransmit = services.SpiAsyncTransmit
sequence_service Cancel = services.SpiCancel
sequence_service SyncTransmit = services.SpiSyncTransmit

abbrev pub query_service : Query → Service
query_service Status = services.SpiGetStatus
query_service (JobResult j) = services.SpiGetJobResult
query_service (SequenceResult q) = services.SpiGetSequenceResult
query_service (HwUnitStatus u) = services.SpiGetHwUnitStatus

abbrev pub service_of : calls.Call → Service
service_of Init = services.SpiInit
service_of DeInit = services.SpiDeInit
service_of (SetAsyncMode m) = services.SpiSetAsyncMode
service_of MainFunctionHandling = services.SpiMainFunctionHandling
service_of (Channel c call) = channel_service call
service_of (Sequence q call) = sequence_service call
service_of (Get query) = query_service query

-- a length is 0 or above the channel's greatest one
abbrev pub is_wrong_length : ℕ → Option configured.Channel → Bool
is_wrong_length n k = n == 0 || nat_lt (length_by k) n

-- whether the errors of a service hold, in their order: the module is uninitialised, a sequence is held, by a pending
-- one or by what its unit carries out
abbrev pub channel_facts : Option configured.Channel → ChannelCall → (uninit : Bool) → List Bool
channel_facts k (WriteIb p) u = u ∷ not (is_internal_channel k) ∷ false ∷ false ∷ false ∷ false ∷ []
channel_facts k ReadIb u = u ∷ not (is_internal_channel k) ∷ false ∷ false ∷ false ∷ false ∷ []
channel_facts k (SetupEb p q n) u = u ∷ not (is_external_channel k) ∷ is_wrong_length n k ∷ false ∷ false ∷ false ∷ []

-- a sequence that isn't configured, or that is sent by the other kind of transmission
abbrev pub is_sent_otherwise : SpiTable → ℕ → SequenceCall → Bool
is_sent_otherwise d q AsyncTransmit = is_sync_sequence d q
is_sent_otherwise d q SyncTransmit = not (is_sync_sequence d q)
is_sent_otherwise d q Cancel = false

abbrev pub is_wrong_sequence : SpiTable → ℕ → SequenceCall → Bool
is_wrong_sequence d q call = not (is_some (sequence_of d q)) || is_sent_otherwise d q call

abbrev pub query_facts : SpiTable → Query → (uninit : Bool) → List Bool
query_facts d Status u = false ∷ false ∷ false ∷ false ∷ false ∷ false ∷ []
query_facts d (JobResult j) u = u ∷ not (is_some (job_of d j)) ∷ false ∷ false ∷ false ∷ false ∷ []
query_facts d (SequenceResult q) u = u ∷ not (is_some (sequence_of d q)) ∷ false ∷ false ∷ false ∷ false ∷ []
query_facts d (HwUnitStatus n) u = u ∷ nat_lt 1 n ∷ false ∷ false ∷ false ∷ false ∷ []

abbrev pub facts_by : SpiTable → calls.Call → (uninit held : Bool) → List Bool
facts_by d Init u h = not u ∷ false ∷ false ∷ false ∷ false ∷ false ∷ []
facts_by d DeInit u h = u ∷ false ∷ false ∷ false ∷ false ∷ false ∷ []
facts_by d (SetAsyncMode m) u h = u ∷ false ∷ false ∷ false ∷ false ∷ false ∷ []
facts_by d MainFunctionHandling u h = false ∷ false ∷ false ∷ false ∷ false ∷ false ∷ []
facts_by d (Channel c call) u h = channel_facts (channel_of d c) call u
facts_by d (Sequence q call) u h = u ∷ is_wrong_sequence d q call ∷ h ∷ false ∷ false ∷ false ∷ []
facts_by d (Get query) u h = query_facts d query u

-- the first error of a call that holds
abbrev pub error_by : SpiTable → calls.Call → (uninit held : Bool) → Option ErrorName
error_by d call u h = first_error (service_of call) (facts_by d call u h)

-- the answer of a call with an error
abbrev pub query_refused : Query → Answer
query_refused Status = no_answer
query_refused (JobResult j) = named SpiJobFailed
query_refused (SequenceResult q) = named SpiSeqFailed
query_refused (HwUnitStatus u) = named SpiUninit

abbrev pub answer_refused : calls.Call → Answer
answer_refused Init = no_answer
answer_refused MainFunctionHandling = no_answer
answer_refused (Sequence q Cancel) = no_answer
answer_refused (Get query) = query_refused query
answer_refused _ = named ENotOk
