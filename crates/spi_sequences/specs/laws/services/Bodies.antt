-- Each body as one of the driver's bodies, and what the load of the state word decides for a call.
-- From services.ChannelSteps, services.SyncSteps.
-- Used by spi_driver: bookkeeping.Lawful, spi_driver: services.UnitBegins, src/asked.rt and 6 more.
use Rattle.std.proofs.Common.{◌%◌, ◌==◌, [], if◌then◌else◌}
use Rattle.spi_sequences.specs.Terms
use Terms.{Answer, answer_refused, Asked, AsyncTransmit, Bool, Call, Cancel, CancelBody, ChannelCall, DeInit, Done}
use Terms.{error_by, ErrorName, false, First, Get, Goes, HwUnitStatus, Init, InitBody, is_sync_sequence, is_sync_unit}
use Terms.{is_users, job_of, JobResult, Looked, Main, MainFunctionHandling, named, no_answer, None, Nothing}
use Terms.{notifies_sequence, Option, Or, owed_error, pinning, placed_of, Query, QueryBody, ReadBody, ReadIb, Received}
use Terms.{Refused, reporting, Second, sequence_of, SequenceCall, SequenceResult, served_lines, service_of}
use Terms.{SetAsyncMode, SetUpBody, SetupEb, Some, SpiTable, SpiUninit, Status, SyncTransmit, Transmit, true, unit_by}
use Terms.{unit_of_sequence, UnitBody, Whole, WholeBody, WriteBody, WriteIb, ℕ}
use Rattle.spi_sequences.specs.{declared.service.sync.SyncBody.{SyncBody}, laws.services.ChannelSteps.{read_ends}}
use Rattle.spi_sequences.specs.laws.services.SyncSteps.{sync_begins}
use Rattle.spi_machine.specs.declared.call.Call.TheVariants.{Channel, Sequence}
use Rattle.spi_sequences.specs.declared.service.cancel.CancelBody.TheVariants as cancel
use Rattle.spi_sequences.specs.declared.service.init.InitPlace.TheVariants as init
use Rattle.spi_sequences.specs.declared.service.query.JobPlace.TheVariants as job
use Rattle.spi_sequences.specs.declared.service.query.QueryBody.TheVariants as query
use Rattle.spi_sequences.specs.declared.service.read.ReadPlace.TheVariants as read
use Rattle.spi_sequences.specs.declared.service.request.RequestPlace.TheVariants as request
use Rattle.spi_sequences.specs.declared.service.set_up.SetUpBody.TheVariants as set_up
use Rattle.spi_sequences.specs.declared.service.unit.UnitPlace.TheVariants as place
use Rattle.spi_sequences.specs.declared.service.whole.Whole.TheVariants as wholes
use Rattle.spi_sequences.specs.declared.service.whole.WholeBody.TheVariants as whole
use Rattle.spi_sequences.specs.declared.service.write.WriteBody.TheVariants as write

-- a place in any body of the driver
abbrev pub SpiBody : Type 0
SpiBody = Or (Or (Or InitBody WholeBody) QueryBody) (Or (Or SetUpBody (Or WriteBody ReadBody)) (Or UnitBody (Or CancelBody SyncBody)))

abbrev pub init_body : InitBody → SpiBody
init_body k = First (First (First k))

abbrev pub whole_body : WholeBody → SpiBody
whole_body k = First (First (Second k))

abbrev pub query_body : QueryBody → SpiBody
query_body k = First (Second k)

abbrev pub set_up_body : SetUpBody → SpiBody
set_up_body k = Second (First (First k))

abbrev pub write_body : WriteBody → SpiBody
write_body k = Second (First (Second (First k)))

abbrev pub read_body : ReadBody → SpiBody
read_body k = Second (First (Second (Second k)))

-- what bodies end their frame with
abbrev pub spi_ends : SpiBody → Option Answer
spi_ends (First k) = None
spi_ends (Second (First (First k))) = None
spi_ends (Second (First (Second (First k)))) = None
spi_ends (Second (First (Second (Second k)))) = read_ends k
spi_ends (Second (Second k)) = None

abbrev pub unit_body : UnitBody → SpiBody
unit_body k = Second (Second (First k))

abbrev pub cancel_body : CancelBody → SpiBody
cancel_body k = Second (Second (Second (First k)))

abbrev pub sync_body : SyncBody → SpiBody
sync_body k = Second (Second (Second (Second k)))

-- ---- the load of the state word

abbrev pub done_with : Answer → Looked SpiBody
done_with a = Refused (record { answer = a; owed = Nothing })

abbrev pub looks : Whole → Looked SpiBody
looks x = Goes (whole_body (whole.Look x 0))

-- the main function serves in polling mode alone, and begins with the second unit where the first one sends by Spi_SyncTransmit
abbrev pub first_served : SpiTable → ℕ
first_served d = if is_sync_unit d 0 then 1 else 0

abbrev pub main_begun : SpiTable → (serves : Bool) → Looked SpiBody
main_begun d true = Goes (unit_body (record { table = d; errand = Main; unit = first_served d; place = place.Act }))
main_begun d false = done_with no_answer

abbrev pub channel_begun : SpiTable → ℕ → ChannelCall → Looked SpiBody
channel_begun d c (WriteIb p) = Goes (write_body (write.Choose (record { placed = placed_of d c; source = p })))
channel_begun d c ReadIb = Goes (read_body (record { placed = placed_of d c; bank = 0; words = []; place = read.Pin (pinning (placed_of d c) Received) }))
channel_begun d c (SetupEb p q n) = Goes (set_up_body (set_up.Store (placed_of d c) (record { source = is_users p; destination = is_users q; length = n % 256 })))

-- one that is sent at once isn't cancelled
abbrev pub cancel_begun : SpiTable → ℕ → (at_once : Bool) → Looked SpiBody
cancel_begun d q true = done_with no_answer
cancel_begun d q false = Goes (cancel_body (cancel.Result (record { sequence = q; unit = unit_of_sequence d q; notification = notifies_sequence (sequence_of d q) })))

abbrev pub sequence_begun : SpiTable → ℕ → SequenceCall → Looked SpiBody
sequence_begun d q AsyncTransmit = Goes (unit_body (record { table = d; errand = Transmit q; unit = unit_of_sequence d q; place = place.Request (request.Look 0) }))
sequence_begun d q SyncTransmit = Goes (sync_body (sync_begins d q (unit_of_sequence d q)))
sequence_begun d q Cancel = cancel_begun d q (is_sync_sequence d q)

abbrev pub status_begun : (off : Bool) → Looked SpiBody
status_begun true = done_with (named SpiUninit)
status_begun false = looks wholes.Status

abbrev pub query_begun : SpiTable → (state : ℕ) → Query → Looked SpiBody
query_begun d v Status = status_begun (v == 0)
query_begun d v (JobResult j) = Goes (query_body (query.Job (record { table = d; job = j % 16; unit = unit_by (job_of d j); place = job.Running })))
query_begun d v (SequenceResult q) = Goes (query_body (query.Sequence (q % 256)))
query_begun d v (HwUnitStatus u) = Goes (query_body (query.Unit (u % 256)))

-- what a call goes on with that nothing forbids
abbrev pub begins : SpiTable → Call → (state : ℕ) → Looked SpiBody
begins d Init v = Goes (init_body (record { table = d; place = init.Opens }))
begins d DeInit v = looks wholes.DeInit
begins d (SetAsyncMode m) v = looks (wholes.Mode m (served_lines d))
begins d MainFunctionHandling v = main_begun d (v == 1)
begins d (Channel c call) v = channel_begun d (c % 256) call
begins d (Sequence q call) v = sequence_begun d (q % 256) call
begins d (Get x) v = query_begun d v x

abbrev pub refusal_of : Asked → ErrorName → Done
refusal_of a e = record { answer = answer_refused a.call; owed = owed_error (reporting a.table) (service_of a.call) e }

abbrev pub looked_by : Asked → (state : ℕ) → Option ErrorName → Looked SpiBody
looked_by a v None = begins a.table a.call v
looked_by a v (Some e) = Refused (refusal_of a e)

-- no pending sequence is looked at here
abbrev pub spi_looked : Asked → ℕ → Looked SpiBody
spi_looked a v = looked_by a v (error_by a.table a.call (v == 0) false)
