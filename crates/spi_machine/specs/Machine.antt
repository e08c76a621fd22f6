-- The serial driver as the standard has it: what each call, each serving and each start does.
use Rattle.std.specs.Prelude.{ℕ, ◌+◌, ◌==◌, Bool, true, false, ◌&&◌, ◌||◌, not, if◌then◌else◌, List, [], ◌∷◌, ◌++◌, map, find, flat_map, Option, Some, None, is_some}
use Rattle.std.specs.List.{enumerate_from}
use Rattle.mcal_base.specs.declared.answer.Answer.{Answer}
use Rattle.mcal_base.specs.declared.answer_name.AnswerName.{AnswerName}
use Rattle.mcal_base.specs.declared.answer_name.AnswerName.TheVariants.{EOk, ENotOk, SpiUninit, SpiIdle, SpiBusy, SpiJobOk, SpiJobPending, SpiJobFailed, SpiJobQueued, SpiSeqOk, SpiSeqPending, SpiSeqFailed, SpiSeqCanceled}
use Rattle.mcal_base.specs.declared.directive.Order.{Order}
use Rattle.mcal_base.specs.declared.directive.Order.TheVariants.{Fill, SpiFault}
use Rattle.mcal_base.specs.declared.error_name.ErrorName.{ErrorName}
use Rattle.mcal_base.specs.declared.moves.Unit as units
use Rattle.mcal_base.specs.declared.moves.Unit.TheVariants as serial
use Rattle.mcal_base.specs.det_errors.Reports.{Reporting}
use Rattle.run_model.specs.World.{World}
use Rattle.run_model.specs.Machine.{Happening, Acts, Serves, Starts, Aborts, Moves, Restarts, Begun, Outcome, Machine, tells_nothing, outcome, outcome_with, answers, named, named_with, tells_error}
use Rattle.spi_machine.specs.declared.call.Call.{Call}
use Rattle.spi_machine.specs.declared.call.Call.TheVariants.{Init, DeInit, SetAsyncMode, MainFunctionHandling, Get}
use Rattle.spi_machine.specs.declared.call.Call.TheVariants as calls
use Rattle.spi_machine.specs.declared.call.ChannelCall.{ChannelCall}
use Rattle.spi_machine.specs.declared.call.ChannelCall.TheVariants.{WriteIb, ReadIb, SetupEb}
use Rattle.spi_machine.specs.declared.call.SequenceCall.{SequenceCall}
use Rattle.spi_machine.specs.declared.call.SequenceCall.TheVariants.{AsyncTransmit, Cancel, SyncTransmit}
use Rattle.spi_machine.specs.declared.call.Query.{Query}
use Rattle.spi_machine.specs.declared.call.Query.TheVariants.{Status, JobResult, SequenceResult, HwUnitStatus}
use Rattle.word_shapes.specs.declared.jobs.channel.Channel.{Channel}
use Rattle.spi_machine.specs.declared.table.SpiTable.{SpiTable}
use Rattle.spi_machine.specs.Channels.{ChannelState, untouched, initialised, written_from, filled}
use Rattle.spi_machine.specs.Checks.{service_of, error_by, answer_refused}
use Rattle.spi_machine.specs.Numbered.{with_item, first_items}
use Rattle.spi_machine.specs.Pending.{Pending, requested, is_of, changed, without, starts, goes_to_next, cancels, is_held, next_job, has_further, next_on, job_result, sequence_result, all_get, given_back, end_by}
use Rattle.spi_machine.specs.Table.{channel_of, job_of, jobs_of, channels_of, is_sync_unit, length_by, select_by}
use Rattle.spi_machine.specs.Transfers.{Goes, ToDestination, ToChannel, Nowhere, JobWord, Run, channel_words, on_wire, is_done, faulted, word_of, received_with, goes_on, begun}
use Rattle.spi_machine.specs.Wiring.{unit_of_sequence, is_sync_sequence}
use Rattle.spi_machine.specs.State.{SpiState, Carrying, first_state, is_off, is_polling, is_interrupt, mode_of, channel_at, with_channel, run_at, with_run, carried_at, with_carried, wire_at, is_busy, is_running, job_notice, sequence_notice, notes, Off, Polling}

-- ---- sequences

-- a request is accepted: its sequence is pending, and its jobs are queued
abbrev pub accepted : SpiTable → SpiState → ℕ → SpiState
accepted d s q = record s {
  pending = s.pending ++ requested q (s.requests + 1) (map (job_result s.job_results) (jobs_of d q)) ∷ [];
  requests = s.requests + 1;
  sequence_results = with_item SpiSeqOk s.sequence_results q SpiSeqPending;
  job_results = all_get SpiJobQueued (jobs_of d q) s.job_results;
}

-- a sequence ends with this result; its jobs from this place on never ran
abbrev pub ended : SpiTable → SpiState → Pending → (from : ℕ) → AnswerName → SpiState
ended d s p from result = record s {
  pending = without p.sequence s.pending;
  sequence_results = with_item SpiSeqOk s.sequence_results p.sequence result;
  job_results = given_back d p from s.job_results;
}

-- a cancelled sequence ends with its running job, and at once where none of its jobs runs
abbrev pub cancelled_by : SpiTable → SpiState → Pending → (running : Bool) → Outcome SpiState
cancelled_by d s p true = outcome (record s { pending = changed p.sequence cancels s.pending }) tells_nothing
cancelled_by d s p false = outcome (ended d s p p.next SpiSeqCanceled) (notes (sequence_notice d p.sequence))

-- one that isn't pending is left
abbrev pub cancelled : SpiTable → SpiState → Option Pending → Outcome SpiState
cancelled d s None = outcome s tells_nothing
cancelled d s (Some p) = cancelled_by d s p (is_running s p.sequence)

-- ---- what a call without an error does

-- the sixteen channels after Spi_Init; the users' arrays stay, and so does what the wire has shown
abbrev pub initialised_channels : SpiTable → List ChannelState → List ChannelState
initialised_channels d xs = map (λ p. initialised (channel_of d p.0) p.1) (enumerate_from 0 (first_items untouched 16 xs))

-- all results are OK, nothing is pending, and both units are free
abbrev pub initial : SpiTable → SpiState → SpiState
initial d s = record s { mode = Polling; channels = initialised_channels d s.channels; job_results = []; sequence_results = []; pending = []; units = []; carried = [] }

-- the answer of an internal channel's received words
abbrev pub read_answer : Option Channel → ChannelState → Answer
read_answer k x = named_with EOk (first_items 0 (length_by k) x.received)

abbrev pub channel_work : Option Channel → SpiState → ℕ → ChannelCall → Outcome SpiState
channel_work k s c (WriteIb p) = outcome (with_channel s c (written_from p k (channel_at s c))) (answers (named EOk))
channel_work k s c ReadIb = outcome s (answers (read_answer k (channel_at s c)))
channel_work k s c (SetupEb p q n) = outcome (with_channel s c (record (channel_at s c) { set_up = Some (record { source = p; destination = q; words = n }) })) (answers (named EOk))

-- a call that sends its sequence at once acts otherwise, as `sending_ends` says, and never so
abbrev pub sequence_work : SpiTable → SpiState → ℕ → SequenceCall → Outcome SpiState
sequence_work d s q AsyncTransmit = outcome (accepted d s q) (answers (named EOk))
sequence_work d s q Cancel = cancelled d s (find (is_of q) s.pending)
sequence_work d s q SyncTransmit = outcome s tells_nothing

abbrev pub status_by : (off busy : Bool) → AnswerName
status_by true _ = SpiUninit
status_by false true = SpiBusy
status_by false false = SpiIdle

abbrev pub query_answer : SpiState → Query → AnswerName
query_answer s Status = status_by (is_off s.mode) (is_busy s)
query_answer s (JobResult j) = job_result s.job_results j
query_answer s (SequenceResult q) = sequence_result s.sequence_results q
query_answer s (HwUnitStatus u) = status_by false (is_some (run_at s u) || is_some (carried_at s u))

-- a change of the whole module is refused while a sequence is pending
abbrev pub unless_busy : (busy : Bool) → SpiState → (after : SpiState) → Outcome SpiState
unless_busy true s after = outcome s (answers (named ENotOk))
unless_busy false s after = outcome after (answers (named EOk))

abbrev pub work : SpiTable → SpiState → Call → Outcome SpiState
work d s Init = outcome (initial d s) tells_nothing
work d s DeInit = unless_busy (is_busy s) s (record s { mode = Off })
work d s (SetAsyncMode m) = unless_busy (is_busy s) s (record s { mode = mode_of m })
work d s MainFunctionHandling = outcome s tells_nothing
work d s (calls.Channel c call) = channel_work (channel_of d c) s c call
work d s (calls.Sequence q call) = sequence_work d s q call
work d s (Get query) = outcome s (answers (named (query_answer s query)))

-- what the unit of a sequence carries out; an uninitialised module and a unit of the other kind carry out nothing
abbrev pub carried_for : SpiTable → SpiState → (sequence : ℕ) → Option Carrying
carried_for d s q = if is_off s.mode || not (is_sync_sequence d q) then None else carried_at s (unit_of_sequence d q)

-- a call finds its sequence, or one that has a job in common with it, pending, or its unit not free
abbrev pub finds_held : SpiTable → SpiState → Call → Bool
finds_held d s (calls.Sequence q AsyncTransmit) = is_held d q s.pending
finds_held d s (calls.Sequence q SyncTransmit) = is_some (carried_for d s q)
finds_held d s _ = false

-- an error changes nothing
abbrev pub acts_by : SpiTable → SpiState → Call → Option ErrorName → Outcome SpiState
acts_by d s call None = work d s call
acts_by d s call (Some e) = outcome s (tells_error (answer_refused call) e)

-- what a call does, by its first error that holds
abbrev pub acts : SpiTable → SpiState → Call → Outcome SpiState
acts d s call = acts_by d s call (error_by d call (is_off s.mode) (finds_held d s call))

-- ---- what a start does

-- the words of a job as its channels stand
abbrev pub job_words : SpiTable → SpiState → ℕ → List JobWord
job_words d s j = flat_map (λ c. channel_words c (channel_of d c) (channel_at s c)) (channels_of d j)

-- a word begins on a unit, and the wire shows it
abbrev pub with_word : SpiState → (number received : ℕ) → Run → SpiState
with_word s u received r = record s {
  units = with_item None s.units u (Some r);
  wires = with_item [] s.wires u (wire_at s u ++ on_wire received (word_of r) ∷ []);
}

-- the results of a job and of its sequence
abbrev pub result_by : (failed : Bool) → AnswerName
result_by true = SpiJobFailed
result_by false = SpiJobOk

abbrev pub sequence_result_by : (failed : Bool) → AnswerName
sequence_result_by true = SpiSeqFailed
sequence_result_by false = SpiSeqOk

-- the device of a sequence's job, where it has one
abbrev pub device_of : SpiTable → Option Pending → Option ℕ
device_of d None = None
device_of d (Some p) = select_by (job_of d (next_job d p))

-- a word of a sequence's job, as it begins on a unit
abbrev pub as_begun : SpiTable → (number : ℕ) → Option Pending → JobWord → Begun
as_begun d u p x = record { unit = u; word = x.sent; width = x.width; device = device_of d p }

-- the word of a run begins, of this sequence's job
abbrev pub begins_on : SpiTable → SpiState → (number received : ℕ) → Option Pending → Run → Outcome SpiState
begins_on d s u received p r = outcome_with (with_word s u received r) tells_nothing (Some (as_begun d u p (word_of r)))

-- a unit by its name
abbrev pub number_of : units.Unit → Option ℕ
number_of serial.Spi0 = Some 0
number_of serial.Spi1 = Some 1
number_of _ = None

-- the pending sequence whose next job a unit may start; a running job isn't preempted
abbrev pub next_by : SpiTable → SpiState → (number : ℕ) → Option Run → Option Pending
next_by d s u None = next_on d u s.pending
next_by d s u (Some r) = None

-- an uninitialised module starts nothing
abbrev pub next_at : SpiTable → SpiState → Option ℕ → Option Pending
next_at d s None = None
next_at d s (Some u) = if is_off s.mode then None else next_by d s u (run_at s u)

-- the sequence has started, and its job is pending
abbrev pub job_started : SpiTable → SpiState → Pending → SpiState
job_started d s p = record s {
  pending = changed p.sequence starts s.pending;
  job_results = with_item SpiJobOk s.job_results (next_job d p) SpiJobPending;
}

-- its first word begins
abbrev pub started : SpiTable → World → SpiState → (number received : ℕ) → Pending → Outcome SpiState
started d w s u received p = begins_on d (job_started d s p) u received (Some p) (begun w.now received p.sequence (job_words d s (next_job d p)) [])

-- a start is allowed where there is such a sequence
abbrev pub start_by : SpiTable → World → SpiState → Option ℕ → (received : ℕ) → Option Pending → Option (Outcome SpiState)
start_by d w s (Some u) received (Some p) = Some (started d w s u received p)
start_by d w s _ received _ = None

-- ---- what comes in

-- a word that came in: where it goes as it is taken, and where it goes as its job ends well
abbrev pub stored : SpiState → JobWord → Goes → (value : ℕ) → SpiState
stored s x ToDestination v = with_channel s x.channel (record (channel_at s x.channel) { destination = with_item 0 (channel_at s x.channel).destination x.place v })
stored s x ToChannel v = s
stored s x Nowhere v = s

abbrev pub kept : SpiState → JobWord → Goes → (value : ℕ) → SpiState
kept s x ToDestination v = s
kept s x ToChannel v = with_channel s x.channel (record (channel_at s x.channel) { received = with_item 0 (channel_at s x.channel).received x.place v })
kept s x Nowhere v = s

-- all of them, in their order
abbrev pub all_kept : SpiState → List JobWord → (values : List ℕ) → SpiState
all_kept s [] _ = s
all_kept s (x ∷ xs) [] = s
all_kept s (x ∷ xs) (v ∷ vs) = all_kept (kept s x x.goes v) xs vs

-- after the last word: it is stored, and the received words of internal channels become readable; a failed word is
-- stored nowhere
abbrev pub after_last : SpiState → Run → (failed : Bool) → SpiState
after_last s r true = s
after_last s r false = all_kept (stored s (word_of r) (word_of r).goes r.transfer.incoming) r.words (received_with r)

-- ---- what a call of Spi_SyncTransmit does

-- the sequence that a call sends so, where it does
abbrev pub sent_by : Option Call → Option ℕ
sent_by (Some (calls.Sequence q SyncTransmit)) = Some q
sent_by _ = None

-- what a call finds wrong with its sequence before it begins a word
abbrev pub error_of_sending : SpiTable → SpiState → (sequence : ℕ) → Option ErrorName
error_of_sending d s q = error_by d (calls.Sequence q SyncTransmit) (is_off s.mode) (finds_held d s (calls.Sequence q SyncTransmit))

-- a word of a sequence's job begins, and the wire shows it
abbrev pub carries_on : SpiTable → SpiState → (number received : ℕ) → Pending → Run → Outcome SpiState
carries_on d s u received p r =
    outcome_with (record (with_carried s u (Some (record { entry = p; run = r }))) { wires = with_item [] s.wires u (wire_at s u ++ on_wire received (word_of r) ∷ []) }) tells_nothing
    (Some (as_begun d u (Some p) (word_of r)))

-- the next job of a sequence is pending
abbrev pub job_begun : SpiTable → SpiState → Pending → SpiState
job_begun d s p = record s { job_results = with_item SpiJobOk s.job_results (next_job d p) SpiJobPending }

-- its first word begins: the job's words are those of its channels as they stand
abbrev pub carries_job : SpiTable → World → SpiState → (number received : ℕ) → Pending → Outcome SpiState
carries_job d w s u received p = carries_on d (job_begun d s p) u received p (begun w.now received p.sequence (job_words d s (next_job d p)) [])

-- the sequence as the unit takes it: pending, and its jobs queued
abbrev pub as_requested : SpiTable → SpiState → (sequence : ℕ) → Pending
as_requested d s q = requested q 0 (map (job_result s.job_results) (jobs_of d q))

abbrev pub sequence_begun : SpiTable → SpiState → (sequence : ℕ) → SpiState
sequence_begun d s q = record s { sequence_results = with_item SpiSeqOk s.sequence_results q SpiSeqPending; job_results = all_get SpiJobQueued (jobs_of d q) s.job_results }

-- a job that its last word ended has its result, and its received words are readable
abbrev pub job_done : SpiTable → SpiState → Carrying → (failed : Bool) → SpiState
job_done d s x failed = record (after_last s x.run failed) { job_results = with_item SpiJobOk s.job_results (next_job d x.entry) (result_by failed) }

-- a further word is there: of the job, or of a further job
abbrev pub sends_on : SpiTable → Carrying → Bool
sends_on d x = goes_on x.run || (not x.run.transfer.failed && has_further d x.entry)

-- the word before is taken, and the next one begins: of the job where it goes on, else of the next job
abbrev pub sent_on : SpiTable → World → SpiState → (number received : ℕ) → Carrying → (same_job : Bool) → Outcome SpiState
sent_on d w s u received x true =
    carries_on d (stored s (word_of x.run) (word_of x.run).goes x.run.transfer.incoming) u received x.entry (begun w.now received x.entry.sequence x.run.words (received_with x.run))
sent_on d w s u received x false = carries_job d w (job_done d s x false) u received (goes_to_next x.entry)

-- a word begins for a call where the unit is free and the call finds no error, and where the unit carries out the call's
-- sequence, its word is done and hasn't failed, and a further one is there
abbrev pub may_go_on : SpiTable → World → Carrying → (sequence : ℕ) → Bool
may_go_on d w x q = is_of q x.entry && is_done w.now x.run.transfer && sends_on d x

abbrev pub sent_first : SpiTable → World → SpiState → (number received sequence : ℕ) → Option ErrorName → Option (Outcome SpiState)
sent_first d w s u received q (Some e) = None
sent_first d w s u received q None = Some (carries_job d w (sequence_begun d s q) u received (as_requested d s q))

abbrev pub sent_from : SpiTable → World → SpiState → (number received sequence : ℕ) → Option Carrying → Option (Outcome SpiState)
sent_from d w s u received q None = sent_first d w s u received q (error_of_sending d s q)
sent_from d w s u received q (Some x) = if may_go_on d w x q then Some (sent_on d w s u received x (goes_on x.run)) else None

abbrev pub sent_word : SpiTable → World → SpiState → (number received : ℕ) → (sequence : Option ℕ) → Option (Outcome SpiState)
sent_word d w s u received None = None
sent_word d w s u received (Some q) = if unit_of_sequence d q == u then sent_from d w s u received q (carried_for d s q) else None

-- the act of a call that began a word: the last word is taken, the job and the sequence end, and the unit is free
abbrev pub sequence_sent : SpiTable → SpiState → (number : ℕ) → Carrying → (failed : Bool) → SpiState
sequence_sent d s u x failed = record (with_carried (job_done d s x failed) u None) {
  sequence_results = with_item SpiSeqOk s.sequence_results x.entry.sequence (sequence_result_by failed);
  job_results = given_back d x.entry (x.entry.next + 1) (job_done d s x failed).job_results;
}

abbrev pub sent : SpiTable → SpiState → (number : ℕ) → Carrying → (failed : Bool) → Outcome SpiState
sent d s u x failed = outcome (sequence_sent d s u x failed) (answers (named (if failed then ENotOk else EOk)))

-- that of a call that began none: it has an error
abbrev pub not_sent : SpiState → (sequence : ℕ) → Option ErrorName → Option (Outcome SpiState)
not_sent s q None = None
not_sent s q (Some e) = Some (outcome s (tells_error (answer_refused (calls.Sequence q SyncTransmit)) e))

-- the act is allowed where the word is done, and has failed or was the last one
abbrev pub may_end : SpiTable → World → Carrying → Bool
may_end d w x = is_done w.now x.run.transfer && not (sends_on d x)

abbrev pub sending_ends : SpiTable → World → SpiState → (sequence : ℕ) → Option Carrying → Option (Outcome SpiState)
sending_ends d w s q None = not_sent s q (error_of_sending d s q)
sending_ends d w s q (Some x) =
    if is_of q x.entry then (if may_end d w x then Some (sent d s (unit_of_sequence d q) x x.run.transfer.failed) else None)
    else not_sent s q (error_of_sending d s q)

-- ---- what a serving does

-- the unit of a line
abbrev pub unit_of : (line : ℕ) → Option ℕ
unit_of l = if l == 26 then Some 0 else if l == 27 then Some 1 else None

-- the job that it runs
abbrev pub run_of : SpiState → Option ℕ → Option Run
run_of s None = None
run_of s (Some u) = run_at s u

-- the word in transfer of a running job is done
abbrev pub has_done : (now : ℕ) → Option Run → Bool
has_done now None = false
has_done now (Some r) = is_done now r.transfer

-- a done word is unserved
abbrev pub ready : World → SpiState → (line : ℕ) → Bool
ready w s l = not (is_off s.mode) && has_done w.now (run_of s (unit_of l))

-- and the mode is interrupt
abbrev pub due : World → SpiState → (line : ℕ) → Bool
due w s l = ready w s l && is_interrupt s.mode

-- the sequence ends with its job, or its next job waits
abbrev pub sequence_after : SpiTable → SpiState → Pending → Option AnswerName → Outcome SpiState
sequence_after d s p None = outcome (record s { pending = changed p.sequence goes_to_next s.pending }) (notes (job_notice d (next_job d p)))
sequence_after d s p (Some result) = outcome (ended d s p (p.next + 1) result) (notes (job_notice d (next_job d p) ++ sequence_notice d p.sequence))

-- the unit is free, and the job has its result
abbrev pub job_over : SpiTable → SpiState → (number : ℕ) → (failed : Bool) → Option Pending → Outcome SpiState
job_over d s u failed None = outcome (with_run s u None) tells_nothing
job_over d s u failed (Some p) =
    sequence_after d (record (with_run s u None) { job_results = with_item SpiJobOk s.job_results (next_job d p) (result_by failed) }) p (end_by p.cancelled failed (has_further d p))

-- the pending sequence of a running job
abbrev pub pending_of : SpiState → Run → Option Pending
pending_of s r = find (is_of r.sequence) s.pending

-- the word is taken, and the next one begins or the job ends
abbrev pub served_by : SpiTable → World → SpiState → (number received : ℕ) → Run → (goes_on : Bool) → Outcome SpiState
served_by d w s u received r true =
    begins_on d (stored s (word_of r) (word_of r).goes r.transfer.incoming) u received (pending_of s r) (begun w.now received r.sequence r.words (received_with r))
served_by d w s u received r false = job_over d (after_last s r r.transfer.failed) u r.transfer.failed (pending_of s r)

-- a line without a running job has nothing to serve
abbrev pub served : SpiTable → World → SpiState → Option ℕ → (received : ℕ) → Option Run → Outcome SpiState
served d w s (Some u) received (Some r) = served_by d w s u received r (goes_on r)
served d w s _ received _ = outcome s tells_nothing

-- ---- what the hardware does

-- a unit with a fault on its wire
abbrev pub faulted_run : (now : ℕ) → Option Run → Option Run
faulted_run now None = None
faulted_run now (Some r) = Some (record r { transfer = faulted now r.transfer })

abbrev pub faulted_carrying : (now : ℕ) → Option Carrying → Option Carrying
faulted_carrying now None = None
faulted_carrying now (Some x) = Some (record x { run = record x.run { transfer = faulted now x.run.transfer } })

-- a fill stores into a source array, and a fault meets the word in transfer
abbrev pub moved : SpiTable → World → SpiState → Order → SpiState
moved d w s (Fill c ws) = with_channel s c (filled ws (channel_of d c) (channel_at s c))
moved d w s (SpiFault u) = with_carried (with_run s u (faulted_run w.now (run_at s u))) u (faulted_carrying w.now (carried_at s u))
moved d w s _ = s

-- ---- the machine

-- an act of Spi_SyncTransmit ends its sequence, or finds an error; any other call's act is always allowed
abbrev pub act_by : SpiTable → World → SpiState → Call → (sends : Option ℕ) → Option (Outcome SpiState)
act_by d w s call None = Some (acts d s call)
act_by d w s call (Some q) = sending_ends d w s q (carried_for d s q)

abbrev pub act_of : SpiTable → World → SpiState → Call → Option (Outcome SpiState)
act_of d w s call = act_by d w s call (sent_by (Some call))

-- a start is that of a call's word on a unit that sends so, and else that of the next job
abbrev pub is_sync_number : SpiTable → Option ℕ → Bool
is_sync_number d None = false
is_sync_number d (Some u) = is_sync_unit d u

abbrev pub sent_at : SpiTable → World → SpiState → Option ℕ → (received : ℕ) → (sends : Option ℕ) → Option (Outcome SpiState)
sent_at d w s None received q = None
sent_at d w s (Some u) received q = sent_word d w s u received q

abbrev pub start_of : SpiTable → World → SpiState → Option ℕ → (made_by : Option Call) → (received : ℕ) → Option (Outcome SpiState)
start_of d w s k made_by received =
    if is_sync_number d k then sent_at d w s k received (sent_by made_by) else start_by d w s k received (next_at d s k)

-- what happens
abbrev pub happens : SpiTable → World → SpiState → Happening Call → Option (Outcome SpiState)
happens d w s (Acts call times) = act_of d w s call
happens d w s (Serves l received) = if ready w s l then Some (served d w s (unit_of l) received (run_of s (unit_of l))) else None
happens d w s (Starts u made_by received) = start_of d w s (number_of u) made_by received
happens d w s (Aborts u) = None
happens d w s (Moves order) = Some (outcome (moved d w s order) tells_nothing)
happens d w s (Restarts reason) = Some (outcome first_state tells_nothing)

-- how errors are reported
abbrev pub reporting : SpiTable → Reporting
reporting d = record { detect = d.detect; classification = d.classification }

-- the main function serves both lines in polling mode, and else none
abbrev pub polls : SpiState → Call → List ℕ
polls s MainFunctionHandling = if is_polling s.mode then 26 ∷ 27 ∷ [] else []
polls s _ = []

-- The machine of the serial driver under a configuration. It leaves the peripheral rate alone.
abbrev pub spi_machine : SpiTable → Machine SpiState Call
spi_machine d = record {
  happens = happens d;
  ready = ready;
  due = due;
  startable = λ w s u. is_some (next_at d s (number_of u));
  line_waits = λ w s l. is_some (next_at d s (unit_of l));
  rate = λ s. 1;
  service_of = service_of;
  expires = λ w s. None;
  reporting = λ call. reporting d;
  polls = λ w s call. polls s call;
}
