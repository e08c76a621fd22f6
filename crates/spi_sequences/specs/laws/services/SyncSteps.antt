-- Spi_SyncTransmit: its steps.
-- From services.ServeSteps, services.StartSteps.
-- Used by spi_laws: sending.services.SendRight, spi_laws: sending.services.SendFuel, spi_laws: sending.services.SendOwed and 15 more.
use Rattle.std.specs.Prelude.{◌+◌, ◌-◌, ◌/◌, ◌%◌, ◌==◌, ◌&&◌, if◌then◌else◌, [], ◌∷◌}
use Rattle.spi_sequences.specs.StepTerms
use StepTerms.{Act, Arrived, asking, BodyTaken, Bool, channel_at_place, channel_number, committing, ends, ENotOk, EOk}
use StepTerms.{Event, FAILED, false, Find, find_gave, find_left, find_move, finding_first, goes, has_ended}
use StepTerms.{job_at_place, job_of, job_word, jobs_list, Keep, keep_ends, keep_left, keep_move, list_of, Load, Mask}
use StepTerms.{Move, named, nat_le, nat_lt, NEXTS, None, Nothing, Option, owed_error, packed_run, PENDING, Placed}
use StepTerms.{placed_of, Position, position_word, Prepare, prepare_ends, prepare_left, prepare_move, preparing, Put}
use StepTerms.{put_gave, put_left, put_move, Read, Received, reporting, Running, running_word, select_by, select_of}
use StepTerms.{sequence_word, SerialData, SerialReceived, SerialSelect, SerialWait, SerialWidth, Served, ServePlace}
use StepTerms.{slice_index_or, slice_set, Some, SpiSeqInProcess, SpiSyncTransmit, SpiTable, Start, Store, SyncBody}
use StepTerms.{SyncPlace, Taker, taker_of, true, Unmask, with_next_in, Write, ℕ}
use Rattle.spi_sequences.specs.laws.services.ServeSteps.{begins_of, first_internal, keep_of, serve_move, serve_takes}
use Rattle.spi_sequences.specs.laws.services.StartSteps.{unit_named}
use Rattle.word_shapes.specs.declared.jobs.keeping.Taker.TheVariants as takers
use Rattle.spi_sequences.specs.declared.service.serve.SequenceNext.TheVariants as courses
use Rattle.spi_sequences.specs.declared.service.serve.ServePlace.TheVariants as serve
use Rattle.spi_sequences.specs.declared.service.sync.SyncPlace.TheVariants as place

-- the place of a job's first word
abbrev pub first_place : Position
first_place = record { channel = 0; word = 0 }

abbrev pub sync_begins : SpiTable → (sequence number : ℕ) → SyncBody
sync_begins d q u = record { table = d; sequence = q; unit = u; job = 0; at = first_place; banks = 0 ∷ 0 ∷ 0 ∷ 0 ∷ []; place = place.Free }

abbrev pub sync_at : SyncBody → SyncPlace → SyncBody
sync_at k p = record k { place = p }

-- its job, and the channel at a place of it
abbrev pub run_sent : SyncBody → Running
run_sent k = record { job = job_at_place k.table k.sequence k.job; sequence = k.sequence }

abbrev pub channel_sent : SyncBody → ℕ → Placed
channel_sent k i = channel_at_place k.table (run_sent k).job i

abbrev pub sync_move : SyncBody → SyncPlace → Move
sync_move k place.Free = Load (running_word k.unit)
sync_move k (place.Find b f) = find_move f
sync_move k (place.Select b x) = Write (SerialSelect k.unit) (select_of (select_by (job_of k.table (run_sent k).job)))
sync_move k (place.Width b x) = Write (SerialWidth k.unit) (channel_sent k 0).channel.width
sync_move k (place.Begin b x) = Write (SerialData k.unit) x
sync_move k place.Pend = Store (sequence_word k.sequence) PENDING
sync_move k (place.Keep r p) = keep_move p
sync_move k (place.Commit r i p) = put_move p
sync_move k (place.Result r) = Store (job_word r.run.job) 0
sync_move k (place.Prepare i p) = prepare_move p
sync_move k place.Run = Store (running_word k.unit) (packed_run (run_sent k))
sync_move k place.Stand = Store (position_word k.unit) 0
sync_move k place.Nexts = Load NEXTS
sync_move k (place.Next v) = Store NEXTS v
sync_move k place.Opens = Unmask
sync_move k place.Wait = Read (SerialWait k.unit)
sync_move k (place.Shut failed) = Mask
sync_move k (place.Taker failed) = asking (channel_sent k k.at.channel) k.at.word
sync_move k (place.Receive r t) = Read (SerialReceived k.unit)
sync_move k (place.Serve p) = serve_move k.table k.unit p

abbrev pub sync_work : SyncBody → Move
sync_work k = sync_move k k.place

-- the unit carries out a sequence already
abbrev pub in_process : SpiTable → BodyTaken
in_process d = ends (Some Act) (named ENotOk) (owed_error (reporting d) SpiSyncTransmit SpiSeqInProcess)

-- a word begins at the step
abbrev pub sync_starts : (number : ℕ) → BodyTaken
sync_starts u = record { event = Some (Start (unit_named u)); done = None }

-- ---- a job begins

abbrev pub sync_finds : SyncBody → Option Arrived → SyncPlace
sync_finds k b = place.Find b (finding_first (channel_sent k 0))

abbrev pub sync_found : Option Arrived → Find → ℕ → Option ℕ → SyncPlace
sync_found b f v None = place.Find b (find_left f v)
sync_found b f v (Some x) = place.Select b x

abbrev pub sync_begun : SyncBody → Option Arrived → SyncPlace
sync_begun k None = place.Pend
sync_begun k (Some r) = place.Keep r.served (keep_of k.table r)

-- the received words of the job before become readable
abbrev pub sync_commits : SyncBody → Served → Option ℕ → SyncPlace
sync_commits k r None = place.Result r
sync_commits k r (Some i) = place.Commit r i (committing (channel_at_place k.table r.run.job i) Received (slice_index_or k.banks i 0))

abbrev pub sync_keeps : SyncBody → Served → Keep → (ended : Bool) → SyncPlace
sync_keeps k r p true = sync_commits k r (first_internal k.table r 4)
sync_keeps k r p false = place.Keep r (keep_left p)

abbrev pub sync_committed : SyncBody → Served → ℕ → Put → ℕ → (ended : Bool) → SyncPlace
sync_committed k r i p v true = sync_commits k r (first_internal k.table r (3 - i))
sync_committed k r i p v false = place.Commit r i (put_left p v)

-- the channels of the job that began are made ready
abbrev pub sync_prepares_by : Option ℕ → SpiTable → ℕ → SyncPlace
sync_prepares_by None d i = place.Run
sync_prepares_by (Some c) d i = place.Prepare i (preparing (placed_of d c))

abbrev pub sync_prepares_at : SyncBody → ℕ → SyncPlace
sync_prepares_at k i = sync_prepares_by (channel_number (list_of k.table (run_sent k).job) i) k.table i

-- nothing is read any more of an internal one whose only word is in transfer
abbrev pub begins_whole : Placed → Bool
begins_whole x = x.channel.internal && nat_le x.channel.length 1

abbrev pub sync_prepares : SyncBody → SyncPlace
sync_prepares k = sync_prepares_at k (if begins_whole (channel_sent k 0) then 1 else 0)

abbrev pub sync_prepared : SyncBody → ℕ → Prepare → ℕ → (ended : Bool) → SyncPlace
sync_prepared k i p v true = if nat_lt i 3 then sync_prepares_at k (i + 1) else place.Run
sync_prepared k i p v false = place.Prepare i (prepare_left p v)

-- ---- a word has come

-- a bank that takes the received words of a channel is kept
abbrev pub with_taken : SyncBody → Taker → SyncBody
with_taken k (takers.Bank b) = record k { banks = slice_set k.banks k.at.channel b }
with_taken k (takers.SetUp by) = k

abbrev pub taker_sent : SyncBody → ℕ → Taker
taker_sent k v = taker_of (channel_sent k k.at.channel) k.at.word v

abbrev pub sync_comes : SyncBody → (failed : Bool) → Taker → SyncPlace
sync_comes k failed t = place.Receive (record { run = run_sent k; at = k.at; failed = failed }) t

-- a further job of the sequence is there
abbrev pub has_further_job : SyncBody → Bool
has_further_job k = nat_lt k.job 15 && nat_lt (k.job + 1) (jobs_list k.table k.sequence).count

abbrev pub next_job_of : SyncBody → SyncBody
next_job_of k = record k { job = k.job + 1 }

-- the sequence ends with the word that came
abbrev pub sync_ends : Arrived → (result : ℕ) → SyncPlace
sync_ends r x = place.Serve (serve.Acknowledge r (courses.Ends x))

-- after the last word of a job
abbrev pub sync_job_over : SyncBody → Arrived → (failed further : Bool) → SyncBody × SyncPlace
sync_job_over k r true further = (k, sync_ends r FAILED)
sync_job_over k r false true = (next_job_of k, sync_finds (next_job_of k) (Some r))
sync_job_over k r false false = (k, sync_ends r 0)

abbrev pub sync_arrives : SyncBody → Arrived → ServePlace → SyncBody × SyncPlace
sync_arrives k r (serve.Width x p) = (k, place.Serve (serve.Width x p))
sync_arrives k r _ = sync_job_over k r r.served.failed (has_further_job k)

-- it goes on at a place, with no event
abbrev pub sync_goes_to : SyncBody × SyncPlace → SyncBody × BodyTaken
sync_goes_to (k, p) = (sync_at k p, goes)

-- ---- the window of a further word, and the last one

abbrev pub sync_event : (number : ℕ) → ServePlace → Option Event
sync_event u (serve.Begin r p x) = Some (Start (unit_named u))
sync_event u (serve.Acknowledge r c) = Some Act
sync_event u _ = None

-- a place of it
abbrev pub sync_goes : SyncBody → ServePlace → ℕ → SyncBody × BodyTaken
sync_goes k p v = (sync_at k (place.Serve (serve_takes k.table k.unit p v).0), record { event = sync_event k.unit p; done = None })

abbrev pub sync_serves : SyncBody → ServePlace → ℕ → SyncBody × BodyTaken
sync_serves k (serve.End r x) v = (k, ends None (named (if x == 0 then EOk else ENotOk)) Nothing)
sync_serves k (serve.Stand p) v = (record k { at = p; place = place.Opens }, goes)
sync_serves k (serve.Width r p) v = sync_goes k (serve.Width r p) v
sync_serves k (serve.Find r p f) v = sync_goes k (serve.Find r p f) v
sync_serves k (serve.Begin r p x) v = sync_goes k (serve.Begin r p x) v
sync_serves k (serve.Let r p t) v = sync_goes k (serve.Let r p t) v
sync_serves k (serve.Keep c p) v = sync_goes k (serve.Keep c p) v
sync_serves k (serve.Acknowledge r c) v = sync_goes k (serve.Acknowledge r c) v
sync_serves k (serve.Free r c) v = sync_goes k (serve.Free r c) v
sync_serves k (serve.Release r i t) v = sync_goes k (serve.Release r i t) v
sync_serves k (serve.KeepLast r c) v = sync_goes k (serve.KeepLast r c) v
sync_serves k (serve.Commit r i c) v = sync_goes k (serve.Commit r i c) v
sync_serves k (serve.Result l) v = sync_goes k (serve.Result l) v
-- no other place is in one of these windows
sync_serves k _ v = (k, ends None (named ENotOk) Nothing)

-- ---- its steps

abbrev pub sync_frees : SyncBody → (free : Bool) → SyncBody × BodyTaken
sync_frees k true = (sync_at k (sync_finds k None), goes)
sync_frees k false = (k, in_process k.table)

abbrev pub sync_took : SyncBody → SyncPlace → ℕ → SyncBody × BodyTaken
sync_took k place.Free v = sync_frees k (v == 0)
sync_took k (place.Find b f) v = (sync_at k (sync_found b f v (find_gave f v)), goes)
sync_took k (place.Select b x) v = (sync_at k (place.Width b x), goes)
sync_took k (place.Width b x) v = (sync_at k (place.Begin b x), goes)
sync_took k (place.Begin b x) v = (sync_at k (sync_begun k b), sync_starts k.unit)
sync_took k place.Pend v = (sync_at k (sync_prepares k), goes)
sync_took k (place.Keep r p) v = (sync_at k (sync_keeps k r p (keep_ends p)), goes)
sync_took k (place.Commit r i p) v = (sync_at k (sync_committed k r i p v (has_ended (put_gave p v))), goes)
sync_took k (place.Result r) v = (sync_at k (sync_prepares k), goes)
sync_took k (place.Prepare i p) v = (sync_at k (sync_prepared k i p v (prepare_ends p v)), goes)
sync_took k place.Run v = (sync_at k place.Stand, goes)
sync_took k place.Stand v = (record k { at = first_place; place = place.Nexts }, goes)
sync_took k place.Nexts v = (sync_at k (place.Next (with_next_in v k.sequence k.job)), goes)
sync_took k (place.Next n) v = (sync_at k place.Opens, goes)
sync_took k place.Opens v = (sync_at k place.Wait, goes)
sync_took k place.Wait v = (sync_at k (place.Shut (v / 4 % 2 == 1)), goes)
sync_took k (place.Shut failed) v = (sync_at k (place.Taker failed), goes)
sync_took k (place.Taker failed) v = (sync_at (with_taken k (taker_sent k v)) (sync_comes k failed (taker_sent k v)), goes)
sync_took k (place.Receive r t) v = sync_goes_to (sync_arrives k (record { served = r; taker = t; word = v }) (begins_of k.table (record { served = r; taker = t; word = v })))
sync_took k (place.Serve p) v = sync_serves k p v

abbrev pub sync_takes : SyncBody → ℕ → SyncBody × BodyTaken
sync_takes k v = sync_took k k.place v
