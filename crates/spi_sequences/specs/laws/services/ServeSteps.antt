-- The serving window of a unit: its steps.
-- Used by spi_driver: bookkeeping.PendingWritesRight, bookkeeping.PendingWritesBounds and 33 more.
use Rattle.std.specs.Prelude.{◌+◌, ◌-◌, ◌/◌, ◌%◌, ◌==◌, ◌&&◌, if◌then◌else◌}
use Rattle.spi_sequences.specs.StepTerms
use StepTerms.{Again, again_gave, again_left, again_move, Arrived, asking, Bool, CANCELLED, cancelled_bit}
use StepTerms.{channel_at_place, channel_number, Commit, commit_ends, commit_left, commit_move, committing, drop_gave}
use StepTerms.{drop_left, drop_move, Dropped, Ended, Event, FAILED, false, Find, find_gave, find_left, find_move}
use StepTerms.{finding, has_ended, has_mark, job_of, job_word, JobOver, jobs_list, Keep, keep_ends, keep_left}
use StepTerms.{keep_move, keeping, Leaving, list_of, Load, MARKS, Mask, min, Move, nat_le, nat_lt, next_in, NEXTS, None}
use StepTerms.{not, Notice, notifies_job, notifies_sequence, Option, order_places, packed_position, Placed, placed_of}
use StepTerms.{Position, position_in, position_word, Read, Received, releasing, run_in, Running, running_word}
use StepTerms.{search_of, Sent, sequence_of, sequence_word, SequenceNext, SerialAck, SerialData, SerialReceived}
use StepTerms.{SerialState, SerialWidth, Served, ServePlace, ServeStep, Some, SpiJobEndNotification}
use StepTerms.{SpiSeqEndNotification, SpiTable, Store, suc, Take, take_gave, take_left, take_move, Taker, taker_of}
use StepTerms.{true, with_next_in, Write, zero, ℕ}
use Rattle.spi_sequences.specs.declared.service.serve.ServeStep.TheVariants.{Goes, Over}
use Rattle.mcal_base.specs.declared.moves.Event.TheVariants as events
use Rattle.word_shapes.specs.declared.again.Again.TheVariants as agains
use Rattle.word_shapes.specs.declared.dropped.Dropped.TheVariants as drops
use Rattle.word_shapes.specs.declared.jobs.banks.Commit.TheVariants as commits
use Rattle.word_shapes.specs.declared.jobs.keeping.Taker.TheVariants as takers
use Rattle.spi_sequences.specs.declared.service.serve.SequenceNext.TheVariants as courses
use Rattle.spi_sequences.specs.declared.service.serve.ServePlace.TheVariants as serve

-- the channel of the word, and of another one of its job
abbrev pub channel_served : SpiTable → Served → Placed
channel_served d r = channel_at_place d r.run.job r.at.channel

abbrev pub channel_next : SpiTable → Arrived → Position → Placed
channel_next d r p = channel_at_place d r.served.run.job p.channel

abbrev pub failed_word : Bool → ℕ
failed_word failed = if failed then 1 else 0

abbrev pub serve_move : SpiTable → (number : ℕ) → ServePlace → Move
serve_move d u serve.Shut = Mask
serve_move d u serve.State = Read (SerialState u)
serve_move d u (serve.Running failed) = Load (running_word u)
serve_move d u (serve.Position r failed) = Load (position_word u)
serve_move d u (serve.Taker r) = asking (channel_served d r) r.at.word
serve_move d u (serve.Receive r t) = Read (SerialReceived u)
serve_move d u (serve.Width r p) = Write (SerialWidth u) (channel_next d r p).channel.width
serve_move d u (serve.Find r p f) = find_move f
serve_move d u (serve.Begin r p w) = Write (SerialData u) w
serve_move d u (serve.Let r p t) = take_move t
serve_move d u (serve.Keep k p) = keep_move k
serve_move d u (serve.Stand p) = Store (position_word u) (packed_position p)
serve_move d u (serve.Acknowledge r c) = Write (SerialAck u) 1
serve_move d u (serve.Free r c) = Store (running_word u) 0
serve_move d u (serve.Release r i t) = take_move t
serve_move d u (serve.KeepLast r k) = keep_move k
serve_move d u (serve.Commit r i c) = commit_move c
serve_move d u (serve.Result l) = Store (job_word l.served.run.job) (failed_word l.served.failed)
serve_move d u (serve.Marks r) = Load MARKS
serve_move d u (serve.Nexts r c) = Load NEXTS
serve_move d u (serve.Further r v) = Store NEXTS v
serve_move d u (serve.Again r a) = again_move a
serve_move d u (serve.End r x) = Store (sequence_word r.run.sequence) x
serve_move d u (serve.Drop r p) = drop_move p

-- ---- words of the job

-- the place is the last one of the channel
abbrev pub is_last_place : Placed → ℕ → Bool
is_last_place x i = nat_le x.channel.length (i + 1)

-- how many words the channel of the word has for the job
abbrev pub length_taken : Placed → Taker → ℕ
length_taken x (takers.Bank b) = x.channel.length
length_taken x (takers.SetUp by) = min by.length x.channel.length

-- the place of the word after this one in the job
abbrev pub after_word : (at : Position) → (length count : ℕ) → Option Position
after_word p n k =
    if nat_lt p.word 255 && nat_lt (p.word + 1) n then Some (record { channel = p.channel; word = p.word + 1 })
    else if nat_lt p.channel 3 && nat_lt (p.channel + 1) k then Some (record { channel = p.channel + 1; word = 0 })
    else None

abbrev pub further_of : SpiTable → Arrived → Option Position
further_of d r = after_word r.served.at (length_taken (channel_served d r.served) r.taker) (list_of d r.served.run.job).count

abbrev pub begins_by : Arrived → Option Position → ServePlace
begins_by r None = serve.Marks r
begins_by r (Some p) = serve.Width r p

abbrev pub begins_of : SpiTable → Arrived → ServePlace
begins_of d r = if r.served.failed then serve.Marks r else begins_by r (further_of d r)

abbrev pub keep_of : SpiTable → Arrived → Keep
keep_of d r = keeping (channel_served d r.served) r.served.at.word r.taker r.word

-- nothing is read any more of a channel whose last word has begun
abbrev pub lets_with : SpiTable → Arrived → Position → Placed → ServePlace
lets_with d r p x = if x.channel.internal && is_last_place x p.word then serve.Let r p (releasing x Sent) else serve.Keep (keep_of d r) p

abbrev pub lets_of : SpiTable → Arrived → Position → ServePlace
lets_of d r p = lets_with d r p (channel_next d r p)

-- ---- the end of a job

-- the pin of a channel of the job stands: not all of its words have begun
abbrev pub is_pinned_at : Served → ℕ → Placed → Bool
is_pinned_at r i x = x.channel.internal && not (i == r.at.channel && is_last_place x r.at.word)

-- the place has such a channel
abbrev pub meets_at : SpiTable → (test : Placed → Bool) → Option ℕ → Bool
meets_at d test None = false
meets_at d test (Some c) = test (placed_of d c)

-- the first place among the last n of four whose channel is pinned, and whose channel is internal
abbrev pub first_pinned : SpiTable → Served → ℕ → Option ℕ
first_pinned d r zero = None
first_pinned d r (suc n) =
    if nat_lt 3 n then None
    else if meets_at d (is_pinned_at r (4 - suc n)) (channel_number (list_of d r.run.job) (4 - suc n)) then Some (4 - suc n)
    else first_pinned d r n

abbrev pub first_internal : SpiTable → Served → ℕ → Option ℕ
first_internal d r zero = None
first_internal d r (suc n) =
    if nat_lt 3 n then None
    else if meets_at d (λ x. x.channel.internal) (channel_number (list_of d r.run.job) (4 - suc n)) then Some (4 - suc n)
    else first_internal d r n

abbrev pub release_by : SpiTable → Leaving → Option ℕ → ServePlace
release_by d l None = serve.Result l
release_by d l (Some i) = serve.Release l i (releasing (channel_at_place d l.served.run.job i) Sent)

abbrev pub release_last : SpiTable → Leaving → (count : ℕ) → ServePlace
release_last d l n = release_by d l (first_pinned d l.served n)

-- the bank that takes what a channel received is known of the channel of the last word
abbrev pub commit_with : Placed → (last : Bool) → Taker → Commit
commit_with x true (takers.Bank b) = commits.Put (committing x Received b)
commit_with x true (takers.SetUp by) = commits.Held x
commit_with x false t = commits.Held x

abbrev pub commit_at : SpiTable → Leaving → ℕ → Commit
commit_at d l i = commit_with (channel_at_place d l.served.run.job i) (i == l.served.at.channel) l.taker

abbrev pub commit_by : SpiTable → Leaving → Option ℕ → ServePlace
commit_by d l None = serve.Result l
commit_by d l (Some i) = serve.Commit l i (commit_at d l i)

abbrev pub commit_last : SpiTable → Leaving → (count : ℕ) → ServePlace
commit_last d l n = commit_by d l (first_internal d l.served n)

abbrev pub ends_with : SpiTable → Arrived → Leaving → ServePlace
ends_with d r l = if r.served.failed then release_last d l (4 - r.served.at.channel) else serve.KeepLast l (keep_of d r)

abbrev pub ends_of : SpiTable → Arrived → SequenceNext → ServePlace
ends_of d r c = ends_with d r (record { served = r.served; taker = r.taker; course = c })

-- what follows the job's result
abbrev pub goes_on : Served → SequenceNext → ServePlace
goes_on r (courses.Further v) = serve.Further r v
goes_on r (courses.Ends x) = serve.End r x

-- how the sequence goes on after its job
abbrev pub after_job : SpiTable → Served → (cancelled : Bool) → (nexts : ℕ) → SequenceNext
after_job d r cancelled v =
    if cancelled then courses.Ends CANCELLED
    else if r.failed then courses.Ends FAILED
    else if nat_lt (next_in v r.run.sequence + 1) (jobs_list d r.run.sequence).count then courses.Further (with_next_in v r.run.sequence (next_in v r.run.sequence + 1))
    else courses.Ends 0

-- the notices of the end
abbrev pub job_note : SpiTable → ℕ → Option Notice
job_note d j = if notifies_job (job_of d j) then Some (record { kind = SpiJobEndNotification; id = j }) else None

abbrev pub sequence_note : SpiTable → ℕ → Option Notice
sequence_note d q = if notifies_sequence (sequence_of d q) then Some (record { kind = SpiSeqEndNotification; id = q }) else None

abbrev pub ended_with : SpiTable → Served → (sequence_too : Bool) → Ended
ended_with d r true = record { job = job_note d r.run.job; sequence = sequence_note d r.run.sequence }
ended_with d r false = record { job = job_note d r.run.job; sequence = None }

-- ---- the steps

abbrev pub serve_event : (number : ℕ) → Option Event
serve_event u = Some (events.Serve (26 + u))

abbrev pub serve_run : (failed : Bool) → Option Running → ServePlace × ServeStep
serve_run failed None = (serve.Running failed, Over)
serve_run failed (Some r) = (serve.Position r failed, Goes None)

abbrev pub serve_finds : Arrived → Position → Find → ℕ → Option ℕ → ServePlace × ServeStep
serve_finds r p f v None = (serve.Find r p (find_left f v), Goes None)
serve_finds r p f v (Some w) = (serve.Begin r p w, Goes None)

abbrev pub serve_lets : SpiTable → Arrived → Position → Take → ℕ → (ended : Bool) → ServePlace × ServeStep
serve_lets d r p t v true = (serve.Keep (keep_of d r) p, Goes None)
serve_lets d r p t v false = (serve.Let r p (take_left t v), Goes None)

abbrev pub serve_keeps : Keep → Position → (ended : Bool) → ServePlace × ServeStep
serve_keeps k p true = (serve.Stand p, Goes None)
serve_keeps k p false = (serve.Keep (keep_left k) p, Goes None)

abbrev pub serve_releases : SpiTable → Leaving → ℕ → Take → ℕ → (ended : Bool) → ServePlace × ServeStep
serve_releases d r i t v true = (release_last d r (3 - i), Goes None)
serve_releases d r i t v false = (serve.Release r i (take_left t v), Goes None)

abbrev pub serve_keeps_last : SpiTable → Leaving → Keep → (ended : Bool) → ServePlace × ServeStep
serve_keeps_last d r k true = (commit_last d r 4, Goes None)
serve_keeps_last d r k false = (serve.KeepLast r (keep_left k), Goes None)

abbrev pub serve_commits : SpiTable → Leaving → ℕ → Commit → ℕ → (ended : Bool) → ServePlace × ServeStep
serve_commits d r i c v true = (commit_last d r (3 - i), Goes None)
serve_commits d r i c v false = (serve.Commit r i (commit_left c v), Goes None)

abbrev pub serve_again : SpiTable → Served → Again → ℕ → (ended : Bool) → ServePlace × ServeStep
serve_again d r a v true = (serve.Again r (again_left a v), JobOver (ended_with d r false))
serve_again d r a v false = (serve.Again r (again_left a v), Goes None)

abbrev pub serve_drops : SpiTable → Served → Dropped → ℕ → (ended : Bool) → ServePlace × ServeStep
serve_drops d r p v true = (serve.Drop r (drop_left p v), JobOver (ended_with d r true))
serve_drops d r p v false = (serve.Drop r (drop_left p v), Goes None)

abbrev pub serve_takes : SpiTable → (number : ℕ) → ServePlace → ℕ → ServePlace × ServeStep
serve_takes d u serve.Shut v = (serve.State, Goes None)
serve_takes d u serve.State v = if v / 2 % 2 == 0 then (serve.State, Over) else (serve.Running (v / 4 % 2 == 1), Goes None)
serve_takes d u (serve.Running failed) v = serve_run failed (run_in v)
serve_takes d u (serve.Position r failed) v = (serve.Taker (record { run = r; at = position_in v; failed = failed }), Goes None)
serve_takes d u (serve.Taker r) v = (serve.Receive r (taker_of (channel_served d r) r.at.word v), Goes None)
serve_takes d u (serve.Receive r t) v = (begins_of d (record { served = r; taker = t; word = v }), Goes None)
serve_takes d u (serve.Width r p) v = (serve.Find r p (finding (channel_next d r p) p.word), Goes None)
serve_takes d u (serve.Find r p f) v = serve_finds r p f v (find_gave f v)
serve_takes d u (serve.Begin r p w) v = (lets_of d r p, Goes (serve_event u))
serve_takes d u (serve.Let r p t) v = serve_lets d r p t v (has_ended (take_gave t v))
serve_takes d u (serve.Keep k p) v = serve_keeps k p (keep_ends k)
serve_takes d u (serve.Stand p) v = (serve.Stand p, Over)
serve_takes d u (serve.Marks r) v = (serve.Nexts r (has_mark v (cancelled_bit r.served.run.sequence)), Goes None)
serve_takes d u (serve.Nexts r c) v = (serve.Acknowledge r (after_job d r.served c v), Goes None)
serve_takes d u (serve.Acknowledge r c) v = (serve.Free r c, Goes (serve_event u))
serve_takes d u (serve.Free r c) v = (ends_of d r c, Goes None)
serve_takes d u (serve.Release r i t) v = serve_releases d r i t v (has_ended (take_gave t v))
serve_takes d u (serve.KeepLast r k) v = serve_keeps_last d r k (keep_ends k)
serve_takes d u (serve.Commit r i c) v = serve_commits d r i c v (commit_ends c v)
serve_takes d u (serve.Result l) v = (goes_on l.served l.course, Goes None)
serve_takes d u (serve.Further r x) v = (serve.Again r (agains.Look (order_places u) r.run.sequence), Goes None)
serve_takes d u (serve.Again r a) v = serve_again d r a v (has_ended (again_gave a v))
serve_takes d u (serve.End r x) v = (serve.Drop r (drops.Look (search_of u) r.run.sequence), Goes None)
serve_takes d u (serve.Drop r p) v = serve_drops d r p v (has_ended (drop_gave p v))
