-- A call that sends a sequence and waits: what its frame holds at each place, what stands there, and the steps and the
-- moves that it has left.
use Rattle.std.specs.Prelude.{◌≡◌, ◌+◌, ◌-◌, ◌*◌, ◌<◌, ◌==◌, if◌then◌else◌, [], ◌∷◌}
use Rattle.spi_laws.specs.sending.Terms
use Terms.{Answer, Arrived, begins_of, Bool, Call, Called, Cancels, carried_at, Channel, channel_at_place, channel_of}
use Terms.{channels_of, ENotOk, EOk, FAILED, false, Find, find_more, first_place, Footing, FrameHistory, fresh_history}
use Terms.{has_further_job, is_off, is_sent, is_some, is_sync_sequence, IsLast, IsTaken, IsThisFrame, job_at_place}
use Terms.{job_of, job_words, jobs_list, jobs_of, JobWord, length, List, list_any, LongBodies, LooksAt, Memory, named}
use Terms.{nat_lt, no_word, None, Option, Origin, Outside, PendingWrites, PointAssertion, Position, Reservation}
use Terms.{Reservations, run_sent, select_by, select_of, Sending, Sends, sequence_of, SequenceNext, serve_fuel}
use Terms.{serve_room, Served, ServePlace, slice_get, slice_index_or, Some, spi_bare, spi_basis, spi_owing, SpiState}
use Terms.{SpiTable, suc, sync_owed, sync_takes, sync_work, SyncBody, SyncPlace, SyncTransmit, Taker, true, Under}
use Terms.{unit_of_sequence, Units, Wholes, will_give, Windows, windows, Within, word_place, World, zero, ℕ}
use Rattle.word_shapes.specs.declared.jobs.keeping.Taker.TheVariants as takers
use Rattle.spi_machine.specs.declared.call.Call.TheVariants as calls
use Rattle.spi_sequences.specs.declared.service.serve.SequenceNext.TheVariants as courses
use Rattle.spi_sequences.specs.declared.service.serve.ServePlace.TheVariants as serve
use Rattle.spi_sequences.specs.declared.service.sync.SyncPlace.TheVariants as place

-- ---- the frame

-- the frame is of this call and has told nothing yet; it works on the sequence's unit, and none below it sends the
-- sequence
pub record IsSender (d x : SpiTable) (q u : ℕ) (banks : List ℕ) (below : Reservations) (o : Origin Call) (t : FrameHistory) : Type 0 where
  pub this : IsThisFrame (Called (calls.Sequence q SyncTransmit)) fresh_history o t
  pub table : x ≡ d
  pub small : q < 8
  pub known : is_some (sequence_of d q) ≡ true
  pub sync : is_sync_sequence d q ≡ true
  pub unit : u ≡ unit_of_sequence d q
  pub four : length banks ≡ 4
  pub alone : list_any (λ h. is_sent q h.what) below ≡ false

abbrev pub SenderOf : SpiTable → SyncBody → Reservations → Origin Call → FrameHistory → Type 0
SenderOf d k below o t = IsSender d k.table k.sequence k.unit k.banks below o t

-- ---- what it holds

-- the device of the job at a place of a sequence
abbrev pub device_at : SpiTable → (sequence place : ℕ) → ℕ
device_at d q n = select_of (select_by (job_of d (job_at_place d q n)))

abbrev pub device_sent : SyncBody → ℕ
device_sent k = device_at k.table k.sequence k.job

-- its unit with a word in transfer, of the job at a place; once the word is done it knows whether it failed
abbrev pub holds_word : SyncBody → (next : ℕ) → Position → (failed : Option Bool) → (device : ℕ) → List Reservation
holds_word k n at failed device = Sending k.unit k.sequence n at k.banks failed device ∷ []

-- before the first word of a job: nothing, or the last word of the job before
abbrev pub holds_before : SyncBody → Option Arrived → (device : ℕ) → List Reservation
holds_before k None device = []
holds_before k (Some r) device = holds_word k (k.job - 1) r.served.at (Some false) device

-- ---- what stands at its places

-- the first word of a job, as its channels stand
abbrev pub first_of : SpiTable → SpiState → (job : ℕ) → JobWord
first_of d s j = slice_index_or (job_words d s j) 0 no_word

abbrev pub word_sent : SpiTable → SpiState → SyncBody → JobWord
word_sent d s k = first_of d s (run_sent k).job

-- the frame keeps the bank that its word goes to
abbrev pub HasBank : SyncBody → Taker → Type 0
HasBank k (takers.Bank b) = slice_index_or k.banks k.at.channel 0 ≡ b
HasBank k (takers.SetUp by) = Unit {0}

-- what is true of the unit before the first word of a job: it is free, or the last word of the job before is done
abbrev pub BeforeJob : SpiTable → SyncBody → Option Arrived → Footing → World → SpiState → Type 0
BeforeJob d k None f w s = (carried_at s k.unit ≡ None) × (k.job ≡ 0) × (is_off s.mode ≡ false)
BeforeJob d k (Some r) f w s = IsLast d f.0 s w.now k.unit r × (r.served.failed ≡ false) × (0 < k.job) × (k.job < length (jobs_of d k.sequence)) × (r.served.run.job ≡ job_at_place d k.sequence (k.job - 1)) × (r.served.at ≡ k.at) × HasBank k r.taker

-- the first word is looked for
pub record IsSeeking (d : SpiTable) (k : SyncBody) (p : Find) (m : Memory) (s : SpiState) : Type 0 where
  pub number : ℕ
  pub channel : Channel
  pub first : slice_get (channels_of d (run_sent k).job) 0 ≡ Some number
  pub known : channel_of d number ≡ Some channel
  pub looks : LooksAt d number channel p
  pub will : will_give m p ≡ (word_sent d s k).sent

-- the word in transfer is the frame's, and the frame keeps the bank that it goes to
abbrev pub IsAt : SyncBody → Served → Taker → Type 0
IsAt k r t = (r.run ≡ run_sent k) × (r.at ≡ k.at) × HasBank k t

-- the sequence ends with the word that came, and so
abbrev pub EndsWith : SyncBody → Arrived → (result : ℕ) → Type 0
EndsWith k a x = (x ≡ (if a.served.failed then FAILED else 0)) × (a.served.failed ≡ false → has_further_job k ≡ false)

abbrev pub none_stands : (d : SpiTable) → PointAssertion (spi_basis d)
none_stands d = Within (Under tt) [] (λ below f w s o t. ⊥)

-- in the window of a further word, and in the last one
abbrev pub window_spot : (d : SpiTable) → SyncBody → Served → Taker → (stands : Footing → World → SpiState → Type 0) → PointAssertion (spi_basis d)
window_spot d k r x stands = Within (Under tt) (holds_word k k.job k.at (Some r.failed) (device_sent k)) (λ below f w s o t. SenderOf d k below o t × IsAt k r x × stands f w s)

abbrev pub serve_spot : (d : SpiTable) → SyncBody → ServePlace → PointAssertion (spi_basis d)
serve_spot d k (serve.Width a p) = window_spot d k a.served a.taker (word_place d k.unit (serve.Width a p))
serve_spot d k (serve.Find a p x) = window_spot d k a.served a.taker (word_place d k.unit (serve.Find a p x))
serve_spot d k (serve.Begin a p v) = window_spot d k a.served a.taker (word_place d k.unit (serve.Begin a p v))
serve_spot d k (serve.Acknowledge a (courses.Ends x)) = window_spot d k a.served a.taker (λ f w s. IsLast d f.0 s w.now k.unit a × EndsWith k a x)
serve_spot d k _ = none_stands d

-- before the first word of a job, with this device selected
abbrev pub job_spot : (d : SpiTable) → SyncBody → Option Arrived → (device : ℕ) → (stands : Footing → SpiState → Type 0) → PointAssertion (spi_basis d)
job_spot d k b device stands = Within (Under tt) (holds_before k b device) (λ below f w s o t. SenderOf d k below o t × BeforeJob d k b f w s × stands f s)

-- the device of the job before
abbrev pub device_before : SyncBody → ℕ
device_before k = device_at k.table k.sequence (k.job - 1)

abbrev pub sync_spot : (d : SpiTable) → SyncBody → SyncPlace → PointAssertion (spi_basis d)
sync_spot d k place.Free = Within (Under tt) [] (λ below f w s o t. SenderOf d k below o t × (k.job ≡ 0) × (is_off s.mode ≡ false))
sync_spot d k (place.Find b p) = job_spot d k b (device_before k) (λ f s. IsSeeking d k p f.0 s)
sync_spot d k (place.Select b x) = job_spot d k b (device_before k) (λ f s. x ≡ (word_sent d s k).sent)
sync_spot d k (place.Width b x) = job_spot d k b (device_sent k) (λ f s. (x ≡ (word_sent d s k).sent) × (f.1 k.unit ≡ device_sent k))
sync_spot d k (place.Begin b x) = job_spot d k b (device_sent k) (λ f s. (x ≡ (word_sent d s k).sent) × (f.1 k.unit ≡ device_sent k) × (f.2 k.unit ≡ (word_sent d s k).width))
sync_spot d k place.Opens = Within (Under tt) (holds_word k k.job k.at None (device_sent k)) (λ below f w s o t. SenderOf d k below o t)
sync_spot d k place.Wait = Outside (holds_word k k.job k.at None (device_sent k)) (λ below o t. SenderOf d k below o t)
sync_spot d k (place.Shut failed) = Outside (holds_word k k.job k.at (Some failed) (device_sent k)) (λ below o t. SenderOf d k below o t)
sync_spot d k (place.Taker failed) = Within (Under tt) (holds_word k k.job k.at (Some failed) (device_sent k)) (λ below f w s o t. SenderOf d k below o t)
sync_spot d k (place.Receive r x) = window_spot d k r x (λ f w s. IsTaken d f.0 s w.now k.unit r x)
sync_spot d k (place.Serve p) = serve_spot d k p
sync_spot d k _ = none_stands d

-- ---- the steps that are left

-- the words of a job, of each of its four places at least one
abbrev pub at_least_one : ℕ → ℕ
at_least_one zero = 1
at_least_one (suc n) = suc n

abbrev pub size_at : SpiTable → (job place : ℕ) → ℕ
size_at d j i = at_least_one (channel_at_place d j i).channel.length

-- at the last n places
abbrev pub sizes_of : SpiTable → (job : ℕ) → ℕ → ℕ
sizes_of d j zero = 0
sizes_of d j (suc n) = size_at d j (3 - n) + sizes_of d j n

-- after the one at this place
abbrev pub words_left : SpiTable → (job : ℕ) → Position → ℕ
words_left d j p = (size_at d j p.channel - (p.word + 1)) + sizes_of d j (3 - p.channel)

-- after the last word of the job at place n of a sequence, where at most m jobs follow
abbrev pub jobs_left : SpiTable → (sequence place : ℕ) → ℕ → ℕ
jobs_left d q n zero = 24
jobs_left d q n (suc m) = if nat_lt (n + 1) (jobs_list d q).count then 33 + 15 * words_left d (job_at_place d q (n + 1)) first_place + jobs_left d q (n + 1) m else 24

abbrev pub after_job : SpiTable → (sequence place : ℕ) → ℕ
after_job d q n = jobs_left d q n (15 - n)

-- from the opening of the mask on, with a word in transfer
abbrev pub from_word : SpiTable → (sequence place : ℕ) → Position → ℕ
from_word d q n p = 5 + 15 * words_left d (job_at_place d q n) p + after_job d q n

-- ---- what comes after the moves that it owes

-- it waits for the word at a place of the job at a place, or ends with this result
pub data SendAhead : Type 0 where
  ToWait : (job : ℕ) → Position → SendAhead
  ToEnd : (result : ℕ) → SendAhead
  Astray : SendAhead

abbrev pub ends_ahead : SequenceNext → SendAhead
ends_ahead (courses.Ends x) = ToEnd x
ends_ahead (courses.Further v) = Astray

abbrev pub window_ahead : SyncBody → ServePlace → SendAhead
window_ahead k (serve.Width a p) = ToWait k.job p
window_ahead k (serve.Find a p x) = ToWait k.job p
window_ahead k (serve.Begin a p v) = ToWait k.job p
window_ahead k (serve.Let a p t) = ToWait k.job p
window_ahead k (serve.Keep x p) = ToWait k.job p
window_ahead k (serve.Stand p) = ToWait k.job p
window_ahead k (serve.Acknowledge a c) = ends_ahead c
window_ahead k (serve.Free a c) = ends_ahead c
window_ahead k (serve.Release l i t) = ends_ahead l.course
window_ahead k (serve.KeepLast l x) = ends_ahead l.course
window_ahead k (serve.Commit l i c) = ends_ahead l.course
window_ahead k (serve.Result l) = ends_ahead l.course
window_ahead k (serve.End r x) = ToEnd x
window_ahead k _ = ToEnd 0

abbrev pub sync_ahead : SyncBody → SyncPlace → SendAhead
sync_ahead k place.Nexts = ToWait k.job k.at
sync_ahead k (place.Next v) = ToWait k.job k.at
sync_ahead k (place.Serve p) = window_ahead k p
sync_ahead k p = ToWait k.job first_place

pub record SendAbout : Type 0 where
  pub table : SpiTable
  pub sequence : ℕ
  pub unit : ℕ
  pub banks : List ℕ
  pub ahead : SendAhead

abbrev pub about_body : SyncBody → SendAhead → SendAbout
about_body k x = record { table = k.table; sequence = k.sequence; unit = k.unit; banks = k.banks; ahead = x }

abbrev pub about_sent : PendingWrites → Option SendAbout
about_sent (Sends k) = Some (about_body k (sync_ahead k k.place))
about_sent (Units k) = None
about_sent (Cancels k) = None
about_sent (Wholes k) = None

abbrev pub ahead_holds : SendAbout → SendAhead → List Reservation
ahead_holds x (ToWait n p) = Sending x.unit x.sequence n p x.banks None (device_at x.table x.sequence n) ∷ []
ahead_holds x (ToEnd v) = []
ahead_holds x Astray = []

abbrev pub about_holds : Option SendAbout → List Reservation
about_holds None = []
about_holds (Some x) = ahead_holds x x.ahead

-- the answer of the call, by the result of its sequence
abbrev pub sent_answer : (result : ℕ) → Answer
sent_answer x = named (if x == 0 then EOk else ENotOk)

abbrev pub has_answered : (result : ℕ) → FrameHistory
has_answered x = record fresh_history { acted = Some (sent_answer x) }

abbrev pub StandsAhead : SpiTable → SendAbout → SendAhead → Reservations → Origin Call → FrameHistory → Type 0
StandsAhead d x (ToWait n p) below o t = IsSender d x.table x.sequence x.unit x.banks below o t
StandsAhead d x (ToEnd v) below o t = IsThisFrame (Called (calls.Sequence x.sequence SyncTransmit)) (has_answered v) o t
StandsAhead d x Astray below o t = ⊥

abbrev pub StandsAbout : SpiTable → Option SendAbout → Reservations → Origin Call → FrameHistory → Type 0
StandsAbout d None below o t = ⊥
StandsAbout d (Some x) below o t = StandsAhead d x x.ahead below o t

abbrev pub ahead_steps : SpiTable → (sequence : ℕ) → SendAhead → ℕ
ahead_steps x q (ToWait n p) = from_word x q n p
ahead_steps x q (ToEnd v) = 0
ahead_steps x q Astray = 1

abbrev pub about_steps : Option SendAbout → ℕ
about_steps None = 0
about_steps (Some x) = ahead_steps x.table x.sequence x.ahead

-- ---- bounds

-- from the first word of a job on, with the moves that its window owes
abbrev pub job_fuel : SyncBody → Option Arrived → ℕ
job_fuel k None = 13 + from_word k.table k.sequence k.job first_place
job_fuel k (Some r) = 23 + from_word k.table k.sequence k.job first_place

abbrev pub window_fuel : SyncBody → ServePlace → ℕ
window_fuel k p = serve_fuel p + ahead_steps k.table k.sequence (window_ahead k p)

-- after a word has come
abbrev pub arrives_fuel : SyncBody → ServePlace → ℕ
arrives_fuel k (serve.Width a p) = window_fuel k (serve.Width a p)
arrives_fuel k _ = after_job k.table k.sequence k.job

abbrev pub sync_fuel : SyncBody → SyncPlace → ℕ
sync_fuel k place.Free = 19 + from_word k.table k.sequence k.job first_place
sync_fuel k (place.Find b p) = 4 + find_more p + job_fuel k b
sync_fuel k (place.Select b x) = 3 + job_fuel k b
sync_fuel k (place.Width b x) = 2 + job_fuel k b
sync_fuel k (place.Begin b x) = 1 + job_fuel k b
sync_fuel k place.Opens = from_word k.table k.sequence k.job k.at
sync_fuel k place.Wait = 4 + 15 * words_left k.table (run_sent k).job k.at + after_job k.table k.sequence k.job
sync_fuel k (place.Shut failed) = 3 + 15 * words_left k.table (run_sent k).job k.at + after_job k.table k.sequence k.job
sync_fuel k (place.Taker failed) = 2 + 15 * words_left k.table (run_sent k).job k.at + after_job k.table k.sequence k.job
sync_fuel k (place.Receive r x) = 1 + arrives_fuel k (begins_of k.table (record { served = r; taker = x; word = 0 }))
sync_fuel k (place.Serve p) = window_fuel k p
sync_fuel k p = 0

abbrev pub job_room : Option Arrived → ℕ
job_room None = 14
job_room (Some r) = 24

abbrev pub window_room : ServePlace → ℕ
window_room (serve.Acknowledge a c) = 24
window_room p = serve_room p

abbrev pub sync_room : SyncPlace → ℕ
sync_room place.Free = 19
sync_room (place.Find b p) = 3 + find_more p + job_room b
sync_room (place.Select b x) = 2 + job_room b
sync_room (place.Width b x) = 1 + job_room b
sync_room (place.Begin b x) = job_room b
sync_room (place.Taker failed) = 30
sync_room (place.Receive r x) = 29
sync_room (place.Serve p) = window_room p
sync_room p = 0

-- it has read and written nothing before it knows whether its unit is free
abbrev pub sync_clean : SyncPlace → Bool
sync_clean place.Free = true
sync_clean _ = false

-- ---- the bodies

abbrev pub sync_windows : (d : SpiTable) → Windows (spi_bare d) PendingWrites (Option SendAbout) SyncBody (spi_owing d)
sync_windows d = record {
  bodies = record { work_of = sync_work; takes = sync_takes; fuel = λ k. sync_fuel k k.place; room = λ k. sync_room k.place; clean = λ k. sync_clean k.place; assertion = λ k. sync_spot d k k.place };
  owes = sync_owed;
  about = about_sent;
  hold = about_holds;
  place = StandsAbout d;
  steps_after = about_steps;
  room_after = λ x. 0;
}

abbrev pub sync_bodies : (d : SpiTable) → LongBodies (spi_basis d) SyncBody
sync_bodies d = windows (sync_windows d)
