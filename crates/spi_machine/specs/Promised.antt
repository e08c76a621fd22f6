-- What the laws of the machine speak of.
use Rattle.std.specs.Prelude.{◌+◌, ◌++◌, drop, map, slice_get, ◌≡◌, ◌≤◌, ◌<◌, ◌⊎◌, ℕ, ◌==◌, find, Bool, true, false, ◌&&◌, ◌||◌, not, if◌then◌else◌, List, [], ◌∷◌, Contains, Option, Some, None, is_some}
use Rattle.std.specs.List.{list_any, AllByRecursion}
use Rattle.mcal_base.specs.declared.answer_name.AnswerName.{AnswerName}
use Rattle.mcal_base.specs.declared.answer_name.AnswerName.TheVariants.{SpiJobOk, SpiJobFailed, SpiSeqOk, SpiSeqPending, SpiSeqFailed, SpiSeqCanceled}
use Rattle.mcal_base.specs.declared.notice.Notice.{Notice}
use Rattle.mcal_base.specs.declared.notice.NoticeKind.{NoticeKind}
use Rattle.mcal_base.specs.declared.notice.NoticeKind.TheVariants.{SpiSeqEndNotification}
use Rattle.run_model.specs.Machine.{Happening, Acts, Serves, Starts, Aborts, Moves, Restarts, Told, Begun, Outcome}
use Rattle.spi_machine.specs.declared.call.Call.{Call}
use Rattle.spi_machine.specs.declared.call.Call.TheVariants.{Init, DeInit, SetAsyncMode, MainFunctionHandling, Sequence, Get}
use Rattle.spi_machine.specs.declared.call.Query.TheVariants.{Status}
use Rattle.spi_machine.specs.declared.call.SequenceCall.TheVariants.{Cancel}
use Rattle.spi_machine.specs.Machine.{unit_of, run_of, number_of, sent_by, carried_for, is_sync_number}
use Rattle.spi_machine.specs.State.{SpiState, Carrying, channel_at, run_at, job_notice, sequence_notice}
use Rattle.spi_machine.specs.Numbered.{word_at}
use Rattle.spi_machine.specs.Pending.{Pending, is_of, is_pending, has_further, next_job, is_for, keeps_unit, priority_of, job_result, sequence_result}
use Rattle.spi_machine.specs.Table.{job_of, priority_by, jobs_of, sequence_of, notifies_sequence}
use Rattle.spi_machine.specs.Transfers.{Goes, ToDestination, ToChannel, Nowhere, JobWord, Run, goes_on, shown}
use Rattle.spi_machine.specs.declared.table.SpiTable.{SpiTable}

-- ---- what is configured

-- a number stands twice
abbrev pub repeats : List ℕ → Bool
repeats [] = false
repeats (n ∷ ns) = list_any (λ m. m == n) ns || repeats ns

-- no sequence names a job twice, as each configuration that is accepted has it
abbrev pub NamesJobsOnce : SpiTable → Type 0
NamesJobsOnce d = (sequence : ℕ) → repeats (jobs_of d sequence) ≡ false

-- the priorities of jobs are 0 to 3, as each configuration that is accepted has them
abbrev pub HasPriorities : SpiTable → Type 0
HasPriorities d = (job : ℕ) → priority_by (job_of d job) ≤ 3

-- ---- notices, the next job and calls

-- the notice of a sequence's end
abbrev pub is_end : NoticeKind → Bool
is_end SpiSeqEndNotification = true
is_end _ = false

abbrev pub names_end : (sequence : ℕ) → Notice → Bool
names_end q n = is_end n.kind && n.id == q

-- the end of a sequence is told
abbrev pub tells_end : (sequence : ℕ) → Told → Bool
tells_end q t = list_any (names_end q) t.notices

-- the next job of a pending sequence doesn't run before that of another one on their unit
pub data Yields (d : SpiTable) (q other : Pending) : Type 0 where
  -- the other has started and isn't interruptible, and this one isn't such
  ToStarted : keeps_unit d other ≡ true → keeps_unit d q ≡ false → Yields d q other
  -- neither is such, and the other's job has the higher priority
  ToPriority : keeps_unit d other ≡ false → keeps_unit d q ≡ false → priority_of d q < priority_of d other → Yields d q other
  -- among equals this one's request isn't earlier
  ToEarlier : keeps_unit d other ≡ keeps_unit d q → (keeps_unit d q ≡ true) ⊎ (priority_of d q ≡ priority_of d other) → other.request ≤ q.request → Yields d q other

-- one of the pending sequences is the next on a unit: all that are for that unit yield to it
pub record IsNext (d : SpiTable) (u : ℕ) (ps : List Pending) (p : Pending) : Type 0 where
  pub among : Contains ps p
  pub on : is_for d u p ≡ true
  pub first : AllByRecursion (λ q. is_for d u q ≡ true → Yields d q p) ps

-- a running job ends well with the word in transfer
abbrev pub ends_well : Option Run → Bool
ends_well None = false
ends_well (Some r) = not r.transfer.failed && not (goes_on r)

-- a call that initialises
abbrev pub is_init : Call → Bool
is_init Init = true
is_init _ = false

-- a call that changes the whole module: it deinitialises, or sets the mode
abbrev pub is_change : Call → Bool
is_change DeInit = true
is_change (SetAsyncMode m) = true
is_change _ = false

-- a call that needs an initialised module
abbrev pub needs_init : Call → Bool
needs_init Init = false
needs_init MainFunctionHandling = false
needs_init (Get Status) = false
needs_init _ = true

-- a call that sends a sequence and waits for its end
abbrev pub is_sending : Call → Bool
is_sending call = is_some (sent_by (Some call))

-- ---- what happens to a sequence

-- the happening drops all requests
abbrev pub drops : Happening Call → Bool
drops (Acts call times) = is_init call
drops (Restarts reason) = true
drops _ = false

-- a call cancels a sequence
abbrev pub is_cancel : (sequence : ℕ) → Call → Bool
is_cancel q (Sequence k Cancel) = k == q
is_cancel q _ = false

-- a pending sequence was cancelled before, or is cancelled by the happening
abbrev pub is_cancelled : (sequence : ℕ) → Happening Call → Pending → Bool
is_cancelled q (Acts call times) p = p.cancelled || is_cancel q call
is_cancelled q _ p = p.cancelled

-- the happening takes a word that failed
abbrev pub has_failed : Option Run → Bool
has_failed None = false
has_failed (Some r) = r.transfer.failed

abbrev pub takes_failed : SpiState → Happening Call → Bool
takes_failed s (Serves l received) = has_failed (run_of s (unit_of l))
takes_failed s _ = false

-- the result of a sequence that ends: cancelled, else failed, else OK
abbrev pub ends_as : (cancelled failed : Bool) → AnswerName
ends_as true _ = SpiSeqCanceled
ends_as false true = SpiSeqFailed
ends_as false false = SpiSeqOk

-- the results that the jobs of a pending sequence had at its request
abbrev pub had_by : Option Pending → List AnswerName
had_by None = []
had_by (Some p) = p.had

abbrev pub had_of : (sequence : ℕ) → List Pending → List AnswerName
had_of q ps = had_by (find (is_of q) ps)

-- the place of the first job that never ran in a sequence that ends: after the job that ends with it, and the next one
-- where none runs
abbrev pub first_unrun : Happening Call → Pending → ℕ
first_unrun (Serves l received) p = p.next + 1
first_unrun _ p = p.next

-- each of these jobs has the result that stands at its place
abbrev pub HaveResults : (jobs : List ℕ) → (results : List AnswerName) → List AnswerName → Type 0
HaveResults jobs results rs = (n j : ℕ) (x : AnswerName) → slice_get jobs n ≡ Some j → slice_get results n ≡ Some x → job_result rs j ≡ x

-- the jobs of a sequence that never ran have what they had at the request, where none is named twice
abbrev pub GivesBack : SpiTable → Happening Call → Pending → List AnswerName → Type 0
GivesBack d h p rs = repeats (jobs_of d p.sequence) ≡ false → HaveResults (drop (first_unrun h p) (jobs_of d p.sequence)) (drop (first_unrun h p) p.had) rs

-- what comes of a happening for a sequence
pub data Turn (d : SpiTable) (q : ℕ) (s : SpiState) (h : Happening Call) (out : Outcome SpiState) : Type 0 where
  -- it is pending or not as before, with the same result, and with what its jobs had, and no end is told
  Stays : is_pending q out.state.pending ≡ is_pending q s.pending → sequence_result out.state.sequence_results q ≡ sequence_result s.sequence_results q
      → had_of q out.state.pending ≡ had_of q s.pending → tells_end q out.told ≡ false → Turn d q s h out
  -- it wasn't pending, and was requested, with the results that its jobs have
  Begins : is_pending q s.pending ≡ false → is_pending q out.state.pending ≡ true → sequence_result out.state.sequence_results q ≡ SpiSeqPending
      → had_of q out.state.pending ≡ map (job_result s.job_results) (jobs_of d q) → tells_end q out.told ≡ false → Turn d q s h out
  -- it was pending, and ended, and its jobs that never ran have what they had: it is cancelled, its job failed, or no
  -- further job is there; its result says which, and is told where its notice is configured
  Ends : (p : Pending) → find (is_of q) s.pending ≡ Some p → is_pending q out.state.pending ≡ false
      → is_cancelled q h p || takes_failed s h || not (has_further d p) ≡ true
      → sequence_result out.state.sequence_results q ≡ ends_as (is_cancelled q h p) (takes_failed s h)
      → GivesBack d h p out.state.job_results → tells_end q out.told ≡ notifies_sequence (sequence_of d q) → Turn d q s h out

-- an initialisation: a sequence wasn't pending and isn't, its result is OK, and no end is told
pub record Renewed (q : ℕ) (s : SpiState) (out : Outcome SpiState) : Type 0 where
  pub was : is_pending q s.pending ≡ false
  pub is : is_pending q out.state.pending ≡ false
  pub result : sequence_result out.state.sequence_results q ≡ SpiSeqOk
  pub told : tells_end q out.told ≡ false

-- a sequence ends as cancelled, with its notice where that is configured
pub record EndsCancelled (d : SpiTable) (q : ℕ) (out : Outcome SpiState) : Type 0 where
  pub notice : out.told.notices ≡ sequence_notice d q
  pub over : is_pending q out.state.pending ≡ false
  pub result : sequence_result out.state.sequence_results q ≡ SpiSeqCanceled

-- ---- what happens to words

-- a word goes to this place of a user's destination array, or of an internal channel's received words
abbrev pub goes_to_array : (channel place : ℕ) → JobWord → Goes → Bool
goes_to_array c i x ToDestination = x.channel == c && x.place == i
goes_to_array c i x ToChannel = false
goes_to_array c i x Nowhere = false

abbrev pub goes_to_channel : (channel place : ℕ) → JobWord → Goes → Bool
goes_to_channel c i x ToDestination = false
goes_to_channel c i x ToChannel = x.channel == c && x.place == i
goes_to_channel c i x Nowhere = false

-- one of these words goes to this place of an internal channel
abbrev pub go_there : (channel place : ℕ) → List JobWord → Bool
go_there c i xs = list_any (λ x. goes_to_channel c i x x.goes) xs

-- a word of a user's destination array, by its place
abbrev pub destination_word : SpiState → (channel place : ℕ) → ℕ
destination_word s c i = word_at (channel_at s c).destination i

-- the words that are stored are as before, the unit is free, and the job has failed
pub record FailsJob (u job : ℕ) (s after : SpiState) : Type 0 where
  pub stored : after.channels ≡ s.channels
  pub free : run_at after u ≡ None
  pub result : job_result after.job_results job ≡ SpiJobFailed

-- the result of a job that ends
abbrev pub job_ends_as : (failed : Bool) → AnswerName
job_ends_as true = SpiJobFailed
job_ends_as false = SpiJobOk

-- the running job of a sequence ends with a result: the unit is free, and its notice is given, and then the sequence's
-- if that ends
pub record EndsJob (d : SpiTable) (u : ℕ) (p : Pending) (given : AnswerName) (out : Outcome SpiState) : Type 0 where
  pub free : run_at out.state u ≡ None
  pub result : job_result out.state.job_results (next_job d p) ≡ given
  pub notices : out.told.notices ≡ job_notice d (next_job d p) ++ (if is_pending p.sequence out.state.pending then [] else sequence_notice d p.sequence)

-- the job of a sequence that a unit carries out for a call ends well with the word in transfer
abbrev pub carried_well : Option Carrying → Bool
carried_well None = false
carried_well (Some x) = ends_well (Some x.run)

abbrev pub sends_well : SpiTable → SpiState → (sequence : Option ℕ) → Bool
sends_well d s None = false
sends_well d s (Some q) = carried_well (carried_for d s q)

-- received words may become readable: at the good end of a job, at an initialisation and at a reset
abbrev pub renews : SpiTable → SpiState → Happening Call → Bool
renews d s (Acts call times) = is_init call || sends_well d s (sent_by (Some call))
renews d s (Serves l received) = ends_well (run_of s (unit_of l))
renews d s (Starts u made_by received) = is_sync_number d (number_of u) && sends_well d s (sent_by made_by)
renews d s (Aborts u) = false
renews d s (Moves order) = false
renews d s (Restarts reason) = true

-- ---- where a word begins

-- a job goes on as its line is served
abbrev pub does_go_on : Option Run → Bool
does_go_on None = false
does_go_on (Some r) = goes_on r

-- a word begins: at a start, and at a serving where the job goes on
abbrev pub is_beginning : SpiState → Happening Call → Bool
is_beginning s (Acts call times) = false
is_beginning s (Serves l received) = does_go_on (run_of s (unit_of l))
is_beginning s (Starts u made_by received) = true
is_beginning s (Aborts u) = false
is_beginning s (Moves order) = false
is_beginning s (Restarts reason) = false

-- the happening is a reset
abbrev pub is_reset : Happening Call → Bool
is_reset (Restarts reason) = true
is_reset _ = false

-- what comes in with a word that a happening begins
abbrev pub received_at : Happening Call → ℕ
received_at (Serves l received) = received
received_at (Starts u made_by received) = received
received_at _ = 0

-- what the wire of a unit shows of a word that begins: what is sent, and what comes in
abbrev pub shown_on : (number received : ℕ) → Option Begun → List (ℕ × ℕ)
shown_on u received None = []
shown_on u received (Some b) = if b.unit == u then (b.word, shown b.width received) ∷ [] else []
