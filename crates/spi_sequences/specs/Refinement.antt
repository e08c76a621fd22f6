-- What frames hold, and how words and registers stand for the machine's state.
use Rattle.std.specs.Prelude.{◌≡◌, ℕ, ◌+◌, ◌<◌, ◌≤◌, ◌==◌, nat_lt, Bool, true, false, ◌&&◌, ◌||◌, not, if◌then◌else◌, List, [], ◌∷◌, map, filter, take, drop, length, replicate, ◌++◌, flat_map, Contains, Option, Some, None, is_some, slice_get, slice_index_or}
use Rattle.std.specs.List.{list_any}
use Rattle.chip_model.specs.Chip.{Chip, word_of, source_length}
use Rattle.chip_blocks.specs.units.Serials.{unit_at}
use Rattle.mcal_base.specs.Bits.{has_bit}
use Rattle.mcal_base.specs.declared.answer.Answer.{Answer}
use Rattle.mcal_base.specs.declared.answer_name.AnswerName.{AnswerName}
use Rattle.mcal_base.specs.declared.answer_name.AnswerName.TheVariants.{EOk, SpiJobOk, SpiJobPending, SpiJobFailed, SpiJobQueued, SpiSeqOk, SpiSeqPending, SpiSeqFailed, SpiSeqCanceled}
use Rattle.mcal_base.specs.declared.moves.Move.{Move}
use Rattle.mcal_base.specs.declared.moves.Move.TheVariants.{Read, Write, Load, Store}
use Rattle.mcal_base.specs.declared.register.Reg.{Reg}
use Rattle.mcal_base.specs.declared.register.Reg.TheVariants.{EnableSet, EnableClear}
use Rattle.run_model.specs.Frame.{Called}
use Rattle.run_model.specs.Outside.{StandsIn}
use Rattle.run_model.specs.World.{World}
use Rattle.run_model.specs.Machine.{named_with}
use Rattle.service_outline.specs.Services.{ReservedBy, SharedRefinement}
use Rattle.word_shapes.specs.Banks.{Banks, Putting, Taking}
use Rattle.word_shapes.specs.Order.{Entry}
use Rattle.word_shapes.specs.Playing.{Memory}
use Rattle.word_shapes.specs.PriorityQueue as ranked
use Rattle.word_shapes.specs.TripleBuffer as trio
use Rattle.word_shapes.specs.jobs.Placing.{trio_of, held_word, set_up_word, packed}
use Rattle.word_shapes.specs.declared.jobs.channel.Channel.{Channel}
use Rattle.word_shapes.specs.declared.jobs.channel.Placed.{Placed}
use Rattle.word_shapes.specs.declared.jobs.channel.Side.TheVariants.{Sent, Received}
use Rattle.spi_machine.specs.Bounds.{HoldsArrays, is_own_word, is_serial, is_word_of, spi_setting}
use Rattle.spi_machine.specs.Channels.{ChannelState, SetUp, is_users, untouched, words_from}
use Rattle.spi_sequences.specs.Going.{Part, Going, GoingAgrees, UnitAgrees, CarriesAgrees, is_to_begin, received_of, taken_of}
use Rattle.spi_sequences.specs.declared.words.Position.{Position}
use Rattle.spi_machine.specs.Machine.{has_done, moved}
use Rattle.spi_machine.specs.Numbered.{first_items}
use Rattle.spi_machine.specs.Promised.{has_failed}
use Rattle.spi_machine.specs.Pending.{Pending, is_pending, shares_job, is_for, job_result, sequence_result}
use Rattle.spi_machine.specs.State.{SpiState, Carrying, Mode, Off, Polling, Interrupt, is_off, is_polling, is_interrupt, channel_at, run_at, is_running, carried_at}
use Rattle.spi_machine.specs.Table.{channel_of, jobs_of, is_sync_unit, length_by}
use Rattle.spi_machine.specs.Transfers.{Run}
use Rattle.spi_machine.specs.Wiring.{placed_of, unit_of_sequence, is_sync_sequence}
use Rattle.spi_sequences.specs.Words.{running_word, order_word, job_word, sequence_word, next_in, has_mark, started_bit, cancelled_bit}
use Rattle.spi_machine.specs.declared.call.Call.{Call}
use Rattle.spi_machine.specs.declared.call.Call.TheVariants.{Init}
use Rattle.spi_machine.specs.declared.call.Call.TheVariants as calls
use Rattle.spi_machine.specs.declared.call.ChannelCall.TheVariants.{WriteIb, ReadIb}
use Rattle.spi_machine.specs.declared.call.SequenceCall.TheVariants.{SyncTransmit}
use Rattle.spi_machine.specs.declared.call.Pointer.{Pointer}
use Rattle.spi_machine.specs.declared.table.SpiTable.{SpiTable}
use Rattle.spi_sequences.specs.declared.words.TheConstants.{STATE, NEXTS, MARKS}

-- ---- what is the module's

-- a register of the module, or a value for one of its lines
abbrev pub has_lines : ℕ → Bool
has_lines v = has_bit v 26 || has_bit v 27 || not (nat_lt v 4294967296)

abbrev pub owns_written : Reg → ℕ → Bool
owns_written EnableSet v = has_lines v
owns_written EnableClear v = has_lines v
owns_written r v = is_serial r

abbrev pub spi_owns : SpiTable → Move → Bool
spi_owns d (Read r) = is_serial r
spi_owns d (Write r v) = owns_written r v
spi_owns d (Load k) = is_word_of d k
spi_owns d (Store k v) = is_word_of d k
spi_owns d _ = false

-- ---- what is held

pub data Reservation : Type 0 where
  -- the frame will start the best job of this unit, if the unit is free
  Debt : (number : ℕ) → Reservation
  -- the frame has left this unit busy, or without a sequence that waits: a start that is due there later a frame above it owes
  Cleared : (number : ℕ) → Reservation
  -- it is the main function, which has acted and serves
  Handling : Reservation
  -- it fills this bank of what the channel sends from this source, has filled in so many words, and has the next one
  -- ready
  Writing : (channel : ℕ) → Pointer → (bank count : ℕ) → (ready : Option ℕ) → Reservation
  -- it has pinned this bank of what the channel received, which has what it answered
  Reading : (channel bank : ℕ) → Reservation
  -- it waits for the word in transfer of its sequence on this unit, at this place of the sequence's job at this place:
  -- these banks have what came in before of internal channels, once the word is done it knows whether the word failed, and
  -- the unit has selected this device
  Sending : (number sequence next : ℕ) → Position → (banks : List ℕ) → (failed : Option Bool) → (device : ℕ) → Reservation
  -- the module is being initialised: these words have these values, these sides of channels have their first words, and
  -- this bank of a side is being filled
  Preparing : (stored : List (ℕ × ℕ)) → (readied : List (ℕ × Bool)) → Option (ℕ × Bool × Putting) → Reservation

abbrev pub Reservations : Type 0
Reservations = List (ReservedBy Call Reservation)

-- what a frame writes that takes its words from this source
abbrev pub to_write : Option Channel → Pointer → (source : List ℕ) → List ℕ
to_write None p xs = []
to_write (Some k) p xs = words_from p k.length k (record untouched { source = xs })

-- the word that is ready is the one of this place
abbrev pub IsReady : (words : List ℕ) → (place : ℕ) → Option ℕ → Type 0
IsReady xs i None = Unit {0}
IsReady xs i (Some v) = v ≡ slice_index_or xs i 0

-- the words that were answered
abbrev pub words_in : Option Answer → List ℕ
words_in None = []
words_in (Some a) = a.words

-- what is held is the frame's, of a module that is initialised or is being so: what it writes are words that its
-- channel is to send, and what it has pinned is its answer
abbrev pub HeldRight : SpiTable → Mode → List ChannelState → ReservedBy Call Reservation → Reservation → Type 0
HeldRight d mode cs h (Debt u) = (u < 2) × (is_off mode ≡ false) × (is_sync_unit d u ≡ false)
HeldRight d mode cs h (Cleared u) = Unit {0}
HeldRight d mode cs h Handling = is_polling mode ≡ true
HeldRight d mode cs h (Writing c p b i x) = (h.by ≡ Called (calls.Channel c (WriteIb p))) × IsReady (to_write (channel_of d c) p (slice_index_or cs c untouched).source) i x × (is_off mode ≡ false) × (is_some (channel_of d c) ≡ true)
HeldRight d mode cs h (Reading c b) = (h.by ≡ Called (calls.Channel c ReadIb)) × (h.acted ≡ Some (named_with EOk (words_in h.acted))) × (is_off mode ≡ false)
HeldRight d mode cs h (Sending u q n at banks failed device) = (h.by ≡ Called (calls.Sequence q SyncTransmit)) × (is_off mode ≡ false)
HeldRight d mode cs h (Preparing stored readied x) = (h.by ≡ Called Init) × (is_off mode ≡ true)

abbrev pub AllRight : SpiTable → Mode → List ChannelState → Reservations → Type 0
AllRight d mode cs [] = Unit {0}
AllRight d mode cs (h ∷ hs) = HeldRight d mode cs h h.what × AllRight d mode cs hs

-- whether a start of the unit is owed, by this and by whether those below owe it
abbrev pub owes_by : (number : ℕ) → Reservation → (below : Bool) → Bool
owes_by u (Debt v) below = v == u || below
owes_by u (Cleared v) below = not (v == u) && below
owes_by u _ below = below

-- some frame owes the unit a start, and none above it has cleared the unit
abbrev pub is_owed : (number : ℕ) → Reservations → Bool
is_owed u [] = false
is_owed u (h ∷ hs) = owes_by u h.what (is_owed u hs)

abbrev pub is_preparing : Reservation → Bool
is_preparing (Preparing stored readied x) = true
is_preparing _ = false

abbrev pub prepares : Reservations → Bool
prepares hs = list_any (λ h. is_preparing h.what) hs

-- the put that a frame makes of what a channel sends, and of what it received while the module is being initialised
abbrev pub put_by : SpiTable → (sources : ℕ → List ℕ) → (channel : ℕ) → (received : Bool) → Reservation → Option Putting
put_by d sources c r (Writing n p b i x) = if not r && n == c then Some (record { bank = b; filled = take i (to_write (channel_of d c) p (sources c)) }) else None
put_by d sources c r (Preparing stored readied (Some x)) = if x.0 == c && (if x.1 then r else not r) then Some x.2 else None
put_by d sources c r _ = None

-- the words that the initialisation has stored so far, and the sides of channels that have their first words
abbrev pub stored_by : Reservation → List (ℕ × ℕ)
stored_by (Preparing stored readied x) = stored
stored_by _ = []

abbrev pub readied_by : Reservation → List (ℕ × Bool)
readied_by (Preparing stored readied x) = readied
readied_by _ = []

abbrev pub or_rest : {A : Type 0} → Option A → Option A → Option A
or_rest None other = other
or_rest (Some x) other = Some x

abbrev pub put_held : SpiTable → (sources : ℕ → List ℕ) → (channel : ℕ) → (received : Bool) → Reservations → Option Putting
put_held d sources c r [] = None
put_held d sources c r (h ∷ hs) = or_rest (put_by d sources c r h.what) (put_held d sources c r hs)

-- the take that a frame makes of what a channel received
abbrev pub take_by : (channel : ℕ) → (acted : Option Answer) → Reservation → Option Taking
take_by c acted (Reading k b) = if k == c then Some (record { bank = b; kept = words_in acted }) else None
take_by c acted _ = None

abbrev pub take_held : (channel : ℕ) → Reservations → Option Taking
take_held c [] = None
take_held c (h ∷ hs) = or_rest (take_by c h.acted h.what) (take_held c hs)

-- all of them, of all frames
abbrev pub stored_in : Reservations → List (ℕ × ℕ)
stored_in hs = flat_map (λ h. stored_by h.what) hs

abbrev pub readied_in : Reservations → List (ℕ × Bool)
readied_in hs = flat_map (λ h. readied_by h.what) hs

-- ---- the machine's state by itself

-- what sequences, jobs and banks stand for, of the machine's state: all but set-ups, the users' destinations, the words
-- in transfer and the wire
pub record View : Type 0 where
  pub mode : Mode
  pub pending : List Pending
  -- the sequence that a unit carries out for a call
  pub begun : (number : ℕ) → Option Pending
  pub requests : ℕ
  pub job_results : List AnswerName
  pub sequence_results : List AnswerName
  pub running : (sequence : ℕ) → Bool
  pub idle : (number : ℕ) → Bool
  pub written : (channel : ℕ) → List ℕ
  pub received : (channel : ℕ) → List ℕ
  pub sources : (channel : ℕ) → List ℕ

abbrev pub entry_carried : Option Carrying → Option Pending
entry_carried None = None
entry_carried (Some x) = Some x.entry

abbrev pub view : SpiState → View
view s = record {
  mode = s.mode;
  pending = s.pending;
  begun = λ u. entry_carried (carried_at s u);
  requests = s.requests;
  job_results = s.job_results;
  sequence_results = s.sequence_results;
  running = is_running s;
  idle = λ u. not (is_some (run_at s u));
  written = λ c. (channel_at s c).written;
  received = λ c. (channel_at s c).received;
  sources = λ c. (channel_at s c).source;
}

-- all sequences under way: those that are pending, and those that the units carry out for calls
abbrev pub entries_begun : Option Pending → List Pending
entries_begun None = []
entries_begun (Some p) = p ∷ []

abbrev pub all_of : View → List Pending
all_of v = v.pending ++ (entries_begun (v.begun 0) ++ entries_begun (v.begun 1))

-- a result that a job has when it isn't queued and doesn't run
abbrev pub IsLast : AnswerName → Type 0
IsLast SpiJobOk = Unit {0}
IsLast SpiJobFailed = Unit {0}
IsLast _ = ⊥

-- a result that a sequence may have
abbrev pub IsOfSequence : AnswerName → Type 0
IsOfSequence SpiSeqOk = Unit {0}
IsOfSequence SpiSeqPending = Unit {0}
IsOfSequence SpiSeqFailed = Unit {0}
IsOfSequence SpiSeqCanceled = Unit {0}
IsOfSequence _ = ⊥

-- a job of a pending sequence that has not run
abbrev pub is_left : SpiTable → (job : ℕ) → Pending → Bool
is_left d j p = list_any (λ k. k == j) (drop p.next (jobs_of d p.sequence))

-- a pending sequence has a next job, on a unit, and the results that its jobs had
pub record IsEntry (d : SpiTable) (v : View) (p : Pending) : Type 0 where
  pub number : p.sequence < 8
  pub next : p.next < length (jobs_of d p.sequence)
  pub had : length p.had ≡ length (jobs_of d p.sequence)
  pub last : (i : ℕ) → i < length p.had → IsLast (slice_index_or p.had i SpiJobOk)
  pub cancelled : p.cancelled ≡ true → v.running p.sequence ≡ true

-- what never ran of a pending sequence is queued, but for the job that runs
pub record Results (d : SpiTable) (v : View) : Type 0 where
  pub queued : (p : Pending) (i : ℕ) → Contains v.pending p → p.next ≤ i → i < length (jobs_of d p.sequence)
      → job_result v.job_results (slice_index_or (jobs_of d p.sequence) i 0) ≡ (if i == p.next && v.running p.sequence then SpiJobPending else SpiJobQueued)
  pub last : (j : ℕ) → list_any (is_left d j) (all_of v) ≡ false → IsLast (job_result v.job_results j)
  pub named : (q : ℕ) → q < 8 → IsOfSequence (sequence_result v.sequence_results q)
  pub sequences : (q : ℕ) → q < 8 → (sequence_result v.sequence_results q ≡ SpiSeqPending → is_pending q (all_of v) ≡ true) × (is_pending q (all_of v) ≡ true → sequence_result v.sequence_results q ≡ SpiSeqPending)

-- a unit carries out sequences for calls, or starts jobs of pending ones; what never ran of such a sequence is queued,
-- but for its job that runs
pub record CarriesRight (d : SpiTable) (v : View) : Type 0 where
  pub unit : (u : ℕ) (p : Pending) → v.begun u ≡ Some p → (u < 2) × (is_sync_unit d u ≡ true) × (unit_of_sequence d p.sequence ≡ u)
  pub asked : (p : Pending) → Contains v.pending p → is_sync_sequence d p.sequence ≡ false
  pub idle : (u : ℕ) → is_sync_unit d u ≡ true → v.idle u ≡ true
  pub queued : (u : ℕ) (p : Pending) (i : ℕ) → v.begun u ≡ Some p → p.next ≤ i → i < length (jobs_of d p.sequence)
      → job_result v.job_results (slice_index_or (jobs_of d p.sequence) i 0) ≡ (if i == p.next then SpiJobPending else SpiJobQueued)
  pub off : is_off v.mode ≡ true → (u : ℕ) → v.begun u ≡ None

-- no two pending sequences have a job in common, and an uninitialised module has none
pub record IsSoundState (d : SpiTable) (v : View) : Type 0 where
  pub entries : (p : Pending) → Contains (all_of v) p → IsEntry d v p
  pub apart : (i j : ℕ) (p q : Pending) → i < j → slice_get v.pending i ≡ Some p → slice_get v.pending j ≡ Some q → (p.request < q.request) × (shares_job d p.sequence q.sequence ≡ false)
  pub requests : (p : Pending) → Contains v.pending p → p.request ≤ v.requests
  pub results : Results d v
  pub carries : CarriesRight d v
  pub few : (u : ℕ) → 2 ≤ u → v.idle u ≡ true
  pub off : is_off v.mode ≡ true → (v.pending ≡ []) × ((u : ℕ) → v.idle u ≡ true)

-- what a unit runs is the next job of a pending sequence that has started, or of the one that it carries out
abbrev pub RunsBy : (sync : Bool) → View → (number : ℕ) → Pending → Type 0
RunsBy true v u p = v.begun u ≡ Some p
RunsBy false v u p = Contains v.pending p × (p.started ≡ true)

abbrev pub RunsNext : SpiTable → View → (number : ℕ) → Option Going → Type 0
RunsNext d v u None = Unit {0}
RunsNext d v u (Some g) = Contains (all_of v) g.pending × RunsBy (is_sync_unit d u) v u g.pending × (is_for d u g.pending ≡ true)

-- ---- sequences

abbrev pub mode_word : Mode → ℕ
mode_word Off = 0
mode_word Polling = 1
mode_word Interrupt = 2

abbrev pub sequence_code : AnswerName → ℕ
sequence_code SpiSeqPending = 1
sequence_code SpiSeqFailed = 2
sequence_code SpiSeqCanceled = 3
sequence_code _ = 0

abbrev pub job_code : AnswerName → ℕ
job_code SpiJobFailed = 1
job_code _ = 0

-- the pending sequences of a unit in the order of their requests; those wait that run no job
abbrev pub entries_of : SpiTable → View → (number : ℕ) → List Entry
entries_of d v u = map (λ p. record { number = p.sequence; waits = not (v.running p.sequence) }) (filter (is_for d u) v.pending)

-- marks and next job of a pending sequence
pub record PendingAgrees (m : Memory) (p : Pending) : Type 0 where
  pub next : next_in (m NEXTS) p.sequence ≡ p.next
  pub started : has_mark (m MARKS) (started_bit p.sequence) ≡ p.started
  pub cancelled : has_mark (m MARKS) (cancelled_bit p.sequence) ≡ p.cancelled

-- the words of sequences and jobs of an initialised module; a job that has not run has the result that it had
pub record SequencesAgree (d : SpiTable) (m : Memory) (v : View) : Type 0 where
  pub sequences : (q : ℕ) → q < 8 → m (sequence_word q) ≡ sequence_code (sequence_result v.sequence_results q)
  pub pending : (p : Pending) → Contains v.pending p → PendingAgrees m p
  pub begun : (u : ℕ) (p : Pending) → v.begun u ≡ Some p → next_in (m NEXTS) p.sequence ≡ p.next
  pub had : (p : Pending) (i : ℕ) → Contains (all_of v) p → p.next ≤ i → i < length (jobs_of d p.sequence) → m (job_word (slice_index_or (jobs_of d p.sequence) i 0)) ≡ job_code (slice_index_or p.had i SpiJobOk)
  pub jobs : (j : ℕ) → j < 16 → list_any (is_left d j) (all_of v) ≡ false → m (job_word j) ≡ job_code (job_result v.job_results j)
  pub orders : (u : ℕ) → u < 2 → ranked.Holds (record { at = order_word u }) m (entries_of d v u)

-- ---- units

-- a unit of an initialised module: what it runs
abbrev pub RunAgrees : SpiTable → Memory → (number : ℕ) → Option Going → Type 0
RunAgrees d m u None = m (running_word u) ≡ 0
RunAgrees d m u (Some g) = GoingAgrees d m u g

-- ---- banks

-- the part of a job under way that this channel has, and its place
abbrev pub HasPart : Option Going → (channel place : ℕ) → Part → Type 0
HasPart None c n x = ⊥
HasPart (Some g) c n x = (slice_get g.parts n ≡ Some x) × (x.channel ≡ c)

-- what a unit sends is pinned while words of the channel are to be begun
abbrev pub Pins : Option Going → (channel : ℕ) → List ℕ → Type 0
Pins None c xs = ⊥
Pins (Some g) c xs = (n : ℕ) × (x : Part) × HasPart (Some g) c n x × (is_to_begin g.at n (length x.values) ≡ true) × (xs ≡ x.values)

abbrev pub PinsNone : Option Going → (channel : ℕ) → Type 0
PinsNone None c = Unit {0}
PinsNone (Some g) c = (n : ℕ) (x : Part) → HasPart (Some g) c n x → is_to_begin g.at n (length x.values) ≡ false

-- what came in of a channel is kept in the bank that the job holds, once a word of it was taken
abbrev pub Keeps : Option Going → (channel : ℕ) → List ℕ → Type 0
Keeps None c xs = ⊥
Keeps (Some g) c xs = (n : ℕ) × (x : Part) × HasPart (Some g) c n x × (0 < taken_of g.at n (length x.values)) × (xs ≡ received_of g n x)

abbrev pub KeepsNone : Option Going → (channel : ℕ) → Type 0
KeepsNone None c = Unit {0}
KeepsNone (Some g) c = (n : ℕ) (x : Part) → HasPart (Some g) c n x → taken_of g.at n (length x.values) ≡ 0

-- the take of what a channel sends is that of the running job, and the put that of the frame that writes
abbrev pub TakeRight : (going : ℕ → Option Going) → (channel : ℕ) → Option Taking → Type 0
TakeRight going c None = (u : ℕ) → u < 2 → PinsNone (going u) c
TakeRight going c (Some x) = (u : ℕ) × (u < 2) × Pins (going u) c x.kept

-- the put of what it received is that of the running job, or of the frame that initialises the module
abbrev pub PutRight : (going : ℕ → Option Going) → Memory → Placed → (held : Option Putting) → Option Putting → Type 0
PutRight going m x None None = (u : ℕ) → u < 2 → KeepsNone (going u) x.number
PutRight going m x None (Some p) = (u : ℕ) × (u < 2) × Keeps (going u) x.number p.filled × (m (held_word x) ≡ p.bank)
PutRight going m x (Some h) p = p ≡ Some h

-- the banks of an internal channel; while the module is being initialised they have not yet the machine's words
pub record BanksAgree (d : SpiTable) (held : Reservations) (going : ℕ → Option Going) (m : Memory) (v : View) (c : ℕ) (k : Channel) : Type 0 where
  pub sent : Banks
  pub sends : trio.Stands (trio_of (placed_of d c) Sent) m sent
  pub written : prepares held ≡ false → sent.newest ≡ first_items 0 k.length (v.written c)
  pub readied_sent : Contains (readied_in held) (c, false) → sent.newest ≡ replicate k.length k.default_data
  pub pinned : TakeRight going c sent.take
  pub writes : sent.put ≡ put_held d v.sources c false held
  pub received : Banks
  pub receives : trio.Stands (trio_of (placed_of d c) Received) m received
  pub readable : prepares held ≡ false → received.newest ≡ first_items 0 k.length (v.received c)
  pub readied_received : Contains (readied_in held) (c, true) → received.newest ≡ replicate k.length 0
  pub reads : received.take ≡ take_held c held
  pub keeps : PutRight going m (placed_of d c) (put_held d v.sources c true held) received.put

-- ---- set-ups

-- a set-up as a word has it, 0 for none
abbrev pub set_up_code : Option SetUp → ℕ
set_up_code None = 0
set_up_code (Some x) = packed (record { source = is_users x.source; destination = is_users x.destination; length = x.words })

-- a set-up of an external channel has at least one word, and no more than its channel
abbrev pub SetUpFits : Channel → Option SetUp → Type 0
SetUpFits k None = Unit {0}
SetUpFits k (Some x) = (0 < x.words) × (x.words ≤ k.length)

-- what an initialised module has of a channel is of its size
pub record ChannelFits (k : Channel) (x : ChannelState) : Type 0 where
  pub written : k.internal ≡ true → length x.written ≡ k.length
  pub set_up : k.internal ≡ false → SetUpFits k x.set_up

-- ---- the words

-- what the words of an initialised module are
pub record OnAgrees (d : SpiTable) (m : Memory) (going : ℕ → Option Going) (v : View) : Type 0 where
  pub sequences : SequencesAgree d m v
  pub runs : (u : ℕ) → u < 2 → RunAgrees d m u (going u)

-- the words agree with the state, with what is held and with what the units do
pub record WordsAgree (d : SpiTable) (held : Reservations) (going : ℕ → Option Going) (m : Memory) (v : View) : Type 0 where
  pub state : m STATE ≡ mode_word v.mode
  pub on : is_off v.mode ≡ false → OnAgrees d m going v
  pub banks : (c : ℕ) (k : Channel) → channel_of d c ≡ Some k → k.internal ≡ true → BanksAgree d held going m v c k
  pub stored : (k n : ℕ) → Contains (stored_in held) (k, n) → (is_own_word d k ≡ true) × (m k ≡ n)

-- the lines of the units are enabled in interrupt mode alone, and those of units that carry out sequences for calls never
abbrev pub LinesAgree : SpiTable → Mode → (enabled : ℕ) → Type 0
LinesAgree d mode enabled = (u : ℕ) → u < 2 → has_bit enabled (26 + u) ≡ is_interrupt mode && not (is_sync_unit d u)

-- a free unit of which a sequence waits is owed a start
abbrev pub AreOwed : SpiTable → Reservations → (going : ℕ → Option Going) → SpiState → Type 0
AreOwed d held going s = (u : ℕ) (p : Pending) → u < 2 → going u ≡ None → Contains s.pending p → is_for d u p ≡ true → is_owed u held ≡ true

-- ---- calls that wait

-- the job that a unit runs for a call
abbrev pub run_carried : Option Carrying → Option Run
run_carried None = None
run_carried (Some x) = Some x.run

-- what a frame knows once its word is done: whether the word failed
abbrev pub KnowsEnd : (now : ℕ) → Option Run → Option Bool → Type 0
KnowsEnd now r None = Unit {0}
KnowsEnd now r (Some failed) = (has_done now r ≡ true) × (has_failed r ≡ failed)

-- the unit of a frame that waits carries out the frame's sequence, as the frame has it
pub record IsSending (d : SpiTable) (chip : Chip) (w : World) (going : ℕ → Option Going) (s : SpiState) (u q n : ℕ) (at : Position) (banks : List ℕ) (failed : Option Bool) (device : ℕ) : Type 0 where
  pub few : u < 2
  pub sync : is_sync_unit d u ≡ true
  pub job : Going
  pub is : going u ≡ Some job
  pub sequence : job.pending.sequence ≡ q
  pub next : job.pending.next ≡ n
  pub place : job.at ≡ at
  pub select : (unit_at chip.serials u).select ≡ device
  pub kept : (i : ℕ) (x : Part) (k : Channel) → slice_get job.parts i ≡ Some x → channel_of d x.channel ≡ Some k → k.internal ≡ true → 0 < taken_of at i (length x.values) → word_of chip (held_word (placed_of d x.channel)) ≡ slice_index_or banks i 0
  pub end : KnowsEnd w.now (run_carried (carried_at s u)) failed

abbrev pub SendingRight : SpiTable → Chip → World → (going : ℕ → Option Going) → SpiState → Reservation → Type 0
SendingRight d chip w going s (Sending u q n at banks failed device) = IsSending d chip w going s u q n at banks failed device
SendingRight d chip w going s _ = Unit {0}

abbrev pub AllSend : SpiTable → Chip → World → (going : ℕ → Option Going) → SpiState → Reservations → Type 0
AllSend d chip w going s [] = Unit {0}
AllSend d chip w going s (h ∷ hs) = SendingRight d chip w going s h.what × AllSend d chip w going s hs

-- a frame waits for a word of this sequence
abbrev pub is_sent : (sequence : ℕ) → Reservation → Bool
is_sent q (Sending u p n at banks failed device) = p == q
is_sent q _ = false

-- each sequence that a unit carries out is some frame's
abbrev pub AreCarried : View → Reservations → Type 0
AreCarried v held = (u : ℕ) (p : Pending) → v.begun u ≡ Some p → list_any (λ h. is_sent p.sequence h.what) held ≡ true

-- ---- the agreement

-- the source arrays of the chip are the channels'
abbrev pub WiredAs : SpiTable → Chip → Type 0
WiredAs d chip = (c : ℕ) → c < 16 → source_length chip c ≡ length_by (channel_of d c)

-- the words and registers agree with the state and with what is held
pub record SpiRepresents (d : SpiTable) (held : Reservations) (chip : Chip) (w : World) (s : SpiState) : Type 0 where
  pub right : AllRight d s.mode s.channels held
  pub outside : StandsIn chip w
  pub wired : WiredAs d chip
  pub size : length chip.serials.units ≡ 2
  pub sound : IsSoundState d (view s)
  -- what each unit does
  pub going : ℕ → Option Going
  pub nexts : (u : ℕ) → u < 2 → RunsNext d (view s) u (going u)
  pub units : (u : ℕ) → u < 2 → is_sync_unit d u ≡ false → UnitAgrees d (unit_at chip.serials u) (run_at s u) (going u)
  pub sends : (u : ℕ) → u < 2 → is_sync_unit d u ≡ true → CarriesAgrees d (unit_at chip.serials u) (run_carried (carried_at s u)) (going u)
  pub sending : AllSend d chip w going s held
  pub carriers : AreCarried (view s) held
  pub words : WordsAgree d held going (word_of chip) (view s)
  pub set_ups : is_off s.mode ≡ false → (c : ℕ) (k : Channel) → channel_of d c ≡ Some k → k.internal ≡ false → word_of chip (set_up_word (placed_of d c)) ≡ set_up_code (channel_at s c).set_up
  pub sizes : is_off s.mode ≡ false → (c : ℕ) (k : Channel) → channel_of d c ≡ Some k → ChannelFits k (channel_at s c)
  pub arrays : (c : ℕ) → HoldsArrays (word_of chip) d s c
  pub lines : LinesAgree d s.mode chip.control.enabled
  pub owed : AreOwed d held going s

-- what all services of the driver stand on, but for the moves that a window owes. Places see the driver words, and what
-- the units have selected and their widths
abbrev pub spi_bare : SpiTable → SharedRefinement SpiState Call
spi_bare d = record {
  setting = spi_setting d;
  wired = WiredAs d;
  lines = λ l. l == 26 || l == 27;
  watches = false;
  owns = λ o made. spi_owns d made;
  count = λ s. 0;
  later = moved d;
  Lag = Unit {0};
  settled = tt;
  Reservation = Reservation;
  represents = λ held gap. SpiRepresents d held;
  Footprint = Memory × (ℕ → ℕ) × (ℕ → ℕ);
  foot = λ chip. (word_of chip, (λ u. (unit_at chip.serials u).select), (λ u. (unit_at chip.serials u).width));
}
