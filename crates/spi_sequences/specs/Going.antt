-- A job under way: how its words stand in registers and driver words.
use Rattle.std.specs.Prelude.{◌≡◌, ℕ, ◌+◌, ◌<◌, ◌≤◌, ◌==◌, nat_lt, Bool, true, false, ◌&&◌, ◌||◌, if◌then◌else◌, List, map, take, drop, length, sum_by, flat_map, Option, Some, None, slice_get, slice_index_or}
use Rattle.chip_blocks.specs.declared.units.serial.Serial.{Serial}
use Rattle.chip_blocks.specs.declared.units.serial.Word as chips
use Rattle.run_model.specs.Machine.{select_of}
use Rattle.word_shapes.specs.Playing.{Memory}
use Rattle.word_shapes.specs.jobs.Placing.{held_word, source_word, packed}
use Rattle.word_shapes.specs.declared.jobs.channel.Channel.{Channel}
use Rattle.word_shapes.specs.declared.jobs.channel.Placed.{Placed}
use Rattle.word_shapes.specs.declared.jobs.set_up.SetUp.{SetUp}
use Rattle.spi_machine.specs.Pending.{Pending, next_job}
use Rattle.spi_machine.specs.Table.{channel_of, channels_of, job_of, select_by}
use Rattle.spi_machine.specs.Transfers.{Goes, ToDestination, ToChannel, Nowhere, JobWord, Run, Transfer, as_words}
use Rattle.spi_machine.specs.Wiring.{placed_of}
use Rattle.spi_sequences.specs.Words.{running_word, position_word, packed_run, packed_position}
use Rattle.spi_machine.specs.declared.table.SpiTable.{SpiTable}
use Rattle.spi_sequences.specs.declared.words.Position.{Position}

-- What a job sends of one of its channels, before it is masked, and where goes what comes in.
pub record Part : Type 0 where
  pub channel : ℕ
  pub values : List ℕ
  pub goes : Goes

-- A job under way: its pending sequence, its parts by the places of its channels, the place of its word in transfer,
-- and what came in before that one.
pub record Going : Type 0 where
  pub pending : Pending
  pub parts : List Part
  pub at : Position
  pub received : List ℕ

-- ---- places in a job

-- words of the part at this place are still to be begun
abbrev pub is_to_begin : Position → (place : ℕ) → (count : ℕ) → Bool
is_to_begin p n k = nat_lt p.channel n || (n == p.channel && nat_lt (p.word + 1) k)

-- a word of it is still to be begun
abbrev pub is_ahead : Position → (place word : ℕ) → Bool
is_ahead p n i = nat_lt p.channel n || (n == p.channel && nat_lt p.word i)

-- how many words of the part at this place have been taken, and how many were before them
abbrev pub taken_of : Position → (place count : ℕ) → ℕ
taken_of p n k = if nat_lt n p.channel then k else if n == p.channel then p.word else 0

abbrev pub words_before : List Part → (place : ℕ) → ℕ
words_before xs n = sum_by (λ x. length x.values) (take n xs)

-- what came in with them
abbrev pub received_of : Going → (place : ℕ) → Part → List ℕ
received_of g n x = take (taken_of g.at n (length x.values)) (drop (words_before g.parts n) g.received)

-- ---- the parts

-- the width of a channel
abbrev pub width_by : Option Channel → ℕ
width_by None = 0
width_by (Some k) = k.width

-- the words of a job are those of its parts, and this is its run with a word in transfer
abbrev pub words_of : SpiTable → List Part → List JobWord
words_of d xs = flat_map (λ x. as_words x.channel (width_by (channel_of d x.channel)) x.goes x.values) xs

abbrev pub run_of : SpiTable → Going → Transfer → Run
run_of d g t = record { sequence = g.pending.sequence; words = words_of d g.parts; received = g.received; transfer = t }

-- where words of a set-up go
abbrev pub goes_by : (destination : Bool) → Goes
goes_by true = ToDestination
goes_by false = Nowhere

-- a word of an external part that is still to be begun is the one in the user's source, or default data
abbrev pub IsSent : Memory → Placed → SetUp → (place value : ℕ) → Type 0
IsSent m x by i v = v ≡ (if by.source then m (source_word x i) else x.channel.default_data)

-- a part of an external channel has the set-up that is held of it
pub record ExternalAgrees (m : Memory) (x : Placed) (at : Position) (n : ℕ) (part : Part) : Type 0 where
  pub by : SetUp
  pub held : m (held_word x) ≡ packed by
  pub count : length part.values ≡ by.length
  pub few : by.length ≤ x.channel.length
  pub goes : part.goes ≡ goes_by by.destination
  pub ahead : (i : ℕ) → i < by.length → is_ahead at n i ≡ true → IsSent m x by i (slice_index_or part.values i 0)

-- one of an internal channel has all of its words
pub record InternalAgrees (k : Channel) (part : Part) : Type 0 where
  pub count : length part.values ≡ k.length
  pub goes : part.goes ≡ ToChannel

abbrev pub PartBy : (internal : Bool) → Memory → Placed → Position → ℕ → Part → Type 0
PartBy true m x at n part = InternalAgrees x.channel part
PartBy false m x at n part = ExternalAgrees m x at n part

abbrev pub PartAgrees : Memory → Placed → Position → ℕ → Part → Type 0
PartAgrees m x at n part = PartBy x.channel.internal m x at n part

-- the words of a job under way: it stands at this place among its parts
pub record GoingAgrees (d : SpiTable) (m : Memory) (u : ℕ) (g : Going) : Type 0 where
  pub channels : map (λ x. x.channel) g.parts ≡ channels_of d (next_job d g.pending)
  pub running : m (running_word u) ≡ packed_run (record { job = next_job d g.pending; sequence = g.pending.sequence })
  pub position : m (position_word u) ≡ packed_position g.at
  pub place : g.at.channel < length g.parts
  pub inside : (x : Part) → slice_get g.parts g.at.channel ≡ Some x → g.at.word < length x.values
  pub count : length g.received ≡ words_before g.parts g.at.channel + g.at.word
  pub parts : (n : ℕ) (x : Part) → slice_get g.parts n ≡ Some x → (0 < length x.values) × PartAgrees m (placed_of d x.channel) g.at n x

-- ---- the unit

-- a word in transfer
pub record WordAgrees (w : chips.Word) (t : Transfer) : Type 0 where
  pub start : w.start ≡ t.began
  pub incoming : t.failed ≡ false → w.incoming ≡ t.incoming
  pub failed : w.failed ≡ t.failed

abbrev pub InTransfer : Option chips.Word → Transfer → Type 0
InTransfer None t = ⊥
InTransfer (Some w) t = WordAgrees w t

-- a unit that runs a job has its word in transfer, under its device; a free one has none
abbrev pub UnitAgrees : SpiTable → Serial → Option Run → Option Going → Type 0
UnitAgrees d x r None = (x.word ≡ None) × (r ≡ None)
UnitAgrees d x r (Some g) = (t : Transfer) × (r ≡ Some (run_of d g t)) × InTransfer x.word t × (x.select ≡ select_of (select_by (job_of d (next_job d g.pending))))

-- one that carries out a sequence for a call has its word in transfer; once that is done, another device may be selected
abbrev pub CarriesAgrees : SpiTable → Serial → Option Run → Option Going → Type 0
CarriesAgrees d x r None = (x.word ≡ None) × (r ≡ None)
CarriesAgrees d x r (Some g) = (t : Transfer) × (r ≡ Some (run_of d g t)) × InTransfer x.word t
