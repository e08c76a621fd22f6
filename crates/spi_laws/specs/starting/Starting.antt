-- The start window of a unit: what stands at each of its places up to the start, and how many moves are left there.
use Rattle.std.specs.Prelude.{◌≡◌, ℕ, ◌+◌, ◌<◌, true, if◌then◌else◌, [], ◌∷◌, Some, None, slice_get, slice_index_or}
use Rattle.run_model.specs.Machine.{select_of}
use Rattle.word_shapes.specs.Playing.{Memory, Ends}
use Rattle.word_shapes.specs.PriorityQueue as ranked
use Rattle.word_shapes.specs.PriorityQueue.{choosing_front}
use Rattle.word_shapes.specs.Room.{front_room}
use Rattle.word_shapes.specs.jobs.Placing.{bank_of, bank_word, control_word, masked_by, or_none, set_up_word, source_word}
use Rattle.word_shapes.specs.declared.jobs.channel.Channel.{Channel}
use Rattle.word_shapes.specs.declared.jobs.channel.Placed.{Placed}
use Rattle.word_shapes.specs.declared.jobs.channel.Side.TheVariants.{Sent}
use Rattle.word_shapes.specs.declared.jobs.finding.Find.{Find}
use Rattle.word_shapes.specs.declared.jobs.finding.Find.TheVariants as finds
use Rattle.word_shapes.specs.declared.jobs.set_up.SetUp.{SetUp}
use Rattle.spi_machine.specs.Machine.{job_words}
use Rattle.spi_machine.specs.Pending.{Pending, next_job, next_on}
use Rattle.spi_machine.specs.State.{SpiState, run_at}
use Rattle.spi_machine.specs.Table.{channel_of, channels_of, job_of, select_by}
use Rattle.spi_machine.specs.Transfers.{JobWord, no_word}
use Rattle.spi_machine.specs.Wiring.{placed_of}
use Rattle.spi_machine.specs.declared.table.SpiTable.{SpiTable}
use Rattle.spi_sequences.specs.PendingWrites.{start_more}
use Rattle.spi_sequences.specs.Words.{order_word}
use Rattle.spi_sequences.specs.declared.service.start.Chosen.{Chosen}
use Rattle.spi_sequences.specs.declared.service.start.StartPlace.{StartPlace}
use Rattle.spi_sequences.specs.declared.service.start.StartPlace.TheVariants as start
use Rattle.spi_sequences.specs.declared.words.TheConstants.{MARKS, NEXTS}
use Rattle.spi_sequences.specs.laws.bookkeeping.NextChosen.{number_of}

-- what places see of the chip: the driver words, and what the units have selected and their widths
abbrev pub Seen : Type 0
Seen = Memory × (ℕ → ℕ) × (ℕ → ℕ)

-- ---- the first word

-- the first word of the next job of a pending sequence
abbrev pub first_word : SpiTable → SpiState → Pending → JobWord
first_word d s p = slice_index_or (job_words d s (next_job d p)) 0 no_word

-- what a look for a channel's first word will give, by the words
abbrev pub will_read : Memory → Placed → SetUp → ℕ
will_read m x by = if by.source then masked_by x.channel (m (source_word x 0)) else masked_by x.channel x.channel.default_data

abbrev pub will_give : Memory → Find → ℕ
will_give m (finds.Newest x) = masked_by x.channel (m (bank_word x Sent (bank_of (m (control_word x Sent))) 0))
will_give m (finds.SetUp x) = will_read m x (or_none (m (set_up_word x)) x.channel)
will_give m (finds.Bank x i b) = masked_by x.channel (m (bank_word x Sent b i))
will_give m (finds.Source x i) = masked_by x.channel (m (source_word x i))
will_give m (finds.Default x) = masked_by x.channel x.channel.default_data
will_give m _ = 0

-- it looks at the words of this channel, configured so
abbrev pub LooksAt : SpiTable → (channel : ℕ) → Channel → Find → Type 0
LooksAt d c k (finds.Newest x) = (x ≡ placed_of d c) × (k.internal ≡ true)
LooksAt d c k (finds.SetUp x) = x ≡ placed_of d c
LooksAt d c k (finds.Bank x i b) = (x ≡ placed_of d c) × (k.internal ≡ true) × (i ≡ 0) × (b < 4)
LooksAt d c k (finds.Source x i) = (x ≡ placed_of d c) × (i ≡ 0)
LooksAt d c k (finds.Default x) = x ≡ placed_of d c
LooksAt d c k _ = ⊥

-- ---- the places

-- the unit is free
abbrev pub IsFree : SpiState → (number : ℕ) → Type 0
IsFree s u = run_at s u ≡ None

-- the unit's next job is that of this sequence, by the words of next jobs and of marks
pub record IsChosen (d : SpiTable) (u : ℕ) (m : Memory) (s : SpiState) (c : Chosen) (p : Pending) : Type 0 where
  pub free : IsFree s u
  pub next : next_on d u s.pending ≡ Some p
  pub is : c ≡ record { run = record { job = next_job d p; sequence = p.sequence }; nexts = m NEXTS; marks = m MARKS }

-- and this is the first channel of that job
pub record IsFirst (d : SpiTable) (p : Pending) (b : ℕ) (k : Channel) : Type 0 where
  pub at : slice_get (channels_of d (next_job d p)) 0 ≡ Some b
  pub known : channel_of d b ≡ Some k

-- what stands at a place, beside the agreement with what the frames hold; none of these owes moves
abbrev pub start_place : SpiTable → (number : ℕ) → StartPlace → Seen → SpiState → Type 0
start_place d u start.Shut f s = Unit {0}
start_place d u start.Running f s = Unit {0}
start_place d u start.Nexts f s = IsFree s u
start_place d u (start.Marks v) f s = IsFree s u × (v ≡ f.0 NEXTS)
start_place d u (start.Front v x p) f s =
    IsFree s u × (v ≡ f.0 NEXTS) × (x ≡ f.0 MARKS)
    × (n : ℕ) × Ends choosing_front (ranked.own_of (record { at = order_word u })) n p f.0 (λ m words. words ≡ number_of (next_on d u s.pending) ∷ [])
start_place d u (start.Find c p) f s = (q : Pending) × IsChosen d u f.0 s c q × (b : ℕ) × (k : Channel) × IsFirst d q b k × LooksAt d b k p × (will_give f.0 p ≡ (first_word d s q).sent)
start_place d u (start.Select c x) f s = (q : Pending) × IsChosen d u f.0 s c q × (x ≡ (first_word d s q).sent)
start_place d u (start.Width c x) f s = (q : Pending) × IsChosen d u f.0 s c q × (x ≡ (first_word d s q).sent) × (f.1 u ≡ select_of (select_by (job_of d (next_job d q))))
start_place d u (start.Begin c x) f s = (q : Pending) × IsChosen d u f.0 s c q × (x ≡ (first_word d s q).sent) × (f.1 u ≡ select_of (select_by (job_of d (next_job d q)))) × (f.2 u ≡ (first_word d s q).width)
start_place d u _ f s = ⊥

-- ---- the moves that are left

-- of a look, after the next one
abbrev pub find_more : Find → ℕ
find_more (finds.Newest x) = 1
find_more (finds.SetUp x) = 1
find_more (finds.Pinned x i) = 1
find_more (finds.Held x i) = 1
find_more _ = 0

-- of the window, with the next one
abbrev pub start_left : StartPlace → ℕ
start_left start.Shut = 29
start_left start.Running = 28
start_left start.Nexts = 27
start_left (start.Marks v) = 26
start_left (start.Front v x p) = 22 + front_room p
start_left (start.Find c p) = 21 + find_more p
start_left (start.Select c x) = 20
start_left (start.Width c x) = 19
start_left (start.Begin c x) = 18
start_left p = 1 + start_more p
