-- What a driver that was made of a sound configuration is.
use Rattle.std.specs.Prelude.{◌≡◌, ℕ, ◌+◌, ◌<◌, ◌≤◌, true, List, length, Some, slice_get, slice_index_or, Contains}
use Rattle.word_shapes.specs.declared.jobs.channel.Channel.{Channel}
use Rattle.spi_machine.specs.Bounds.{own_words}
use Rattle.spi_machine.specs.Pending.{uses_channel}
use Rattle.spi_machine.specs.Table.{banked, channel_of, job_of, sequence_of, channels_of, jobs_of}
use Rattle.spi_machine.specs.declared.table.Job.{Job}
use Rattle.spi_machine.specs.declared.table.Sequence.{Sequence}
use Rattle.spi_machine.specs.declared.table.SpiTable.{SpiTable}

abbrev pub block_of : SpiTable → ℕ → ℕ
block_of d c = slice_index_or d.blocks c 0

-- a channel's limits, and the place of its words among the module's
pub record FitsChannel (d : SpiTable) (c : ℕ) (k : Channel) : Type 0 where
  pub some : 0 < k.length
  pub few : k.length ≤ 64
  pub narrow : k.width ≤ 16
  pub after : 64 ≤ block_of d c
  pub within : block_of d c + 4 + banked k ≤ own_words d

-- no item is there twice
abbrev pub AreDifferent : List ℕ → Type 0
AreDifferent xs = (i j x : ℕ) → slice_get xs i ≡ Some x → slice_get xs j ≡ Some x → i ≡ j

-- a job has one to four channels, which are configured, on one of the two units
pub record FitsJob (d : SpiTable) (j : ℕ) (k : Job) : Type 0 where
  pub row : length k.channels.numbers ≡ 4
  pub some : 0 < k.channels.count
  pub few : k.channels.count ≤ 4
  pub unit : k.unit < 2
  pub priority : k.priority ≤ 3
  pub there : (c : ℕ) → Contains (channels_of d j) c → (c < 16) × (x : Channel) × (channel_of d c ≡ Some x)
  pub once : AreDifferent (channels_of d j)

-- a sequence has one to sixteen jobs, which are configured, on one unit
pub record FitsSequence (d : SpiTable) (q : ℕ) (k : Sequence) : Type 0 where
  pub row : length k.jobs.numbers ≡ 16
  pub some : 0 < k.jobs.count
  pub few : k.jobs.count ≤ 16
  pub there : (j : ℕ) → Contains (jobs_of d q) j → (j < 16) × (x : Job) × (job_of d j ≡ Some x)
  pub once : AreDifferent (jobs_of d q)
  pub unit : (i j : ℕ) (x y : Job) → Contains (jobs_of d q) i → Contains (jobs_of d q) j → job_of d i ≡ Some x → job_of d j ≡ Some y → x.unit ≡ y.unit

pub record FitsSpi (d : SpiTable) : Type 0 where
  pub rows : (length d.channels ≡ 16) × (length d.jobs ≡ 16) × (length d.sequences ≡ 8) × (length d.blocks ≡ 16)
  pub channels : (c : ℕ) (k : Channel) → channel_of d c ≡ Some k → FitsChannel d c k
  -- the words of a channel stand before those of the next one
  pub apart : (b c : ℕ) (k : Channel) → b < c → channel_of d b ≡ Some k → c < 16 → block_of d b + 4 + banked k ≤ block_of d c
  pub jobs : (j : ℕ) (k : Job) → job_of d j ≡ Some k → FitsJob d j k
  pub sequences : (q : ℕ) (k : Sequence) → sequence_of d q ≡ Some k → FitsSequence d q k
  -- jobs that share a channel have one unit
  pub shared : (c i j : ℕ) (x y : Job) → uses_channel d c i ≡ true → uses_channel d c j ≡ true → job_of d i ≡ Some x → job_of d j ≡ Some y → x.unit ≡ y.unit
