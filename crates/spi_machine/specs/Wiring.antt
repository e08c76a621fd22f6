-- What frames read of the table: channels with the places of their words, and the jobs and channels that stand at
-- places.
use Rattle.std.specs.Prelude.{ℕ, zero, suc, ◌+◌, ◌%◌, ◌^◌, ◌==◌, Bool, false, ◌||◌, if◌then◌else◌, List, take, Option, Some, None, is_some, slice_get, slice_index_or}
use Rattle.word_shapes.specs.declared.jobs.channel.Placed.{Placed}
use Rattle.spi_machine.specs.declared.table.ChannelList.{ChannelList}
use Rattle.spi_machine.specs.declared.table.JobList.{JobList}
use Rattle.spi_machine.specs.declared.table.Job.{Job}
use Rattle.spi_machine.specs.declared.table.Sequence.{Sequence}
use Rattle.spi_machine.specs.declared.table.SpiTable.{SpiTable}
use Rattle.spi_machine.specs.declared.table.TheConstants.{NO_CHANNEL, NOWHERE, NO_CHANNELS, NO_JOBS}
use Rattle.spi_machine.specs.Table.{job_of, sequence_of, is_sync_unit}

-- what an option has, or else this
abbrev pub or_else : {A : Type 0} → A → Option A → A
or_else x None = x
or_else x (Some y) = y

-- a channel with the place of its words; one that isn't configured has none
abbrev pub placed_of : SpiTable → ℕ → Placed
placed_of d c = record { number = c; block = slice_index_or d.blocks (c % 16) 0; channel = or_else NO_CHANNEL (slice_index_or d.channels (c % 16) None) }

-- the number at a place of a list
abbrev pub channel_number : ChannelList → ℕ → Option ℕ
channel_number l i = slice_get (take l.count l.numbers) i

abbrev pub job_number : JobList → ℕ → Option ℕ
job_number l i = slice_get (take l.count l.numbers) i

abbrev pub list_by : Option Job → ChannelList
list_by None = NO_CHANNELS
list_by (Some k) = k.channels

abbrev pub jobs_by : Option Sequence → JobList
jobs_by None = NO_JOBS
jobs_by (Some k) = k.jobs

abbrev pub list_of : SpiTable → ℕ → ChannelList
list_of d j = list_by (job_of d j)

abbrev pub jobs_list : SpiTable → ℕ → JobList
jobs_list d q = jobs_by (sequence_of d q)

-- the channel at a place of a job, and the job at a place of a sequence
abbrev pub placed_by : SpiTable → Option ℕ → Placed
placed_by d None = NOWHERE
placed_by d (Some c) = placed_of d c

abbrev pub channel_at_place : SpiTable → (job place : ℕ) → Placed
channel_at_place d j i = placed_by d (channel_number (list_of d j) i)

abbrev pub job_at_place : SpiTable → (sequence place : ℕ) → ℕ
job_at_place d q i = or_else 0 (job_number (jobs_list d q) i)

-- the last place of a job among the first n
abbrev pub place_before : List ℕ → (job : ℕ) → ℕ → Option ℕ
place_before xs j zero = None
place_before xs j (suc n) = if slice_index_or xs n 0 == j then Some n else place_before xs j n

abbrev pub place_in : JobList → (job : ℕ) → Option ℕ
place_in l j = place_before l.numbers j l.count

-- one of the first n is in the list
abbrev pub shares_before : JobList → List ℕ → ℕ → Bool
shares_before l xs zero = false
shares_before l xs (suc n) = is_some (place_in l (slice_index_or xs n 0)) || shares_before l xs n

abbrev pub shares : SpiTable → (sequence other : ℕ) → Bool
shares d q other = shares_before (jobs_list d q) (jobs_list d other).numbers (jobs_list d other).count

-- ---- what is read of a job and of a sequence

abbrev pub unit_by : Option Job → ℕ
unit_by None = 0
unit_by (Some k) = k.unit % 2

abbrev pub unit_of_sequence : SpiTable → ℕ → ℕ
unit_of_sequence d q = unit_by (job_of d (job_at_place d q 0))

-- the lines, as the bits of a mask, of the units that handlers or the main function serve
abbrev pub served_lines : SpiTable → ℕ
served_lines d = (if is_sync_unit d 0 then 0 else 2 ^ 26) + (if is_sync_unit d 1 then 0 else 2 ^ 27)

-- a sequence is sent by Spi_SyncTransmit
abbrev pub is_sync_sequence : SpiTable → ℕ → Bool
is_sync_sequence d q = is_sync_unit d (unit_of_sequence d q)
