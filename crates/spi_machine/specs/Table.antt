-- The configured channels, jobs and sequences.
use Rattle.std.specs.Prelude.{ℕ, zero, suc, ◌+◌, ◌*◌, ◌%◌, ◌==◌, Bool, true, false, not, if◌then◌else◌, List, [], ◌∷◌, length, take, Option, Some, None, slice_index_or}
use Rattle.std.specs.List.{list_any}
use Rattle.mcal_base.specs.Layout.{words_of}
use Rattle.mcal_base.specs.declared.config.spi.SpiChannel.{SpiChannel}
use Rattle.mcal_base.specs.declared.config.spi.SpiChannelType.{SpiChannelType}
use Rattle.mcal_base.specs.declared.config.spi.SpiChannelType.TheVariants.{Internal, External}
use Rattle.mcal_base.specs.declared.config.spi.SpiConfig.{SpiConfig}
use Rattle.mcal_base.specs.declared.config.spi.SpiJob.{SpiJob}
use Rattle.mcal_base.specs.declared.config.spi.SpiSequence.{SpiSequence}
use Rattle.word_shapes.specs.declared.jobs.channel.Channel.{Channel}
use Rattle.spi_machine.specs.declared.table.ChannelList.{ChannelList}
use Rattle.spi_machine.specs.declared.table.Job.{Job}
use Rattle.spi_machine.specs.declared.table.JobList.{JobList}
use Rattle.spi_machine.specs.declared.table.Sequence.{Sequence}
use Rattle.spi_machine.specs.declared.table.SpiTable.{SpiTable}

abbrev pub is_internal : SpiChannelType → Bool
is_internal (Internal n) = true
is_internal (External n) = false

-- a number as the driver keeps it; those of a sound configuration are below 256
abbrev pub byte : ℕ → ℕ
byte n = n % 256

abbrev pub byte_of : Option ℕ → Option ℕ
byte_of None = None
byte_of (Some n) = Some (byte n)

abbrev pub byte_at : List ℕ → ℕ → ℕ
byte_at xs i = byte (slice_index_or xs i 0)

-- the numbers of channels and of jobs, in rows of four and of sixteen
abbrev pub channel_list : List ℕ → ChannelList
channel_list xs = record { numbers = byte_at xs 0 ∷ byte_at xs 1 ∷ byte_at xs 2 ∷ byte_at xs 3 ∷ []; count = length xs }

abbrev pub job_list : List ℕ → JobList
job_list xs = record { numbers = byte_at xs 0 ∷ byte_at xs 1 ∷ byte_at xs 2 ∷ byte_at xs 3 ∷ byte_at xs 4 ∷ byte_at xs 5 ∷ byte_at xs 6 ∷ byte_at xs 7 ∷ byte_at xs 8 ∷ byte_at xs 9 ∷ byte_at xs 10 ∷ byte_at xs 11 ∷ byte_at xs 12 ∷ byte_at xs 13 ∷ byte_at xs 14 ∷ byte_at xs 15 ∷ []; count = length xs }

-- what the driver keeps of a configured channel, job and sequence
abbrev pub taken_channel : SpiChannel → Channel
taken_channel x = record { internal = is_internal x.channel_type; length = byte (words_of x.channel_type); width = byte x.data_width; default_data = x.default_data }

abbrev pub taken_job : SpiJob → Job
taken_job x = record { priority = byte x.priority; notification = x.end_notification; channels = channel_list x.channel_list; unit = byte x.unit; select = byte_of x.select }

abbrev pub taken_sequence : SpiSequence → Sequence
taken_sequence x = record { interruptible = x.interruptible; jobs = job_list x.job_assignment; notification = x.end_notification }

-- the first channel, job and sequence with this number
abbrev pub channel_in : List SpiChannel → ℕ → Option Channel
channel_in [] c = None
channel_in (x ∷ xs) c = if x.id == c then Some (taken_channel x) else channel_in xs c

abbrev pub job_in : List SpiJob → ℕ → Option Job
job_in [] j = None
job_in (x ∷ xs) j = if x.id == j then Some (taken_job x) else job_in xs j

abbrev pub sequence_in : List SpiSequence → ℕ → Option Sequence
sequence_in [] q = None
sequence_in (x ∷ xs) q = if x.id == q then Some (taken_sequence x) else sequence_in xs q

abbrev pub channels_by_number : List SpiChannel → List (Option Channel)
channels_by_number xs = channel_in xs 0 ∷ channel_in xs 1 ∷ channel_in xs 2 ∷ channel_in xs 3 ∷ channel_in xs 4 ∷ channel_in xs 5 ∷ channel_in xs 6 ∷ channel_in xs 7 ∷ channel_in xs 8 ∷ channel_in xs 9 ∷ channel_in xs 10 ∷ channel_in xs 11 ∷ channel_in xs 12 ∷ channel_in xs 13 ∷ channel_in xs 14 ∷ channel_in xs 15 ∷ []

abbrev pub jobs_by_number : List SpiJob → List (Option Job)
jobs_by_number xs = job_in xs 0 ∷ job_in xs 1 ∷ job_in xs 2 ∷ job_in xs 3 ∷ job_in xs 4 ∷ job_in xs 5 ∷ job_in xs 6 ∷ job_in xs 7 ∷ job_in xs 8 ∷ job_in xs 9 ∷ job_in xs 10 ∷ job_in xs 11 ∷ job_in xs 12 ∷ job_in xs 13 ∷ job_in xs 14 ∷ job_in xs 15 ∷ []

abbrev pub sequences_by_number : List SpiSequence → List (Option Sequence)
sequences_by_number xs = sequence_in xs 0 ∷ sequence_in xs 1 ∷ sequence_in xs 2 ∷ sequence_in xs 3 ∷ sequence_in xs 4 ∷ sequence_in xs 5 ∷ sequence_in xs 6 ∷ sequence_in xs 7 ∷ []

-- the driver words of a channel's banks: six for each word of an internal one
abbrev pub banked : Channel → ℕ
banked k = if k.internal then 6 * k.length else 0

-- how many driver words stand before those of a channel: the first 64, and those of the channels before it, four each
-- and those of their banks
abbrev pub after : ℕ → Option Channel → ℕ
after b None = b
after b (Some k) = (b + 4 + banked k) % 65536

abbrev pub before : List (Option Channel) → ℕ → ℕ
before ks zero = 64
before ks (suc c) = after (before ks c) (slice_index_or ks c None)

abbrev pub blocks_of : List (Option Channel) → List ℕ
blocks_of ks = before ks 0 ∷ before ks 1 ∷ before ks 2 ∷ before ks 3 ∷ before ks 4 ∷ before ks 5 ∷ before ks 6 ∷ before ks 7 ∷ before ks 8 ∷ before ks 9 ∷ before ks 10 ∷ before ks 11 ∷ before ks 12 ∷ before ks 13 ∷ before ks 14 ∷ before ks 15 ∷ []

-- the driver under a configuration
abbrev pub table_of : SpiConfig → SpiTable
table_of g = record {
  detect = g.dev_error_detect;
  classification = g.classification;
  levels = slice_index_or g.levels 0 1 ∷ slice_index_or g.levels 1 1 ∷ [];
  sync = list_any (λ n. n == 0) g.sync_units ∷ list_any (λ n. n == 1) g.sync_units ∷ [];
  channels = channels_by_number g.channels;
  blocks = blocks_of (channels_by_number g.channels);
  jobs = jobs_by_number g.jobs;
  sequences = sequences_by_number g.sequences;
}

-- the channel, the job and the sequence of a number, where it is configured
abbrev pub channel_of : SpiTable → ℕ → Option Channel
channel_of d c = slice_index_or d.channels c None

abbrev pub job_of : SpiTable → ℕ → Option Job
job_of d j = slice_index_or d.jobs j None

abbrev pub sequence_of : SpiTable → ℕ → Option Sequence
sequence_of d q = slice_index_or d.sequences q None

-- a unit sends by Spi_SyncTransmit alone
abbrev pub is_sync_unit : SpiTable → (number : ℕ) → Bool
is_sync_unit d u = slice_index_or d.sync u false

-- ---- what is read of them; an object that isn't configured has nothing

abbrev pub length_by : Option Channel → ℕ
length_by None = 0
length_by (Some k) = k.length

abbrev pub is_internal_channel : Option Channel → Bool
is_internal_channel None = false
is_internal_channel (Some k) = k.internal

abbrev pub is_external_channel : Option Channel → Bool
is_external_channel None = false
is_external_channel (Some k) = not k.internal

abbrev pub channels_by : Option Job → List ℕ
channels_by None = []
channels_by (Some k) = take k.channels.count k.channels.numbers

abbrev pub priority_by : Option Job → ℕ
priority_by None = 0
priority_by (Some k) = k.priority

abbrev pub is_on_unit : ℕ → Option Job → Bool
is_on_unit u None = false
is_on_unit u (Some k) = k.unit == u

abbrev pub select_by : Option Job → Option ℕ
select_by None = None
select_by (Some k) = k.select

abbrev pub notifies_job : Option Job → Bool
notifies_job None = false
notifies_job (Some k) = k.notification

abbrev pub jobs_by : Option Sequence → List ℕ
jobs_by None = []
jobs_by (Some k) = take k.jobs.count k.jobs.numbers

abbrev pub is_interruptible : Option Sequence → Bool
is_interruptible None = false
is_interruptible (Some k) = k.interruptible

abbrev pub notifies_sequence : Option Sequence → Bool
notifies_sequence None = false
notifies_sequence (Some k) = k.notification

-- the jobs of a sequence, and the channels of a job
abbrev pub jobs_of : SpiTable → ℕ → List ℕ
jobs_of d q = jobs_by (sequence_of d q)

abbrev pub channels_of : SpiTable → ℕ → List ℕ
channels_of d j = channels_by (job_of d j)
