-- The words of jobs, and how a unit transfers them.
use Rattle.std.specs.Prelude.{ℕ, ◌+◌, ◌%◌, ◌^◌, ◌==◌, nat_lt, nat_le, Bool, true, ◌&&◌, not, if◌then◌else◌, List, [], ◌∷◌, ◌++◌, length, map, Option, Some, None, slice_index_or}
use Rattle.std.specs.List.{enumerate_from}
use Rattle.spi_machine.specs.declared.call.Pointer.{Pointer}
use Rattle.spi_machine.specs.declared.call.Pointer.TheVariants.{Users, Null}
use Rattle.word_shapes.specs.declared.jobs.channel.Channel.{Channel}
use Rattle.spi_machine.specs.Channels.{ChannelState, SetUp, set_up_or, words_from}

-- where a word that comes in goes
pub data Goes : Type 0 where
  -- to the user's destination array, as it is served
  ToDestination : Goes
  -- to the received words of its internal channel, as its job ends well
  ToChannel : Goes
  Nowhere : Goes

-- A word of a job: its channel, its place there, the channel's width, what is sent, and where what comes in goes.
pub record JobWord : Type 0 where
  pub channel : ℕ
  pub place : ℕ
  pub width : ℕ
  pub sent : ℕ
  pub goes : Goes

-- A word in transfer: when it began, what comes in, and whether it fails.
pub record Transfer : Type 0 where
  pub began : ℕ
  pub incoming : ℕ
  pub failed : Bool

-- A running job: its sequence, its words, what came in with those before the one in transfer, and that one.
pub record Run : Type 0 where
  pub sequence : ℕ
  pub words : List JobWord
  pub received : List ℕ
  pub transfer : Transfer

-- ---- words

-- a word, masked to a width
abbrev pub masked : (width word : ℕ) → ℕ
masked width word = word % 2 ^ width

-- what the device answered says that it failed
abbrev pub refused : ℕ
refused = 65536

abbrev pub goes_to : Pointer → Goes
goes_to Users = ToDestination
goes_to Null = Nowhere

-- these values of a channel, as words of a job
abbrev pub as_words : (channel : ℕ) → (width : ℕ) → Goes → List ℕ → List JobWord
as_words c width goes values = map (λ p. record { channel = c; place = p.0; width = width; sent = masked width p.1; goes = goes }) (enumerate_from 0 values)

-- an external channel's words, by its set-up
abbrev pub external_words : (channel : ℕ) → Channel → ChannelState → SetUp → List JobWord
external_words c k x by = as_words c k.width (goes_to by.destination) (words_from by.source by.words k x)

-- a channel's words as they stand
abbrev pub channel_words : (channel : ℕ) → Option Channel → ChannelState → List JobWord
channel_words c None x = []
channel_words c (Some k) x = if k.internal then as_words c k.width ToChannel x.written else external_words c k x (set_up_or k x.set_up)

-- ---- transfers

-- a word that no job has
abbrev pub no_word : JobWord
no_word = record { channel = 0; place = 0; width = 0; sent = 0; goes = Nowhere }

-- a word begins, and this comes in
abbrev pub begins : (now received : ℕ) → JobWord → Transfer
begins now received x = record { began = now; incoming = masked x.width received; failed = received == refused }

-- what comes in as the wire shows it: masked, and 65536 for a refused exchange
abbrev pub shown : (width received : ℕ) → ℕ
shown width received = if received == refused then refused else masked width received

-- what the wire shows of a word: what is sent, and what comes in
abbrev pub on_wire : (received : ℕ) → JobWord → ℕ × ℕ
on_wire received x = (x.sent, shown x.width received)

-- a word is done 8 peripheral ticks after it began
abbrev pub is_done : (now : ℕ) → Transfer → Bool
is_done now t = nat_le (t.began + 8) now

-- after a fault on the wire: a word in transfer fails
abbrev pub faulted : (now : ℕ) → Transfer → Transfer
faulted now t = if is_done now t then t else record t { failed = true }

-- ---- runs

-- a run's word in transfer
abbrev pub word_of : Run → JobWord
word_of r = slice_index_or r.words (length r.received) no_word

-- what came in so far, with the word in transfer
abbrev pub received_with : Run → List ℕ
received_with r = r.received ++ r.transfer.incoming ∷ []

-- a serving begins a further word: the word in transfer hasn't failed and isn't the last one
abbrev pub goes_on : Run → Bool
goes_on r = not r.transfer.failed && nat_lt (length r.received + 1) (length r.words)

-- a run whose next word begins
abbrev pub begun : (now received sequence : ℕ) → List JobWord → (before : List ℕ) → Run
begun now received q words before =
    record { sequence = q; words = words; received = before; transfer = begins now received (slice_index_or words (length before) no_word) }
