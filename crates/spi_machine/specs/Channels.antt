-- The channels: the users' arrays, what an internal channel sends and received, and the set-up of an external one.
use Rattle.std.specs.Prelude.{ℕ, Bool, true, false, if◌then◌else◌, List, [], ◌++◌, length, take, drop, replicate, Option, Some, None}
use Rattle.spi_machine.specs.declared.call.Pointer.{Pointer}
use Rattle.spi_machine.specs.declared.call.Pointer.TheVariants.{Users, Null}
use Rattle.word_shapes.specs.declared.jobs.channel.Channel.{Channel}
use Rattle.spi_machine.specs.Numbered.{first_items}
use Rattle.spi_machine.specs.Table.{length_by}

-- the pointer is to the user's array
abbrev pub is_users : Pointer → Bool
is_users Users = true
is_users Null = false

-- A set-up of an external channel: its buffers and its number of words.
pub record SetUp : Type 0 where
  pub source : Pointer
  pub destination : Pointer
  pub words : ℕ

-- A channel. Words are by place; one that isn't there is 0.
pub record ChannelState : Type 0 where
  -- the user's arrays
  pub source : List ℕ
  pub destination : List ℕ
  -- what an internal channel sends, as it was written, and what may be read of it
  pub written : List ℕ
  pub received : List ℕ
  -- how an external channel was last set up
  pub set_up : Option SetUp

-- a channel after power on and after a reset
abbrev pub untouched : ChannelState
untouched = record { source = []; destination = []; written = []; received = []; set_up = None }

-- so many words of the user's source array, or of default data
abbrev pub words_from : Pointer → (count : ℕ) → Channel → ChannelState → List ℕ
words_from Users n k x = first_items 0 n x.source
words_from Null n k x = replicate n k.default_data

-- the set-up of a channel that wasn't set up: no source, no destination, the greatest length
abbrev pub set_up_or : Channel → Option SetUp → SetUp
set_up_or k None = record { source = Null; destination = Null; words = k.length }
set_up_or k (Some x) = x

-- after Spi_Init: an internal channel sends default data and has received zeros, and an external one isn't set up
abbrev pub initialised : Option Channel → ChannelState → ChannelState
initialised None x = x
initialised (Some k) x =
    if k.internal then record x { written = replicate k.length k.default_data; received = replicate k.length 0 }
    else record x { set_up = None }

-- after Spi_WriteIB
abbrev pub written_from : Pointer → Option Channel → ChannelState → ChannelState
written_from p None x = x
written_from p (Some k) x = record x { written = words_from p k.length k x }

-- after a fill of the user's source array: words past its end are dropped
abbrev pub filled : List ℕ → Option Channel → ChannelState → ChannelState
filled ws k x = record x { source = take (length_by k) (ws ++ drop (length ws) x.source) }
