-- What is shown word by word: RAM, the users' arrays, and what an internal serial channel sends and what may be read of it.
use Rattle.std.specs.Prelude.{◌≡◌, ℕ, ◌≤◌, true, false}
use Rattle.mcal_base.specs.Layout.{length_of}
use Rattle.mcal_base.specs.declared.config.whole.Config.{Config}
use Rattle.mcal_base.specs.declared.layout.Array.TheVariants.{Source}
use Rattle.mcal_drivers.specs.Setting.{SystemState}
use Rattle.mcal_drivers.specs.Shows.{internal_at, ram_at, serial_channel, user_at}
use Rattle.spi_machine.specs.Table.{is_internal_channel}
use Rattle.shown_rows.specs.declared.shown.Words.{Words}
use Rattle.shown_rows.specs.declared.shown.Words.TheVariants.{Ram, User, Sent, Received}

-- a word by its place
abbrev pub word_at : SystemState → Words → (place : ℕ) → ℕ
word_at s Ram i = ram_at s i
word_at s (User array) i = user_at s array i
word_at s (Sent channel) i = internal_at s channel false i
word_at s (Received channel) i = internal_at s channel true i

-- an internal serial channel has so many words
abbrev pub HasWords : Config → (channel size : ℕ) → Type 0
HasWords c channel size = (size ≤ length_of c (Source channel)) × (is_internal_channel (serial_channel c channel) ≡ true)

-- so many places are there
abbrev pub HasPlaces : Config → Words → (size : ℕ) → Type 0
HasPlaces c Ram size = size ≤ 512
HasPlaces c (User array) size = size ≤ length_of c array
HasPlaces c (Sent channel) size = HasWords c channel size
HasPlaces c (Received channel) size = HasWords c channel size
