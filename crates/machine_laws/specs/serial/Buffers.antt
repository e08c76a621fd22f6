-- Buffers of channels in a history.
use Rattle.std.specs.Prelude.{ℕ, ◌==◌, Bool, true, false, not}
use Rattle.run_model.specs.Machine.{Happening, Acts, Restarts}
use Rattle.word_shapes.specs.declared.jobs.channel.Channel as configured
use Rattle.spi_machine.specs.Channels.{ChannelState}
use Rattle.spi_machine.specs.Numbered.{word_at}
use Rattle.spi_machine.specs.declared.call.Call.{Call}
use Rattle.spi_machine.specs.declared.call.Call.TheVariants.{Init, DeInit, SetAsyncMode, Channel}
use Rattle.spi_machine.specs.declared.call.ChannelCall.TheVariants.{WriteIb, SetupEb}
use Rattle.spi_machine.specs.declared.call.Pointer.{Pointer}
use Rattle.spi_machine.specs.declared.call.Pointer.TheVariants.{Users, Null}

-- a word of a source by its place: of the user's array, or default data where there is none
abbrev pub source_word : Pointer → configured.Channel → ChannelState → (place : ℕ) → ℕ
source_word Users k x i = word_at x.source i
source_word Null k x i = k.default_data

-- neither an initialisation nor a reset
abbrev pub leaves_channels : Happening Call → Bool
leaves_channels (Acts Init times) = false
leaves_channels (Restarts reason) = false
leaves_channels h = true

-- and no write of this internal channel
abbrev pub leaves_written : (channel : ℕ) → Happening Call → Bool
leaves_written c (Acts (Channel n (WriteIb p)) times) = not (c == n)
leaves_written c h = leaves_channels h

-- and no set-up of this external channel
abbrev pub leaves_set_up : (channel : ℕ) → Happening Call → Bool
leaves_set_up c (Acts (Channel n (SetupEb p q words)) times) = not (c == n)
leaves_set_up c h = leaves_channels h

-- neither an initialisation, a deinitialisation nor a reset, nor a call that sets the mode
abbrev pub leaves_mode : Happening Call → Bool
leaves_mode (Acts DeInit times) = false
leaves_mode (Acts (SetAsyncMode m) times) = false
leaves_mode h = leaves_channels h
