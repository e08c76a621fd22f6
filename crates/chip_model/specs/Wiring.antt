-- What a configuration wires to the chip.
use Rattle.std.specs.Prelude.{ℕ, ◌==◌, List, [], ◌∷◌, map, Option, None, if◌then◌else◌}
use Rattle.std.specs.List.{range_with_len}
use Rattle.mcal_base.specs.Layout.{words_of}
use Rattle.mcal_base.specs.declared.config.pwm.PwmChannel.{PwmChannel}
use Rattle.mcal_base.specs.declared.config.spi.SpiChannel.{SpiChannel}
use Rattle.mcal_base.specs.declared.config.whole.Config.{Config}
use Rattle.chip_model.specs.declared.wiring.Wiring.{Wiring}

-- the pin of a pulse channel's output, where it is configured and has one
abbrev pub output_in : List PwmChannel → ℕ → Option ℕ
output_in [] c = None
output_in (x ∷ xs) c = if x.id == c then x.pin else output_in xs c

-- the places of a serial channel's source array; one that isn't configured has none
abbrev pub source_in : List SpiChannel → ℕ → ℕ
source_in [] c = 0
source_in (x ∷ xs) c = if x.id == c then words_of x.channel_type else source_in xs c

-- the wiring of a configuration, of 8 pulse channels and 16 serial channels
unfoldable pub wiring_of : Config → Wiring
wiring_of config = record {
  outputs = map (output_in config.pwm.channels) (range_with_len 0 8);
  sources = map (source_in config.spi.channels) (range_with_len 0 16);
}
