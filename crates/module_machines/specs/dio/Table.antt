-- What the driver keeps of a configuration, and which pins a call is about.
use Rattle.std.specs.Prelude.{◌≡◌, ℕ, ◌+◌, ◌*◌, ◌/◌, ◌%◌, ◌^◌, ◌<◌, ◌==◌, nat_lt, Bool, true, false, ◌&&◌, if◌then◌else◌, List, [], ◌∷◌, Option, Some, None, slice_index_or, bit_and}
use Rattle.mcal_base.specs.Bits.{bits_of, has_bit}
use Rattle.mcal_base.specs.declared.config.dio.DioChannelGroup.{DioChannelGroup}
use Rattle.mcal_base.specs.declared.config.dio.DioConfig.{DioConfig}
use Rattle.mcal_base.specs.declared.config.port.PortConfig.{PortConfig}
use Rattle.mcal_base.specs.declared.config.port.PortPin.{PortPin}
use Rattle.module_machines.specs.declared.dio.table.PortPins.{PortPins}
use Rattle.module_machines.specs.declared.dio.call.Call.{Call}
use Rattle.module_machines.specs.declared.dio.call.Call.TheVariants.{ReadChannel, WriteChannel, FlipChannel, ReadPort, WritePort, ReadChannelGroup, WriteChannelGroup}
use Rattle.module_machines.specs.declared.dio.table.DioTable.{DioTable}

-- ---- the configuration

-- a pin has this number
abbrev pub lists : List PortPin → ℕ → Bool
lists [] p = false
lists (x ∷ xs) p = if x.id == p then true else lists xs p

-- a one for each configured pin of a port, the first one in bit 0
abbrev pub ones : List PortPin → (port : ℕ) → ℕ
ones xs q = bits_of (λ k. lists xs (8 * q + k)) 8

-- what the driver keeps of a group: numbers of eight bits
abbrev pub taken : DioChannelGroup → PortPins
taken x = record { port = x.port % 256; mask = x.mask % 256; offset = x.offset % 256 }

-- the first group with this number
abbrev pub group_in : List DioChannelGroup → ℕ → Option PortPins
group_in [] n = None
group_in (x ∷ xs) n = if x.id == n then Some (taken x) else group_in xs n

-- what is kept of a configuration
abbrev pub table_of : PortConfig → DioConfig → DioTable
table_of p g = record {
  detect = g.dev_error_detect;
  ports = ones p.pins 0 ∷ ones p.pins 1 ∷ ones p.pins 2 ∷ ones p.pins 3 ∷ ones p.pins 4 ∷ ones p.pins 5 ∷ ones p.pins 6 ∷ ones p.pins 7 ∷ [];
  groups = group_in g.groups 0 ∷ group_in g.groups 1 ∷ group_in g.groups 2 ∷ group_in g.groups 3 ∷ group_in g.groups 4 ∷ group_in g.groups 5 ∷ group_in g.groups 6 ∷ group_in g.groups 7 ∷ [];
}

-- ---- channels, ports and groups

-- a one for each configured pin of a port
abbrev pub configured : DioTable → (port : ℕ) → ℕ
configured d q = slice_index_or d.ports q 0

-- the pin is configured
abbrev pub has_pin : DioTable → ℕ → Bool
has_pin d p = nat_lt p 64 && has_bit (configured d (p / 8)) (p % 8)

-- a channel is a configured pin
abbrev pub channel_pins : ℕ → PortPins
channel_pins p = record { port = p / 8; mask = 2 ^ (p % 8); offset = p % 8 }

abbrev pub channel_of : DioTable → ℕ → Option PortPins
channel_of d p = if has_pin d p then Some (channel_pins p) else None

-- a port is there where one of its pins is configured
abbrev pub some_pins : (port mask : ℕ) → Option PortPins
some_pins q mask = if mask == 0 then None else Some (record { port = q; mask = mask; offset = 0 })

abbrev pub port_of : DioTable → ℕ → Option PortPins
port_of d q = if nat_lt q 8 then some_pins q (configured d q) else None

-- the configured ones of some pins
abbrev pub those_configured : DioTable → Option PortPins → Option PortPins
those_configured d None = None
those_configured d (Some pins) = Some (record { port = pins.port; mask = bit_and pins.mask (configured d pins.port); offset = pins.offset })

-- the configured pins of the group of a number, where that is configured
abbrev pub group_of : DioTable → ℕ → Option PortPins
group_of d g = if nat_lt g 8 then those_configured d (slice_index_or d.groups g None) else None

-- the pins that a call is about
abbrev pub pins_of : DioTable → Call → Option PortPins
pins_of d (ReadChannel p) = channel_of d p
pins_of d (WriteChannel p high) = channel_of d p
pins_of d (FlipChannel p) = channel_of d p
pins_of d (ReadPort q) = port_of d q
pins_of d (WritePort q value) = port_of d q
pins_of d (ReadChannelGroup g) = group_of d g
pins_of d (WriteChannelGroup g value) = group_of d g

-- what the driver has to be: the port of each group is one of the chip's
pub record FitsDio (d : DioTable) : Type 0 where
  pub port : (g : ℕ) (pins : PortPins) → g < 8 → slice_index_or d.groups g None ≡ Some pins → pins.port < 8
