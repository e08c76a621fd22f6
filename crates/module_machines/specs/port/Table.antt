-- The configured pins.
use Rattle.std.specs.Prelude.{◌≡◌, ℕ, ◌==◌, nat_lt, Bool, true, false, ◌||◌, if◌then◌else◌, List, [], ◌∷◌, map, Option, Some, None, slice_index_or}
use Rattle.std.specs.List.{range_with_len}
use Rattle.mcal_base.specs.declared.config.port.PortPinMode.{PortPinMode}
use Rattle.mcal_base.specs.declared.config.port.PortPinMode.TheVariants.{Adc, Dio, Icu, Pwm, Spi}
use Rattle.mcal_base.specs.declared.config.port.PortPin.{PortPin}
use Rattle.mcal_base.specs.declared.config.port.PortConfig.{PortConfig}
use Rattle.module_machines.specs.declared.port.table.Modes.{Modes}
use Rattle.module_machines.specs.declared.port.table.Pin.{Pin}
use Rattle.module_machines.specs.declared.port.table.PortTable.{PortTable}

abbrev pub is_same : PortPinMode → PortPinMode → Bool
is_same Adc Adc = true
is_same Dio Dio = true
is_same Icu Icu = true
is_same Pwm Pwm = true
is_same Spi Spi = true
is_same _ _ = false

-- the mode is listed
abbrev pub lists : List PortPinMode → PortPinMode → Bool
lists [] m = false
lists (x ∷ xs) m = is_same x m || lists xs m

abbrev pub modes_of : List PortPinMode → Modes
modes_of xs = record { adc = lists xs Adc; dio = lists xs Dio; icu = lists xs Icu; pwm = lists xs Pwm; spi = lists xs Spi }

-- what the driver keeps of a configured pin
abbrev pub taken : PortPin → Pin
taken x = record { direction = x.direction; direction_changeable = x.direction_changeable; initial_mode = x.initial_mode; modes = modes_of x.modes; mode_changeable = x.mode_changeable; level_high = x.level_high }

-- the first pin with this number
abbrev pub pin_in : List PortPin → ℕ → Option Pin
pin_in [] p = None
pin_in (x ∷ xs) p = if x.id == p then Some (taken x) else pin_in xs p

-- the pins of the numbers 0 to 63, where they are configured
abbrev pub pins_by_number : List PortPin → List (Option Pin)
pins_by_number xs = map (λ p. pin_in xs p) (range_with_len 0 64)

-- what is kept of a configuration
abbrev pub table_of : PortConfig → PortTable
table_of g = record { detect = g.dev_error_detect; pins = pins_by_number g.pins }

-- the pin of a number among pins by number, and of the driver, where it is configured
abbrev pub numbered : List (Option Pin) → ℕ → Option Pin
numbered ks p = if nat_lt p 64 then slice_index_or ks p None else None

abbrev pub pin_of : PortTable → ℕ → Option Pin
pin_of d p = numbered d.pins p

-- the mode is one of these
abbrev pub is_among : Modes → PortPinMode → Bool
is_among x Adc = x.adc
is_among x Dio = x.dio
is_among x Icu = x.icu
is_among x Pwm = x.pwm
is_among x Spi = x.spi

-- what the configuration has to be: a pin's initial mode is one of its modes
pub record FitsPort (d : PortTable) : Type 0 where
  pub initial : (p : ℕ) (k : Pin) → pin_of d p ≡ Some k → is_among k.modes k.initial_mode ≡ true
