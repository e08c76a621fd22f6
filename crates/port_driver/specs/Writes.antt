-- The writes of all pins: levels and directions by halves, modes pin by pin, in the order of the configured pins.
use Rattle.std.specs.Prelude.{ℕ, suc, zero, ◌+◌, ◌*◌, ◌/◌, ◌%◌, ◌==◌, Bool, true, false, ◌&&◌, not, Option, Some, None, is_some, if◌then◌else◌}
use Rattle.mcal_base.specs.Bits.{bit_of, bits_of}
use Rattle.mcal_base.specs.declared.config.port.PortPinMode.{PortPinMode}
use Rattle.mcal_base.specs.declared.config.port.PortPinMode.TheVariants.{Adc, Dio, Icu, Pwm, Spi}
use Rattle.mcal_base.specs.declared.moves.Move.{Move}
use Rattle.mcal_base.specs.declared.moves.Move.TheVariants.{Write}
use Rattle.mcal_base.specs.declared.register.Reg.{Reg}
use Rattle.mcal_base.specs.declared.register.Reg.TheVariants.{PinDirectionSet, PinDirectionClear, PinOutSet, PinOutClear, PinMode}
use Rattle.module_machines.specs.port.Machine.{is_out}
use Rattle.module_machines.specs.port.Table.{pin_of}
use Rattle.module_machines.specs.declared.port.table.Pin.{Pin}
use Rattle.module_machines.specs.declared.port.table.PortTable.{PortTable}
use Rattle.port_driver.specs.declared.writes.Side.{Side}
use Rattle.port_driver.specs.declared.writes.Side.TheVariants.{Levels, Directions, Fixed}

abbrev pub chosen : {A : Type 0} → Bool → A → A → A
chosen it one other = if it then one else other

-- ---- by halves

-- what a configured pin's bit is to be, where it is to be something
abbrev pub wanted : Side → Pin → Option Bool
wanted Levels k = Some k.level_high
wanted Directions k = Some (is_out k.direction)
wanted Fixed k = if k.direction_changeable then None else Some (is_out k.direction)

abbrev pub wanted_of : Side → Option Pin → Option Bool
wanted_of side None = None
wanted_of side (Some k) = wanted side k

abbrev pub wants : PortTable → Side → ℕ → Option Bool
wants d side p = wanted_of side (pin_of d p)

-- whether a bit that is wanted so is one of those that are set, or cleared
abbrev pub asks : (set : Bool) → Option Bool → Bool
asks set None = false
asks true (Some high) = high
asks false (Some high) = not high

-- four writes: bits that are set, and bits that are cleared, of the first half and of the second
abbrev pub sets : ℕ → Bool
sets write = write % 2 == 0

-- the bits of such a write
abbrev pub ones : (ℕ → Option Bool) → ℕ → ℕ
ones want write = bits_of (λ k. asks (sets write) (want (32 * (write / 2) + k))) 32

abbrev pub register : Side → (set : Bool) → (half : ℕ) → Reg
register Levels true half = PinOutSet half
register Levels false half = PinOutClear half
register Directions true half = PinDirectionSet half
register Directions false half = PinDirectionClear half
register Fixed true half = PinDirectionSet half
register Fixed false half = PinDirectionClear half

abbrev pub half_write : PortTable → Side → ℕ → Move
half_write d side write = Write (register side (sets write) (write / 2)) (ones (wants d side) write)

-- ---- pin by pin

abbrev pub mode_number : PortPinMode → ℕ
mode_number Adc = 0
mode_number Dio = 1
mode_number Icu = 2
mode_number Pwm = 3
mode_number Spi = 4

abbrev pub is_configured : PortTable → ℕ → Bool
is_configured d p = is_some (pin_of d p)

-- how many below n pass the test, and the one of those that has this rank among them
unfoldable pub counted : (ℕ → Bool) → ℕ → ℕ
counted test zero = 0
counted test (suc n) = bit_of (test n) + counted test n

unfoldable pub with_rank : (ℕ → Bool) → (rank n : ℕ) → ℕ
with_rank test rank zero = 0
with_rank test rank (suc n) = if test n && counted test n == rank then n else with_rank test rank n

-- how many pins are configured, the rank of one of them, and the one of a rank
abbrev pub configured : PortTable → ℕ
configured d = counted (is_configured d) 64

abbrev pub rank_of : PortTable → ℕ → ℕ
rank_of d p = counted (is_configured d) p

abbrev pub ranked : PortTable → ℕ → ℕ
ranked d rank = with_rank (is_configured d) rank 64

abbrev pub mode_of : Option Pin → PortPinMode
mode_of None = Adc
mode_of (Some k) = k.initial_mode

abbrev pub initial_mode : PortTable → ℕ → PortPinMode
initial_mode d p = mode_of (pin_of d p)

abbrev pub mode_write : PortTable → ℕ → Move
mode_write d rank = Write (PinMode (ranked d rank)) (mode_number (initial_mode d (ranked d rank)))
