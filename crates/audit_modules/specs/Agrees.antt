-- Where the chip and the machines of all modules agree: wherever the mask is open, at rest, and at a notice.
use Rattle.std.specs.Prelude.{◌≡◌, ℕ, ◌<◌, ◌≤◌, Bool, false, Contains, IsSome, length}
use Rattle.adc_machine.specs.Machine.{place_value}
use Rattle.adc_machine.specs.Turns.{AdcState}
use Rattle.adc_machine.specs.Words.{HoldsResults, place_count, result_word}
use Rattle.adc_machine.specs.declared.call.ResultBuffer.{ResultBuffer}
use Rattle.adc_machine.specs.declared.table.AdcTable.{AdcTable}
use Rattle.chip_model.specs.Chip.{Chip, word_of}
use Rattle.chip_blocks.specs.units.Pins as pins
use Rattle.module_machines.specs.icu.Bounds.{HasStamps}
use Rattle.module_machines.specs.icu.Machine.{IcuState}
use Rattle.module_machines.specs.icu.Table.{channel_of}
use Rattle.module_machines.specs.declared.icu.table.IcuTable.{IcuTable}
use Rattle.mcal_base.specs.Layout.{place_of}
use Rattle.mcal_base.specs.declared.config.port.PortPinMode.{PortPinMode}
use Rattle.mcal_base.specs.declared.config.port.PortPinMode.TheVariants as modes
use Rattle.mcal_base.specs.declared.layout.Array.TheVariants.{Source, Destination}
use Rattle.mcal_base.specs.declared.module_name.ModuleName.{ModuleName}
use Rattle.mcal_base.specs.declared.module_name.ModuleName.TheVariants.{Icu, Adc, Spi}
use Rattle.mcal_base.specs.declared.notice.Notice.{Notice}
use Rattle.module_machines.specs.mcu.Bounds.{RamAgrees}
use Rattle.module_machines.specs.port.Bounds.{PinsAgree}
use Rattle.module_machines.specs.port.Machine.{PortState}
use Rattle.module_machines.specs.pwm.Bounds.{OutputsAgree}
use Rattle.run_model.specs.World.{World}
use Rattle.spi_machine.specs.Bounds.{HoldsArrays, channels_named}
use Rattle.spi_machine.specs.Numbered.{word_at}
use Rattle.spi_machine.specs.State.{SpiState, channel_at}
use Rattle.spi_machine.specs.declared.table.SpiTable.{SpiTable}
use Rattle.audit_machines.specs.System.{SystemState, Tables}

-- ---- each array

-- the stamps of a channel are the machine's, where it is configured
abbrev pub StampsIf : IcuTable → Chip → IcuState → (channel : ℕ) → Type 0
StampsIf d chip s c = IsSome (channel_of d c) → HasStamps chip s c

-- so many results in a buffer of a group are
abbrev pub HoldsBuffer : Chip → AdcState → (group : ℕ) → ResultBuffer → (count : ℕ) → Type 0
HoldsBuffer chip s g b n = (p : ℕ) → p < n → word_of chip (result_word g b p) ≡ place_value s g b p

-- a place of the source array of a serial channel has the machine's word, and one of its destination array
abbrev pub HoldsSource : Chip → SpiState → (channel place : ℕ) → Type 0
HoldsSource chip s c i = word_of chip (place_of (Source c) i) ≡ word_at (channel_at s c).source i

abbrev pub HoldsDestination : Chip → SpiState → (channel place : ℕ) → Type 0
HoldsDestination chip s c i = word_of chip (place_of (Destination c) i) ≡ word_at (channel_at s c).destination i

-- the arrays of these serial channels have
abbrev pub AllHold : SpiTable → Chip → SpiState → (channels : ℕ → Type 0) → Type 0
AllHold d chip s channels = (c : ℕ) → channels c → HoldsArrays (word_of chip) d s c

-- there is room for the results of each group
abbrev pub HasRoom : AdcTable → Type 0
HasRoom d = (g : ℕ) → place_count d g ≤ 2048

-- ---- wherever the mask is open

-- the number of a mode, as the chip has it
abbrev pub mode_number : PortPinMode → ℕ
mode_number modes.Adc = 0
mode_number modes.Dio = 1
mode_number modes.Icu = 2
mode_number modes.Pwm = 3
mode_number modes.Spi = 4

-- the pins are the machine's, but while they are busy, which is where a call about all of them is under way
abbrev pub PinsUnless : (busy : Bool) → pins.Pins → PortState → Type 0
PinsUnless busy b s = busy ≡ false → PinsAgree b s × (length b.latches ≡ 2)

-- the outputs of the pulse units are the machine's, and so are the pins
pub record OutputsStand (t : Tables SpiTable) (chip : Chip) (w : World) (s : SystemState SpiState) (busy : Bool) : Type 0 where
  pub outputs : OutputsAgree t.1.0.0 chip.pulses w s.1.0.0
  pub pins : PinsUnless busy chip.pins s.0.1.0

-- the users' arrays of all serial channels are
abbrev pub ArraysStand : Tables SpiTable → Chip → SystemState SpiState → Type 0
ArraysStand t chip s = (c : ℕ) → HoldsArrays (word_of chip) t.1.1.1 s.1.1.1 c

-- ---- at rest

-- RAM, pins, stamps, results and serial arrays are the machine's
pub record Rests (t : Tables SpiTable) (chip : Chip) (s : SystemState SpiState) : Type 0 where
  pub ram : RamAgrees chip.ram s.0.0.0
  pub pins : PinsAgree chip.pins s.0.1.0
  pub stamps : (c : ℕ) → StampsIf t.1.0.1 chip s.1.0.1 c
  pub results : (g : ℕ) → HoldsResults (word_of chip) t.1.1.0 s.1.1.0 g
  pub arrays : ArraysStand t chip s

-- ---- at a notice

-- the arrays of the object that a notice names are the machine's, where a frame of this module gives it
abbrev pub Shows : ModuleName → Tables SpiTable → Notice → Chip → SystemState SpiState → Type 0
Shows Icu t n chip s = StampsIf t.1.0.1 chip s.1.0.1 n.id
Shows Adc t n chip s = HoldsResults (word_of chip) t.1.1.0 s.1.1.0 n.id
Shows Spi t n chip s = AllHold t.1.1.1 chip s.1.1.1 (Contains (channels_named t.1.1.1 n))
Shows _ t n chip s = Unit {0}
