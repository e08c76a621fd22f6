-- What all modules and the chip agree in, part by part.
use Rattle.std.specs.Prelude.{ℕ, false}
use Rattle.adc_machine.specs.Words.{HoldsResults}
use Rattle.chip_model.specs.Chip.{Chip, word_of}
use Rattle.module_machines.specs.mcu.Bounds.{RamAgrees}
use Rattle.module_machines.specs.pwm.Bounds.{OutputsAgree}
use Rattle.run_model.specs.World.{World}
use Rattle.spi_machine.specs.State.{SpiState}
use Rattle.spi_machine.specs.declared.table.SpiTable.{SpiTable}
use Rattle.audit_machines.specs.System.{SystemState, Tables}
use Rattle.audit_modules.specs.Agrees.{ArraysStand, PinsUnless, StampsIf}
use Rattle.audit_whole.specs.declared.aspects.Aspect.{Aspect}
use Rattle.audit_whole.specs.declared.aspects.Aspect.TheVariants.{Outputs, Pins, Ram, Stamps, Results, Arrays}

abbrev pub agrees : Aspect → Tables SpiTable → Chip → World → SystemState SpiState → Type 0
agrees Outputs t chip w s = OutputsAgree t.1.0.0 chip.pulses w s.1.0.0
agrees Pins t chip w s = PinsUnless false chip.pins s.0.1.0
agrees Ram t chip w s = RamAgrees chip.ram s.0.0.0
agrees Stamps t chip w s = (c : ℕ) → StampsIf t.1.0.1 chip s.1.0.1 c
agrees Results t chip w s = (g : ℕ) → HoldsResults (word_of chip) t.1.1.0 s.1.1.0 g
agrees Arrays t chip w s = ArraysStand t chip s
