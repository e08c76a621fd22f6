-- What users' arrays hold, and what a serial unit runs.
use Rattle.std.specs.Prelude.{ℕ, ◌==◌, Option, None, if◌then◌else◌}
use Rattle.adc_machine.specs.Machine.{place_value}
use Rattle.adc_machine.specs.Turns.{AdcState}
use Rattle.adc_machine.specs.declared.call.ResultBuffer.{ResultBuffer}
use Rattle.adc_machine.specs.declared.call.ResultBuffer.TheVariants.{Zero, One}
use Rattle.module_machines.specs.icu.Machine.{IcuState}
use Rattle.module_machines.specs.icu.Shown.{stamp_at}
use Rattle.mcal_base.specs.declared.layout.Array.{Array}
use Rattle.mcal_base.specs.declared.layout.Array.TheVariants.{Round, Stamps, Source, Destination}
use Rattle.mcal_base.specs.declared.moves.Unit.{Unit}
use Rattle.mcal_base.specs.declared.moves.Unit.TheVariants.{Adc0, Adc1, Spi0, Spi1}
use Rattle.spi_machine.specs.Numbered.{word_at}
use Rattle.spi_machine.specs.State.{SpiState, channel_at}
use Rattle.spi_machine.specs.declared.table.SpiTable.{SpiTable}
use Rattle.audit_serial.specs.Stands.{job_on}

abbrev pub buffer_of : ℕ → ResultBuffer
buffer_of n = if n == 0 then Zero else One

-- a place of an array of the users
abbrev pub user_at : IcuState → AdcState → SpiState → Array → (place : ℕ) → ℕ
user_at c a s (Round group buffer) i = place_value a group (buffer_of buffer) i
user_at c a s (Stamps channel) i = stamp_at c channel i
user_at c a s (Source channel) i = word_at (channel_at s channel).source i
user_at c a s (Destination channel) i = word_at (channel_at s channel).destination i

-- the job that a unit runs, or carries out for a call: none of a converter unit
abbrev pub job_at : SpiTable → SpiState → Unit → Option ℕ
job_at d s Spi0 = job_on d s 0
job_at d s Spi1 = job_on d s 1
job_at d s Adc0 = None
job_at d s Adc1 = None
