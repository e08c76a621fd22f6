-- All modules after power on, and what is kept of a configuration.
use Rattle.std.specs.Prelude.{ℕ, List, Option}
use Rattle.adc_machine.specs.Table as converter_table
use Rattle.adc_machine.specs.Turns as converters
use Rattle.adc_machine.specs.Turns.{AdcState}
use Rattle.adc_machine.specs.declared.table.AdcTable.{AdcTable}
use Rattle.chip_model.specs.Wiring.{wiring_of}
use Rattle.module_machines.specs.dio.Table as port_table
use Rattle.module_machines.specs.declared.dio.table.DioTable.{DioTable}
use Rattle.module_machines.specs.gpt.Machine as timers
use Rattle.module_machines.specs.gpt.Machine.{GptState}
use Rattle.module_machines.specs.gpt.Table as timer_table
use Rattle.module_machines.specs.declared.gpt.table.GptTable.{GptTable}
use Rattle.module_machines.specs.icu.Machine as captures
use Rattle.module_machines.specs.icu.Machine.{IcuState}
use Rattle.module_machines.specs.icu.Table as capture_table
use Rattle.module_machines.specs.declared.icu.table.IcuTable.{IcuTable}
use Rattle.mcal_base.specs.declared.config.whole.Config.{Config}
use Rattle.module_machines.specs.mcu.Machine as clock
use Rattle.module_machines.specs.mcu.Machine.{McuState}
use Rattle.module_machines.specs.mcu.Table as clock_table
use Rattle.module_machines.specs.declared.mcu.table.McuTable.{McuTable}
use Rattle.module_machines.specs.port.Machine as pins
use Rattle.module_machines.specs.port.Machine.{PortState}
use Rattle.module_machines.specs.port.Table as pin_table
use Rattle.module_machines.specs.declared.port.table.PortTable.{PortTable}
use Rattle.module_machines.specs.pwm.Machine as pulses
use Rattle.module_machines.specs.pwm.Machine.{PwmState}
use Rattle.module_machines.specs.pwm.Table as pulse_table
use Rattle.module_machines.specs.declared.pwm.table.PwmTable.{PwmTable}
use Rattle.module_machines.specs.wdg.Machine as watchdog
use Rattle.module_machines.specs.wdg.Machine.{WdgState}
use Rattle.module_machines.specs.wdg.Table as watchdog_table
use Rattle.module_machines.specs.declared.wdg.table.WdgTable.{WdgTable}

-- the states of the modules that have one, in the order of the parts, with that of the serial units
abbrev pub SystemState : Type 0 → Type 0
SystemState S = ((McuState × WdgState) × (PortState × GptState)) × ((PwmState × IcuState) × (AdcState × S))

-- after power on
abbrev pub first_states : {S : Type 0} → S → SystemState S
first_states s = (((clock.first_state, watchdog.first_state), (pins.first_state, timers.first_state)), ((pulses.first_state, captures.first_state), (converters.first_state, s)))

-- what is kept of a configuration, with what the serial units keep of it
abbrev pub Tables : Type 0 → Type 0
Tables S = ((McuTable × WdgTable) × (PortTable × GptTable)) × ((PwmTable × IcuTable) × (AdcTable × S))

abbrev pub tables_of : {S : Type 0} → Config → S → Tables S
tables_of c s = (((clock_table.table_of c.mcu, watchdog_table.table_of c.wdg), (pin_table.table_of c.port, timer_table.table_of c.gpt)), ((pulse_table.table_of c.pwm, capture_table.table_of c.icu), (converter_table.table_of c.adc, s)))

-- with channels and ports, and the pins at which pulse channels are seen
abbrev pub all_tables : {S : Type 0} → Config → S → Tables S × DioTable × List (Option ℕ)
all_tables c s = (tables_of c s, port_table.table_of c.port c.dio, (wiring_of c).outputs)
