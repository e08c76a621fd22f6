-- The checker's machine of all modules under a configuration.
use Rattle.mcal_base.specs.declared.config.whole.Config.{Config}
use Rattle.run_model.specs.Moment.{Setting}
use Rattle.adc_machine.specs.Bounds.{adc_setting}
use Rattle.module_machines.specs.gpt.Bounds.{gpt_setting}
use Rattle.module_machines.specs.icu.Bounds.{icu_setting}
use Rattle.module_machines.specs.mcu.Bounds.{mcu_setting}
use Rattle.module_machines.specs.port.Bounds.{port_setting}
use Rattle.module_machines.specs.pwm.Bounds.{pwm_setting}
use Rattle.spi_machine.specs.Bounds.{spi_setting}
use Rattle.module_machines.specs.wdg.Bounds.{wdg_setting}
use Rattle.audit_subject.specs.Product.{joined}
use Rattle.audit_machines.specs.Hosting.{hosted_setting}
use Rattle.adc_machine.specs.Table as converter_table
use Rattle.chip_model.specs.Wiring.{wiring_of}
use Rattle.module_machines.specs.dio.Table as port_table
use Rattle.spi_machine.specs.State.{SpiState}
use Rattle.spi_machine.specs.Table as serial_table
use Rattle.module_machines.specs.gpt.Table as timer_table
use Rattle.module_machines.specs.icu.Table as capture_table
use Rattle.module_machines.specs.mcu.Table as clock_table
use Rattle.module_machines.specs.port.Table as pin_table
use Rattle.module_machines.specs.pwm.Table as pulse_table
use Rattle.module_machines.specs.wdg.Table as watchdog_table
use Rattle.audit_base.specs.Deeds.{Member}
use Rattle.audit_base.specs.Product.{both}
use Rattle.audit_captures.specs.Members as captures
use Rattle.audit_clock.specs.Members.{clock_member, pins_member, watchdog_member}
use Rattle.audit_converters.specs.Members as converters
use Rattle.audit_machines.specs.Guest.{hosted, host_pins}
use Rattle.audit_machines.specs.Requests.{AnyCall, StateCall}
use Rattle.audit_machines.specs.System.{SystemState}
use Rattle.audit_pulses.specs.Members as pulses
use Rattle.audit_serial.specs.Members as serial
use Rattle.audit_timers.specs.Members as timers

-- of the modules that have a state
abbrev pub state_member : Config → Member (SystemState SpiState) StateCall
state_member c = both
    (both (both (clock_member (clock_table.table_of c.mcu)) (watchdog_member (watchdog_table.table_of c.wdg))) (both (pins_member (pin_table.table_of c.port)) (timers.member_of (timer_table.table_of c.gpt))))
    (both (both (pulses.member_of (pulse_table.table_of c.pwm)) (captures.member_of (capture_table.table_of c.icu))) (both (converters.member_of (converter_table.table_of c.adc)) (serial.member_of (serial_table.table_of c.spi))))

-- with channels and ports
abbrev pub system_member : Config → Member (SystemState SpiState) AnyCall
system_member c = hosted (state_member c) (host_pins (pulse_table.table_of c.pwm) (wiring_of c).outputs) (port_table.table_of c.port c.dio)

-- ---- and what runs of it are over

abbrev pub state_setting : Config → Setting (SystemState SpiState) StateCall
state_setting c = joined
    (joined (joined (mcu_setting (clock_table.table_of c.mcu)) (wdg_setting (watchdog_table.table_of c.wdg))) (joined (port_setting (pin_table.table_of c.port)) (gpt_setting (timer_table.table_of c.gpt))))
    (joined (joined (pwm_setting (pulse_table.table_of c.pwm)) (icu_setting (capture_table.table_of c.icu))) (joined (adc_setting (converter_table.table_of c.adc)) (spi_setting (serial_table.table_of c.spi))))

abbrev pub all_setting : Config → Setting (SystemState SpiState) AnyCall
all_setting c = hosted_setting (state_setting c) (host_pins (pulse_table.table_of c.pwm) (wiring_of c).outputs) (port_table.table_of c.port c.dio)
