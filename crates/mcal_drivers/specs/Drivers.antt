-- The drivers of all modules as one, as the runner sees them.
use Rattle.chip_model.specs.Wiring.{wiring_of}
use Rattle.mcal_base.specs.declared.config.whole.Config.{Config}
use Rattle.service_outline.specs.Services.{services_driver}
use Rattle.service_outline.specs.ShortServices as short
use Rattle.step_runner.specs.Driver.{Driver}
use Rattle.step_runner.specs.Union.{union_of}
use Rattle.service_outline.specs.guests.Guest.{guest_of}
use Rattle.module_machines.specs.mcu.Machine.{McuState}
use Rattle.module_machines.specs.mcu.Table as clock_table
use Rattle.module_machines.specs.declared.mcu.call.Call as clock_calls
use Rattle.mcu_driver.specs.laws.Lawful.{mcu}
use Rattle.module_machines.specs.wdg.Machine.{WdgState}
use Rattle.module_machines.specs.wdg.Table as watchdog_table
use Rattle.module_machines.specs.declared.wdg.call.Call as watchdog_calls
use Rattle.wdg_driver.specs.laws.Lawful.{wdg}
use Rattle.module_machines.specs.port.Machine.{PortState}
use Rattle.module_machines.specs.port.Table as pin_table
use Rattle.module_machines.specs.declared.port.call.Call as pin_calls
use Rattle.port_driver.specs.laws.Lawful.{port}
use Rattle.module_machines.specs.dio.Table as port_table
use Rattle.module_machines.specs.gpt.Machine.{GptState}
use Rattle.module_machines.specs.gpt.Table as timer_table
use Rattle.module_machines.specs.declared.gpt.call.Call as timer_calls
use Rattle.gpt_driver.specs.laws.Lawful.{gpt}
use Rattle.module_machines.specs.pwm.Machine.{PwmState}
use Rattle.module_machines.specs.pwm.Table as pulse_table
use Rattle.module_machines.specs.declared.pwm.call.Call as pulse_calls
use Rattle.pwm_driver.specs.laws.Lawful.{pwm}
use Rattle.module_machines.specs.icu.Machine.{IcuState}
use Rattle.module_machines.specs.icu.Table as capture_table
use Rattle.module_machines.specs.declared.icu.call.Call as capture_calls
use Rattle.icu_driver.specs.laws.Lawful.{icu}
use Rattle.adc_driver.specs.laws.bookkeeping.Joined.{joined as converters_of}
use Rattle.adc_machine.specs.Table as converter_table
use Rattle.adc_machine.specs.Turns.{AdcState}
use Rattle.adc_machine.specs.declared.call.Call as converter_calls
use Rattle.spi_driver.specs.laws.bookkeeping.Joined.{joined}
use Rattle.spi_machine.specs.State.{SpiState}
use Rattle.spi_machine.specs.Table as serial_table
use Rattle.spi_machine.specs.declared.call.Call as serial_calls
use Rattle.mcal_drivers.specs.Frames.{ClockFrame, WatchdogFrame, PinFrame, TimerFrame, PulseFrame, CaptureFrame, ConverterFrame, SerialFrame, HostFrame, SystemFrame}
use Rattle.mcal_drivers.specs.Setting.{SystemState, HostCall, SystemCall, ports_of}
use Rattle.mcal_drivers.specs.declared.drivers.Drivers.{Drivers}

-- what the code keeps of a configuration
abbrev pub drivers_of : Config → Drivers
drivers_of c = record { clock = clock_table.table_of c.mcu; watchdog = watchdog_table.table_of c.wdg; pins = pin_table.table_of c.port; timers = timer_table.table_of c.gpt; pulses = pulse_table.table_of c.pwm; captures = capture_table.table_of c.icu; converters = record { table = converter_table.table_of c.adc }; serial = record { table = serial_table.table_of c.spi }; ports = port_table.table_of c.port c.dio; outputs = (wiring_of c).outputs }

-- each module's driver
abbrev pub clock : Config → Driver McuState clock_calls.Call ClockFrame
clock c = services_driver (mcu (clock_table.table_of c.mcu))

abbrev pub watchdog : Config → Driver WdgState watchdog_calls.Call WatchdogFrame
watchdog c = short.driver_of (wdg (watchdog_table.table_of c.wdg))

abbrev pub pins : Config → Driver PortState pin_calls.Call PinFrame
pins c = services_driver (port (pin_table.table_of c.port))

abbrev pub timers : Config → Driver GptState timer_calls.Call TimerFrame
timers c = short.driver_of (gpt (timer_table.table_of c.gpt))

abbrev pub pulses : Config → Driver PwmState pulse_calls.Call PulseFrame
pulses c = services_driver (pwm (pulse_table.table_of c.pwm))

abbrev pub captures : Config → Driver IcuState capture_calls.Call CaptureFrame
captures c = short.driver_of (icu (capture_table.table_of c.icu))

abbrev pub converters : Config → Driver AdcState converter_calls.Call ConverterFrame
converters c = services_driver (converters_of (converter_table.table_of c.adc))

abbrev pub serial : Config → Driver SpiState serial_calls.Call SerialFrame
serial c = services_driver (joined (serial_table.table_of c.spi))

-- those that have a state as one, in the order of the configuration, with the watchdog beside the clock
abbrev pub host : Drivers → Driver SystemState HostCall HostFrame
host u = union_of (union_of (union_of (services_driver (mcu u.clock)) (short.driver_of (wdg u.watchdog))) (union_of (services_driver (port u.pins)) (short.driver_of (gpt u.timers)))) (union_of (union_of (services_driver (pwm u.pulses)) (short.driver_of (icu u.captures))) (union_of (services_driver (converters_of u.converters.table)) (services_driver (joined u.serial.table))))

-- all as one, with the driver of channels and ports as their guest; what is in it stays closed where no proof asks for it
unfoldable pub as_one : Drivers → Driver SystemState SystemCall SystemFrame
as_one u = guest_of (host u) (ports_of u.ports u.pulses u.outputs)

abbrev pub system : Config → Driver SystemState SystemCall SystemFrame
system c = as_one (drivers_of c)
