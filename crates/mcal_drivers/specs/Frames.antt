-- The frames of all modules.
use Rattle.service_outline.specs.declared.short.Short.{Short}
use Rattle.step_runner.specs.declared.either.Either.{Either}
use Rattle.step_runner.specs.declared.either.Either.TheVariants.{Left, Right}
use Rattle.mcu_driver.specs.declared.asked.Asked as clock_asked
use Rattle.mcu_driver.specs.laws.Bodies.{McuBody}
use Rattle.wdg_driver.specs.declared.asked.Asked as watchdog_asked
use Rattle.wdg_driver.specs.declared.service.WdgBody.{WdgBody}
use Rattle.port_driver.specs.declared.asked.Asked as pin_asked
use Rattle.port_driver.specs.laws.Bodies.{PortBody}
use Rattle.gpt_driver.specs.declared.asked.Asked as timer_asked
use Rattle.gpt_driver.specs.laws.Bodies.{GptBody}
use Rattle.pwm_driver.specs.declared.asked.Asked as pulse_asked
use Rattle.pwm_driver.specs.laws.Bodies.{PwmBody}
use Rattle.icu_driver.specs.declared.asked.Asked as capture_asked
use Rattle.icu_driver.specs.laws.Bodies.{IcuBody}
use Rattle.adc_groups.specs.declared.asked.Asked as converter_asked
use Rattle.adc_groups.specs.laws.services.LookSteps.{AnyBody}
use Rattle.spi_sequences.specs.declared.asked.Asked as serial_asked
use Rattle.spi_sequences.specs.laws.services.Bodies.{SpiBody}
use Rattle.dio_driver.specs.declared.frame.DioFrame.{DioFrame}
use Rattle.mcal_drivers.specs.declared.frame.ModuleFrame.{ModuleFrame}
use Rattle.mcal_drivers.specs.declared.frame.ModuleFrame.TheVariants.{Clock, Watchdog, Pins, Timers, Pulses, Captures, Converters, Serial, Ports}

-- those of each
abbrev pub ClockFrame : Type 0
ClockFrame = Short clock_asked.Asked McuBody

abbrev pub WatchdogFrame : Type 0
WatchdogFrame = Short watchdog_asked.Asked WdgBody

abbrev pub PinFrame : Type 0
PinFrame = Short pin_asked.Asked PortBody

abbrev pub TimerFrame : Type 0
TimerFrame = Short timer_asked.Asked GptBody

abbrev pub PulseFrame : Type 0
PulseFrame = Short pulse_asked.Asked PwmBody

abbrev pub CaptureFrame : Type 0
CaptureFrame = Short capture_asked.Asked IcuBody

abbrev pub ConverterFrame : Type 0
ConverterFrame = Short converter_asked.Asked AnyBody

abbrev pub SerialFrame : Type 0
SerialFrame = Short serial_asked.Asked SpiBody

-- those of all modules that have a state, and those of all
abbrev pub HostFrame : Type 0
HostFrame = Either (Either (Either ClockFrame WatchdogFrame) (Either PinFrame TimerFrame)) (Either (Either PulseFrame CaptureFrame) (Either ConverterFrame SerialFrame))

abbrev pub SystemFrame : Type 0
SystemFrame = Either HostFrame DioFrame

-- a module's frame among those of all
abbrev pub in_union : ModuleFrame → SystemFrame
in_union (Clock f) = Left (Left (Left (Left f)))
in_union (Watchdog f) = Left (Left (Left (Right f)))
in_union (Pins f) = Left (Left (Right (Left f)))
in_union (Timers f) = Left (Left (Right (Right f)))
in_union (Pulses f) = Left (Right (Left (Left f)))
in_union (Captures f) = Left (Right (Left (Right f)))
in_union (Converters f) = Left (Right (Right (Left f)))
in_union (Serial f) = Left (Right (Right (Right f)))
in_union (Ports f) = Right f
