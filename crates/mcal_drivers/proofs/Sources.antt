-- Of all modules the serial driver alone has source arrays, and what it says of their use is said of all.
use Rattle.std.proofs.Common.{◌≡◌, ℕ, Bool, ◌&&◌, List, Option, Some, None, ◌∙◌, ap}
use Rattle.std.specs.Prelude.{is_some}
use Rattle.std.specs.Option.{IfSome}
use Rattle.chip_model.specs.Chip.{Chip}
use Rattle.run_model.specs.Frame.{Open}
use Rattle.run_model.specs.World.{World}
use Rattle.service_outline.specs.Services.{services_driver}
use Rattle.service_outline.specs.ShortServices as short
use Rattle.step_runner.specs.Driver.{AllOutside}
use Rattle.step_runner.specs.Union.{has_handler, union_of}
use Rattle.step_runner.specs.UnionLaws.{outside-split}
use Rattle.service_outline.specs.guests.Guest.{every}
use Rattle.mcu_driver.specs.laws.Lawful.{mcu}
use Rattle.wdg_driver.specs.laws.Lawful.{wdg}
use Rattle.port_driver.specs.laws.Lawful.{port}
use Rattle.gpt_driver.specs.laws.Lawful.{gpt}
use Rattle.pwm_driver.specs.laws.Lawful.{pwm}
use Rattle.icu_driver.specs.laws.Lawful.{icu}
use Rattle.adc_driver.specs.laws.bookkeeping.Joined.{joined as converters_of}
use Rattle.spi_driver.specs.laws.bookkeeping.Joined.{joined}
use Rattle.spi_machine.specs.Bounds.{fills}
use Rattle.spi_machine.specs.Fits.{FitsSpi}
use Rattle.spi_machine.specs.State.{SpiState, uses}
use Rattle.spi_machine.specs.declared.call.Call as serial_calls
use Rattle.mcal_drivers.specs.Drivers.{as_one}
use Rattle.mcal_drivers.specs.Frames.{SerialFrame, SystemFrame}
use Rattle.mcal_drivers.specs.Setting.{SystemCall, SystemState}
use Rattle.mcal_drivers.specs.declared.drivers.Drivers.{Drivers}

-- what the serial driver says of the use of an array
abbrev Says : Drivers → Chip → (channel : ℕ) → Option Bool → Type 0
Says u chip c result = (w : World) (ps : List (SerialFrame × Open serial_calls.Call)) (s : SpiState) → FitsSpi u.serial.table → AllOutside ps → (services_driver (joined u.serial.table)).relates chip w ps s → IfSome result (λ used. used ≡ uses u.serial.table s c)

if_there : (o : Option Bool) (there using : Bool) → is_some o ≡ there → IfSome o (λ used. used ≡ using) → IfSome o (λ used. used ≡ there && using)
if_there None there using e h = tt
if_there (Some used) there using e h = h ∙ ap (λ b. b && using) e

pub has_arrays : (u : Drivers) (c : ℕ) (result : Option Bool) → is_some result ≡ fills u.serial.table c → is_some result ≡ (as_one u).setting.fills c
unfolding as_one
has_arrays u c result e = e

pub uses_arrays : (u : Drivers) (chip : Chip) (c : ℕ) (result : Option Bool) → is_some result ≡ fills u.serial.table c → Says u chip c result → (w : World) (ps : List (SystemFrame × Open SystemCall)) (s : SystemState) → (as_one u).fits → AllOutside ps → (as_one u).relates chip w ps s → IfSome result (λ used. used ≡ (as_one u).setting.in_use w s c)
unfolding as_one
uses_arrays u chip c result there says w ps s fits out h =
    let firsts = union_of (union_of (services_driver (mcu u.clock)) (short.driver_of (wdg u.watchdog))) (union_of (services_driver (port u.pins)) (short.driver_of (gpt u.timers))) in
    let captured = union_of (services_driver (pwm u.pulses)) (short.driver_of (icu u.captures)) in
    let hosts = outside-split every ps h.hosts h.guests h.splits out in
    let outs = outside-split (has_handler firsts) h.hosts h.host.firsts h.host.seconds h.host.splits hosts.0 in
    let outside = outside-split (has_handler captured) h.host.seconds h.host.second.firsts h.host.second.seconds h.host.second.splits outs.1 in
    let converters = services_driver (converters_of u.converters.table) in
    let lasts = outside-split (has_handler converters) h.host.second.seconds h.host.second.second.firsts h.host.second.second.seconds h.host.second.second.splits outside.1 in
    let using = uses u.serial.table s.1.1.1 c in
    let there_is = fills u.serial.table c in
    let own = if_there result there_is using there (says w h.host.second.second.seconds s.1.1.1 fits.0.1.1.1 lasts.1 h.host.second.second.second) in
    let last = if_there result there_is (there_is && using) there own in
    if_there result there_is (there_is && (there_is && using)) there last
