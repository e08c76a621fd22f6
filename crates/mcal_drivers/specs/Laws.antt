-- The drivers of all modules as one are lawful, since those of the modules are.
use Rattle.std.specs.Prelude.{◌≡◌, ℕ, ◌≤◌, List}
use Rattle.chip_model.specs.Chip.{Chip}
use Rattle.mcal_base.specs.declared.moves.Move.{Move}
use Rattle.mcal_base.specs.declared.routine.Taken.{Taken}
use Rattle.run_model.specs.Frame.{Open}
use Rattle.run_model.specs.World.{World}
use Rattle.service_outline.specs.Short.{ending_gave, short_move, short_left, short_gave}
use Rattle.service_outline.specs.laws.Lawful.{services_lawful}
use Rattle.service_outline.specs.laws.ShortServices.{short_lawful}
use Rattle.step_runner.specs.Driver.{Driver, IsLawful}
use Rattle.step_runner.specs.Union.{either, either_left, either_gave, AreApart, union_of}
use Rattle.step_runner.specs.UnionLaws.{union-lawful}
use Rattle.service_outline.specs.guests.GuestLaws.{guest-lawful}
use Rattle.mcu_driver.specs.laws.Lawful as clock_laws
use Rattle.mcu_driver.specs.laws.Lawful.{mcu}
use Rattle.wdg_driver.specs.laws.Lawful as watchdog_laws
use Rattle.wdg_driver.specs.laws.Lawful.{wdg}
use Rattle.port_driver.specs.laws.Lawful as pin_laws
use Rattle.port_driver.specs.laws.Lawful.{port}
use Rattle.dio_driver.specs.Frames.{dio_move, dio_left, dio_gave}
use Rattle.dio_driver.specs.Laws.{dio_right}
use Rattle.gpt_driver.specs.laws.Lawful as timer_laws
use Rattle.gpt_driver.specs.laws.Lawful.{gpt}
use Rattle.pwm_driver.specs.laws.Lawful as pulse_laws
use Rattle.pwm_driver.specs.laws.Lawful.{pwm}
use Rattle.icu_driver.specs.laws.Lawful as capture_laws
use Rattle.icu_driver.specs.laws.Lawful.{icu}
use Rattle.adc_driver.specs.laws.bookkeeping.Joined.{joined as converters_of, joined_lawful as converters_lawful}
use Rattle.adc_groups.specs.declared.words.TheConstants as converter_words
use Rattle.adc_groups.specs.laws.services.LookSteps.{adc_looked, any_ends}
use Rattle.spi_driver.specs.laws.bookkeeping.Joined.{joined, joined_lawful}
use Rattle.spi_sequences.specs.declared.words.TheConstants as serial_words
use Rattle.spi_sequences.specs.laws.services.Bodies.{spi_ends}
use Rattle.spi_sequences.specs.laws.services.Bodies.{spi_looked}
use Rattle.mcal_drivers.specs.Drivers.{host, as_one}
use Rattle.mcal_drivers.specs.Frames.{HostFrame, SystemFrame}
use Rattle.mcal_drivers.specs.Setting.{SystemState, SystemCall, host_pins, ports_of}
use Rattle.mcal_drivers.specs.declared.drivers.Drivers.{Drivers}

-- the move of a frame, what is left of it, and what it gave
abbrev pub host_move_in : Drivers → HostFrame → Move
host_move_in u = either (either (either (short_move (mcu u.clock).word (mcu u.clock).bodies.work_of) (short_move (wdg u.watchdog).word (wdg u.watchdog).bodies.work_of)) (either (short_move (port u.pins).word (port u.pins).bodies.work_of) (short_move (gpt u.timers).word (gpt u.timers).bodies.work_of))) (either (either (short_move (pwm u.pulses).word (pwm u.pulses).bodies.work_of) (short_move (icu u.captures).word (icu u.captures).bodies.work_of)) (either (short_move converter_words.STATE (converters_of u.converters.table).bodies.work_of) (short_move serial_words.STATE (joined u.serial.table).bodies.work_of)))

abbrev pub move_in : Drivers → SystemFrame → Move
move_in u = either (host_move_in u) dio_move

abbrev pub host_left_in : Drivers → HostFrame → ℕ → HostFrame
host_left_in u = either_left (either_left (either_left (short_left (mcu u.clock).looked (mcu u.clock).bodies.takes) (short_left (wdg u.watchdog).looked (wdg u.watchdog).bodies.takes)) (either_left (short_left (port u.pins).looked (port u.pins).bodies.takes) (short_left (gpt u.timers).looked (gpt u.timers).bodies.takes))) (either_left (either_left (short_left (pwm u.pulses).looked (pwm u.pulses).bodies.takes) (short_left (icu u.captures).looked (icu u.captures).bodies.takes)) (either_left (short_left adc_looked (converters_of u.converters.table).bodies.takes) (short_left spi_looked (joined u.serial.table).bodies.takes)))

abbrev pub left_in : Drivers → SystemFrame → ℕ → SystemFrame
left_in u = either_left (host_left_in u) dio_left

abbrev pub host_gave_in : Drivers → HostFrame → ℕ → Taken
host_gave_in u = either_gave (either_gave (either_gave (short_gave (mcu u.clock).looked (mcu u.clock).bodies.takes) (short_gave (wdg u.watchdog).looked (wdg u.watchdog).bodies.takes)) (either_gave (short_gave (port u.pins).looked (port u.pins).bodies.takes) (short_gave (gpt u.timers).looked (gpt u.timers).bodies.takes))) (either_gave (either_gave (short_gave (pwm u.pulses).looked (pwm u.pulses).bodies.takes) (short_gave (icu u.captures).looked (icu u.captures).bodies.takes)) (either_gave (ending_gave adc_looked (converters_of u.converters.table).bodies.takes any_ends) (ending_gave spi_looked (joined u.serial.table).bodies.takes spi_ends)))

abbrev pub gave_in : Drivers → SystemFrame → ℕ → Taken
gave_in u = either_gave (host_gave_in u) dio_gave

-- of two
pub both : {S T C D F G : Type 0} {d : Driver S C F} {e : Driver T D G} {move_d : F → Move} {left_d : F → ℕ → F} {gave_d : F → ℕ → Taken} {move_e : G → Move} {left_e : G → ℕ → G} {gave_e : G → ℕ → Taken} → IsLawful d move_d left_d gave_d → IsLawful e move_e left_e gave_e → AreApart d e → IsLawful (union_of d e) (either move_d move_e) (either_left left_d left_e) (either_gave gave_d gave_e)
both {d = d} {e = e} {move_d = move_d} {left_d = left_d} {gave_d = gave_d} {move_e = move_e} {left_e = left_e} {gave_e = gave_e} first second apart = union-lawful d e move_d left_d gave_d move_e left_e gave_e first second apart

-- of all that have a state
pub lawful_host : (u : Drivers) → (host u).fits → IsLawful (host u) (host_move_in u) (host_left_in u) (host_gave_in u)
lawful_host u fits =
    let timed = both (pin_laws.lawful u.pins) (short_lawful (gpt u.timers) (timer_laws.lawful u.timers fits.0.1.1)) fits.0.1.2 in
    let watched = both (services_lawful (mcu u.clock) (clock_laws.lawful u.clock fits.0.0.0)) (short_lawful (wdg u.watchdog) (watchdog_laws.lawful u.watchdog fits.0.0.1)) fits.0.0.2 in
    let firsts = both watched timed fits.0.2 in
    let captured = both (pulse_laws.lawful u.pulses fits.1.0.0) (short_lawful (icu u.captures) (capture_laws.lawful u.captures fits.1.0.1)) fits.1.0.2 in
    let lasts = both (converters_lawful u.converters.table fits.1.1.0) (joined_lawful u.serial.table fits.1.1.1) fits.1.1.2 in
    let seconds = both captured lasts fits.1.2 in
    both firsts seconds fits.2

-- and with the guest
pub lawful_system : (u : Drivers) → (as_one u).fits → IsLawful (as_one u) (move_in u) (left_in u) (gave_in u)
unfolding as_one
lawful_system u fits = guest-lawful (host u) (ports_of u.ports u.pulses u.outputs) (host_move_in u) (host_left_in u) (host_gave_in u) dio_move dio_left dio_gave (lawful_host u fits.0) (dio_right u.ports (host_pins u.pulses u.outputs) (λ wiring. wiring.outputs ≡ u.outputs) fits.1) fits.2

-- a tick of the oscillator is at most 16 peripheral ticks
pub slow_system : (u : Drivers) (chip : Chip) (w : World) (ps : List (SystemFrame × Open SystemCall)) (s : SystemState) → (as_one u).fits → (as_one u).relates chip w ps s → (as_one u).setting.machine.rate s ≤ 16
unfolding as_one
slow_system u chip w ps s fits h = clock_laws.slow_clock u.clock chip w h.host.first.first.firsts s.0.0.0 fits.0.0.0.0 h.host.first.first.first
