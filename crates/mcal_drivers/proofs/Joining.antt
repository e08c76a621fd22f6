-- The drivers of all modules are what two drivers as one have to be.
use Rattle.std.proofs.Common.{◌≡◌, ℕ, Bool, true, false, [], refl, sym, subst}
use Rattle.std.specs.List.{list_all}
use Rattle.chip_model.specs.Chip.{Chip, power_on, hung}
use Rattle.config_facts.specs.Valid.{IsValid}
use Rattle.mcal_base.specs.declared.config.whole.Config.{Config}
use Rattle.mcal_base.specs.declared.module_name.ModuleName.{ModuleName}
use Rattle.mcal_base.specs.declared.module_name.ModuleName.TheVariants.{Mcu, Port, Gpt, Pwm, Icu, Adc, Spi, Wdg}
use Rattle.step_runner.specs.Driver.{Driver}
use Rattle.run_model.specs.World.{World}
use Rattle.step_runner.specs.Union.{has_handler, union_of}
use Rattle.step_runner.specs.declared.either.Either.TheVariants.{Left, Right}
use Rattle.step_runner.specs.Whose.{only, all_of, are_disjoint, KeepsTo}
use Rattle.step_runner.proofs.Whose.{keeps-both, disjoint-apart}
use Rattle.mcu_driver.specs.Fits as clock_fits
use Rattle.module_machines.specs.mcu.Table as clock_table
use Rattle.mcu_driver.specs.laws.Keeps.{keeps_clock}
use Rattle.wdg_driver.specs.Fits as watchdog_fits
use Rattle.module_machines.specs.wdg.Table as watchdog_table
use Rattle.wdg_driver.specs.laws.Keeps.{keeps_watchdog}
use Rattle.port_driver.specs.Fits as pin_fits
use Rattle.module_machines.specs.port.Table as pin_table
use Rattle.port_driver.specs.laws.Keeps.{keeps_pins}
use Rattle.gpt_driver.specs.Fits as timer_fits
use Rattle.module_machines.specs.gpt.Table as timer_table
use Rattle.gpt_driver.specs.laws.Keeps.{keeps_timers}
use Rattle.pwm_driver.specs.Fits as pulse_fits
use Rattle.module_machines.specs.pwm.Table as pulse_table
use Rattle.pwm_driver.specs.laws.Keeps.{keeps_pulses}
use Rattle.icu_driver.specs.Fits as capture_fits
use Rattle.module_machines.specs.icu.Table as capture_table
use Rattle.icu_driver.specs.laws.Keeps.{keeps_captures}
use Rattle.adc_driver.specs.laws.words.ConfigurationFits as converter_fits
use Rattle.adc_driver.specs.laws.bookkeeping.Joined.{keeps_converters}
use Rattle.adc_machine.specs.Table as converter_table
use Rattle.spi_driver.specs.laws.words.ConfigurationFits as serial_fits
use Rattle.spi_driver.specs.laws.bookkeeping.KeepsToModule.{keeps_serial}
use Rattle.spi_machine.specs.Table as serial_table
use Rattle.mcal_drivers.specs.Drivers.{clock, watchdog, pins, timers, pulses, captures, converters, serial, host, drivers_of}
use Rattle.mcal_drivers.proofs.Sound.{sound_clock, sound_pins, sound_timers, sound_captures, wired_captures}
use Rattle.mcal_drivers.proofs.SoundConverters.{sound_converters}
use Rattle.mcal_drivers.proofs.SoundSerial.{sound_serial, wired_serial}

-- A driver of these modules that may run on these chips.
pub record IsReady {S C F : Type 0} (mine : ModuleName → Bool) (chip_of : ℕ → Chip) (d : Driver S C F) : Type 0 where
  pub fits : d.fits
  pub wired : (room : ℕ) → d.wired (chip_of room)
  pub keeps : KeepsTo mine d

-- no call polls lines
abbrev IsMute : {S C F : Type 0} → Driver S C F → Type 0
IsMute {S = S} {C = C} d = (w : World) (s : S) (c : C) → d.setting.machine.polls w s c ≡ []

-- of two, of which the first polls no lines and the second isn't the clock's
join : {S T C D F G : Type 0} (p q : ModuleName → Bool) (chip_of : ℕ → Chip) (d : Driver S C F) (e : Driver T D G) → are_disjoint p q ≡ true → q Mcu ≡ false → IsMute d → IsReady p chip_of d → IsReady q chip_of e → IsReady (all_of p q) chip_of (union_of d e)
join p q chip_of d e apart still mute one other = record {
  fits = (one.fits, other.fits, disjoint-apart p q d e apart still (λ w s c. subst (λ ls. list_all (has_handler d) ls ≡ true) (sym (mute w s c)) refl) one.keeps other.keeps);
  wired = λ room. (one.wired room, other.wired room);
  keeps = keeps-both p q d e one.keeps other.keeps;
}

module _ (c : Config) (v : IsValid c) (devices : ℕ) where
  abbrev power : (room : ℕ) → Chip
  power room = hung devices (power_on c room)

  abbrev Ready : {S C F : Type 0} → (ModuleName → Bool) → Driver S C F → Type 0
  Ready mine d = IsReady mine power d

  clock_ready : Ready (only Mcu) (clock c)
  clock_ready = record { fits = clock_fits.fits_of c.mcu (sound_clock c.mcu v.mcu); wired = λ room. tt; keeps = keeps_clock (clock_table.table_of c.mcu) }

  watchdog_ready : Ready (only Wdg) (watchdog c)
  watchdog_ready = record { fits = watchdog_fits.fits_of c.wdg; wired = λ room. tt; keeps = keeps_watchdog (watchdog_table.table_of c.wdg) }

  pins_ready : Ready (only Port) (pins c)
  pins_ready = record { fits = pin_fits.fits_of c.port (sound_pins c.port v.port); wired = λ room. tt; keeps = keeps_pins (pin_table.table_of c.port) }

  pub timers_ready : Ready (only Gpt) (timers c)
  timers_ready = record { fits = timer_fits.fits_of c.gpt (sound_timers c.gpt v.gpt); wired = λ room. tt; keeps = keeps_timers (timer_table.table_of c.gpt) }

  pulses_ready : Ready (only Pwm) (pulses c)
  pulses_ready = record { fits = pulse_fits.fits_of c.pwm; wired = λ room. tt; keeps = keeps_pulses (pulse_table.table_of c.pwm) }

  captures_ready : Ready (only Icu) (captures c)
  captures_ready = record { fits = capture_fits.fits_of c.icu (sound_captures c.icu v.icu); wired = λ room. wired_captures c.icu 0; keeps = keeps_captures (capture_table.table_of c.icu) }

  converters_ready : Ready (only Adc) (converters c)
  converters_ready =
      let fits = converter_fits.fits_of c.adc (sound_converters c.adc v.adc) in
      record { fits = fits; wired = λ room. tt; keeps = keeps_converters (converter_table.table_of c.adc) fits }

  serial_ready : Ready (only Spi) (serial c)
  serial_ready =
      let fits = serial_fits.fits_of c.spi (sound_serial c.spi v.spi) in
      record { fits = fits; wired = λ room. wired_serial c v.spi room devices; keeps = keeps_serial (serial_table.table_of c.spi) fits }

  -- one module after another
  timed_ready : Ready (all_of (only Port) (only Gpt)) (union_of (pins c) (timers c))
  timed_ready = join (only Port) (only Gpt) power (pins c) (timers c) refl refl (λ w s call. refl) pins_ready timers_ready

  pub watched_ready : Ready (all_of (only Mcu) (only Wdg)) (union_of (clock c) (watchdog c))
  watched_ready = join (only Mcu) (only Wdg) power (clock c) (watchdog c) refl refl (λ w s call. refl) clock_ready watchdog_ready

  mute_watched : IsMute (union_of (clock c) (watchdog c))
  mute_watched w s (Left call) = refl
  mute_watched w s (Right call) = refl

  firsts_ready : Ready (all_of (all_of (only Mcu) (only Wdg)) (all_of (only Port) (only Gpt))) (union_of (union_of (clock c) (watchdog c)) (union_of (pins c) (timers c)))
  firsts_ready = join (all_of (only Mcu) (only Wdg)) (all_of (only Port) (only Gpt)) power (union_of (clock c) (watchdog c)) (union_of (pins c) (timers c)) refl refl mute_watched watched_ready timed_ready

  captured_ready : Ready (all_of (only Pwm) (only Icu)) (union_of (pulses c) (captures c))
  captured_ready = join (only Pwm) (only Icu) power (pulses c) (captures c) refl refl (λ w s call. refl) pulses_ready captures_ready

  mute_captured : IsMute (union_of (pulses c) (captures c))
  mute_captured w s (Left call) = refl
  mute_captured w s (Right call) = refl

  lasts_ready : Ready (all_of (only Adc) (only Spi)) (union_of (converters c) (serial c))
  lasts_ready = join (only Adc) (only Spi) power (converters c) (serial c) refl refl (λ w s call. refl) converters_ready serial_ready

  pub seconds_ready : Ready (all_of (all_of (only Pwm) (only Icu)) (all_of (only Adc) (only Spi))) (union_of (union_of (pulses c) (captures c)) (union_of (converters c) (serial c)))
  seconds_ready = join (all_of (only Pwm) (only Icu)) (all_of (only Adc) (only Spi)) power (union_of (pulses c) (captures c)) (union_of (converters c) (serial c)) refl refl mute_captured captured_ready lasts_ready

  mute_firsts : IsMute (union_of (union_of (clock c) (watchdog c)) (union_of (pins c) (timers c)))
  mute_firsts w s (Left (Left call)) = refl
  mute_firsts w s (Left (Right call)) = refl
  mute_firsts w s (Right (Left call)) = refl
  mute_firsts w s (Right (Right call)) = refl

  pub host_ready : Ready (all_of (all_of (all_of (only Mcu) (only Wdg)) (all_of (only Port) (only Gpt))) (all_of (all_of (only Pwm) (only Icu)) (all_of (only Adc) (only Spi)))) (host (drivers_of c))
  host_ready = join (all_of (all_of (only Mcu) (only Wdg)) (all_of (only Port) (only Gpt))) (all_of (all_of (only Pwm) (only Icu)) (all_of (only Adc) (only Spi))) power (union_of (union_of (clock c) (watchdog c)) (union_of (pins c) (timers c))) (union_of (union_of (pulses c) (captures c)) (union_of (converters c) (serial c))) refl refl mute_firsts firsts_ready seconds_ready
