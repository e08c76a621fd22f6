-- The drivers of all modules that have a state have the driver of channels and ports as their guest.
use Rattle.std.proofs.Common.{◌≡◌, ℕ, ◌<◌, Bool, true, false, ◌||◌, List, [], ◌∷◌, refl, sym, ◌∙◌, ap, subst, arith}
use Rattle.std.specs.List.{list_any}
use Rattle.std.specs.Prelude.{All}
use Rattle.mcal_base.specs.facts.Numbers.{eq_is}
use Rattle.chip_model.specs.Chip.{Chip, flipped, outside_at, pin_of}
use Rattle.chip_model.specs.Wiring.{wiring_of}
use Rattle.config_facts.specs.Valid.{IsValid, IsDio}
use Rattle.mcal_base.specs.declared.config.whole.Config.{Config}
use Rattle.mcal_base.specs.declared.config.dio.DioConfig.{DioConfig}
use Rattle.mcal_base.specs.declared.config.port.PortConfig.{PortConfig}
use Rattle.mcal_base.specs.declared.module_name.ModuleName.{ModuleName}
use Rattle.mcal_base.specs.declared.module_name.ModuleName.TheVariants.{Mcu, Port, Gpt, Pwm, Icu, Adc, Spi, Dio, Wdg}
use Rattle.mcal_base.specs.declared.moves.Move.{Move}
use Rattle.mcal_base.specs.declared.moves.Move.TheVariants.{Read, Write, Load}
use Rattle.mcal_base.specs.declared.register.Reg.TheVariants.{PortLevels, PortPut, PinFlip}
use Rattle.run_model.specs.Frame.{Origin, Called, Entered}
use Rattle.run_model.specs.World.{World}
use Rattle.service_outline.specs.laws.Lawful.{services_lawful}
use Rattle.service_outline.specs.laws.ShortServices.{short_lawful}
use Rattle.step_runner.specs.Driver.{Driver}
use Rattle.step_runner.specs.Union.{first_origins, second_origins, has_handler, union_of}
use Rattle.step_runner.specs.Whose.{only, all_of, is_of, module_of_word, KeepsTo, NamesOthers}
use Rattle.service_outline.specs.guests.Guest.{keeps_off, IsPlaced, LetsIn, Hosts}
use Rattle.service_outline.specs.guests.LetsLaws.{OwnsNone, lets-first, lets-second, lets-fewer, lets-same, off-first, off-second}
use Rattle.module_machines.specs.mcu.Table as clock_table
use Rattle.mcu_driver.specs.laws.Lawful as clock_laws
use Rattle.mcu_driver.specs.laws.Lawful.{mcu}
use Rattle.module_machines.specs.wdg.Table as watchdog_table
use Rattle.wdg_driver.specs.laws.Lawful as watchdog_laws
use Rattle.wdg_driver.specs.laws.Lawful.{wdg}
use Rattle.module_machines.specs.port.Bounds.{is_alone, port_setting, PinsAgree}
use Rattle.module_machines.specs.port.Machine.{Inverted, with_change}
use Rattle.module_machines.specs.port.Table as pin_table
use Rattle.module_machines.specs.declared.port.call.Call as pin_calls
use Rattle.module_machines.specs.declared.port.call.Call.TheVariants as pin_call
use Rattle.module_machines.specs.declared.port.table.PortTable.{PortTable}
use Rattle.port_driver.specs.laws.Guests.{flip_agrees, guest_state, lets_in, pins_let}
use Rattle.dio_driver.specs.Fits as port_fits
use Rattle.dio_driver.specs.Guest.{dio_may, state_after, SeesPins}
use Rattle.module_machines.specs.dio.Table.{FitsDio}
use Rattle.module_machines.specs.dio.Table as port_table
use Rattle.dio_driver.specs.declared.frame.TheConstants.{NOWHERE}
use Rattle.module_machines.specs.gpt.Table as timer_table
use Rattle.gpt_driver.specs.laws.Lawful as timer_laws
use Rattle.gpt_driver.specs.laws.Lawful.{gpt}
use Rattle.module_machines.specs.pwm.Bounds.{OutputsAgree}
use Rattle.module_machines.specs.pwm.Table as pulse_table
use Rattle.pwm_driver.specs.laws.Lawful as pulse_laws
use Rattle.module_machines.specs.icu.Table as capture_table
use Rattle.icu_driver.specs.laws.Lawful as capture_laws
use Rattle.icu_driver.specs.laws.Lawful.{icu}
use Rattle.adc_driver.specs.laws.bookkeeping.Joined.{joined_lawful as converters_lawful}
use Rattle.adc_machine.specs.Table as converter_table
use Rattle.spi_driver.specs.laws.bookkeeping.Joined.{joined_lawful}
use Rattle.spi_machine.specs.Table as serial_table
use Rattle.mcal_drivers.specs.Drivers.{clock, watchdog, pins, timers, pulses, captures, converters, serial, host, drivers_of}
use Rattle.mcal_drivers.specs.Laws.{both}
use Rattle.mcal_drivers.specs.Setting.{SystemState, HostCall, host_pins, ports_of, with_pins}
use Rattle.mcal_drivers.proofs.Joining.{watched_ready, timers_ready, seconds_ready}
use Rattle.mcal_drivers.proofs.Levels.{level_is, same_level}

-- ---- whose the guest's moves are

-- they name registers of the pins' block, and one word
others_of : (mine : ModuleName → Bool) → mine Port ≡ false → mine Dio ≡ false → (made : Move) → dio_may made ≡ true → NamesOthers mine made
others_of mine port dio (Read (PortLevels q)) e = port
others_of mine port dio (Read (PinFlip p)) e = port
others_of mine port dio (Write (PortPut q) word) e = port
others_of mine port dio (Load k) e = subst (λ n. is_of mine (module_of_word n) ≡ false) (sym (eq_is k NOWHERE e)) dio
others_of mine port dio _ e = absurd (cc)

-- so a driver of other modules owns none of them
free_of : {S C F : Type 0} (mine : ModuleName → Bool) (d : Driver S C F) → KeepsTo mine d → mine Port ≡ false → mine Dio ≡ false → OwnsNone d dio_may
free_of mine d keeps port dio = λ made may origin. keeps.owns origin made (others_of mine port dio made may)

-- and the pins' lets them in
let_in : (made : Move) → dio_may made ≡ true → lets_in made ≡ true
let_in (Read (PortLevels q)) e = refl
let_in (Read (PinFlip p)) e = refl
let_in (Write (PortPut q) word) e = refl
let_in (Load k) e = subst (λ n. lets_in (Load n) ≡ true) (sym (eq_is k NOWHERE e)) refl
let_in _ e = absurd (cc)

-- ---- what keeps it off

-- a frame of a call about all pins, and no other
alone_by : (d : PortTable) (c : pin_calls.Call) → keeps_off (port_setting d) Port (Called c) ≡ is_alone (Called c)
alone_by d pin_call.Init = refl
alone_by d pin_call.RefreshPortDirection = refl
alone_by d (pin_call.Pin p call) = refl

alone : (d : PortTable) (os : List (Origin pin_calls.Call)) → list_any (keeps_off (port_setting d) Port) os ≡ list_any is_alone os
alone d [] = refl
alone d (Called c ∷ os) = ap (λ b. b || list_any (keeps_off (port_setting d) Port) os) (alone_by d c) ∙ ap (λ b. is_alone (Called c) || b) (alone d os)
alone d (Entered l ∷ os) = alone d os

-- ---- the configuration

sound_groups : (x : PortConfig) (g : DioConfig) → IsDio x g → All port_fits.IsSoundGroup g.groups
sound_groups x g v = λ k d lt. let few = (v.tables.groups.each k d lt).port.most in omega (arith, few)

module _ (c : Config) (v : IsValid c) (devices : ℕ) where
  pub ports_fit : FitsDio (port_table.table_of c.port c.dio)
  ports_fit = port_fits.fits_of c.port c.dio (sound_groups c.port c.dio v.dio)

  -- ---- the guest is let in

  timed_lets : LetsIn (union_of (pins c) (timers c)) Port dio_may (λ made s. (guest_state made s.0, s.1))
  timed_lets =
      let ready = timers_ready c v devices in
      lets-first (pins c) (timers c) Port dio_may guest_state (short_lawful (gpt (timer_table.table_of c.gpt)) (timer_laws.lawful (timer_table.table_of c.gpt) ready.fits)) (free_of (only Gpt) (timers c) ready.keeps refl refl)
      (lets-fewer (pins c) Port lets_in guest_state (pins_let (pin_table.table_of c.port)) dio_may let_in)

  firsts_let : LetsIn (union_of (union_of (clock c) (watchdog c)) (union_of (pins c) (timers c))) Port dio_may (λ made s. (s.0, (guest_state made s.1.0, s.1.1)))
  firsts_let =
      let ready = watched_ready c v devices in
      let fits = ready.fits in
      let law = both (services_lawful (mcu (clock_table.table_of c.mcu)) (clock_laws.lawful (clock_table.table_of c.mcu) fits.0)) (short_lawful (wdg (watchdog_table.table_of c.wdg)) (watchdog_laws.lawful (watchdog_table.table_of c.wdg) fits.1)) fits.2 in
      lets-second (union_of (clock c) (watchdog c)) (union_of (pins c) (timers c)) Port dio_may (λ made s. (guest_state made s.0, s.1)) law (free_of (all_of (only Mcu) (only Wdg)) (union_of (clock c) (watchdog c)) ready.keeps refl refl) timed_lets

  host_let : LetsIn (host (drivers_of c)) Port dio_may (λ made s. ((s.0.0, (guest_state made s.0.1.0, s.0.1.1)), s.1))
  host_let =
      let ready = seconds_ready c v devices in
      let fits = ready.fits in
      let captured = both (pulse_laws.lawful (pulse_table.table_of c.pwm) fits.0.0) (short_lawful (icu (capture_table.table_of c.icu)) (capture_laws.lawful (capture_table.table_of c.icu) fits.0.1)) fits.0.2 in
      let lasts = both (converters_lawful (converter_table.table_of c.adc) fits.1.0) (joined_lawful (serial_table.table_of c.spi) fits.1.1) fits.1.2 in
      lets-first (union_of (union_of (clock c) (watchdog c)) (union_of (pins c) (timers c))) (union_of (union_of (pulses c) (captures c)) (union_of (converters c) (serial c))) Port dio_may (λ made s. (s.0, (guest_state made s.1.0, s.1.1))) (both captured lasts fits.2)
      (free_of (all_of (all_of (only Pwm) (only Icu)) (all_of (only Adc) (only Spi))) (union_of (union_of (pulses c) (captures c)) (union_of (converters c) (serial c))) ready.keeps refl refl) firsts_let

  same_state : (made : Move) (s : SystemState) → state_after (host_pins (pulse_table.table_of c.pwm) (wiring_of c).outputs) made s ≡ ((s.0.0, (guest_state made s.0.1.0, s.0.1.1)), s.1)
  same_state (Write (PortPut q) word) s = refl
  same_state (Read (PinFlip p)) s = refl
  same_state _ s = refl

  -- ---- what it sees

  module _ (chip : Chip) (w : World) (s : SystemState) (stand : PinsAgree chip.pins s.0.1.0) (agree : OutputsAgree (pulse_table.table_of c.pwm) chip.pulses w s.1.0.0) (wired : chip.wiring.outputs ≡ (wiring_of c).outputs) (p : ℕ) (lt : p < 64) where
    abbrev level : World → SystemState → ℕ → Bool
    level = (host_pins (pulse_table.table_of c.pwm) (wiring_of c).outputs).level

    seen_level : outside_at chip p ≡ w.levels p → pin_of chip p ≡ level w s p
    seen_level outside = level_is c v.pwm chip w s agree wired p lt stand outside ∙ sym (same_level c v.pwm w s p)

  sees : (chip : Chip) (w : World) (s : SystemState) (origins : List (Origin HostCall)) → list_any (keeps_off (host (drivers_of c)).setting Port) origins ≡ false → IsPlaced (ports_of (port_table.table_of c.port c.dio) (pulse_table.table_of c.pwm) (wiring_of c).outputs) chip w → (host (drivers_of c)).setting.unmasked chip w s origins → SeesPins (host_pins (pulse_table.table_of c.pwm) (wiring_of c).outputs) chip w s
  sees chip w s origins off placed shown =
      let watched = union_of (clock c) (watchdog c) in
      let timed = union_of (pins c) (timers c) in
      let firsts = union_of (union_of (clock c) (watchdog c)) (union_of (pins c) (timers c)) in
      let seconds = union_of (union_of (pulses c) (captures c)) (union_of (converters c) (serial c)) in
      let in_firsts = first_origins (has_handler firsts) origins in
      let in_timed = second_origins (has_handler watched) in_firsts in
      let in_pins = first_origins (has_handler (pins c)) in_timed in
      let none = off-first (has_handler (pins c)) (pins c).setting (timers c).setting Port in_timed (off-second (has_handler watched) watched.setting timed.setting Port in_firsts (off-first (has_handler firsts) firsts.setting seconds.setting Port origins off)) in
      let stand = shown.0.1.0 (sym (alone (pin_table.table_of c.port) in_pins) ∙ none) in
      record {
        levels = λ p lt. seen_level chip w s stand.0 shown.1.0.0 placed.1 p lt (placed.0.levels p lt);
        flips = λ p lt. seen_level (flipped chip p) w (with_pins s (with_change s.0.1.0 (Inverted p))) (flip_agrees chip.pins s.0.1.0 p stand.1 stand.0) shown.1.0.0 placed.1 p lt (placed.0.levels p lt);
      }

  pub ports_hosted : Hosts (host (drivers_of c)) (ports_of (port_table.table_of c.port c.dio) (pulse_table.table_of c.pwm) (wiring_of c).outputs)
  ports_hosted = record {
    lets = lets-same (host (drivers_of c)) Port dio_may (λ made s. ((s.0.0, (guest_state made s.0.1.0, s.0.1.1)), s.1)) host_let (state_after (host_pins (pulse_table.table_of c.pwm) (wiring_of c).outputs)) same_state;
    shows = sees;
  }
