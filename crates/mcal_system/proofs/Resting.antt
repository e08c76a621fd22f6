-- What the parts of a run at rest say of the modules' machines.
use Rattle.std.proofs.Common.{◌≡◌, ℕ, ◌+◌, ◌<◌, ◌≤◌, Bool, true, List, [], Option, Some, None, refl, sym, ◌∙◌, ap, subst, arith}
use Rattle.std.specs.Prelude.{slice_index}
use Rattle.std.specs.Option.{IfSome, option_map}
use Rattle.chip_model.specs.Chip.{Chip, pin_of, word_of}
use Rattle.mcal_base.specs.Layout.{length_of, place_of}
use Rattle.mcal_base.specs.declared.config.whole.Config.{Config}
use Rattle.mcal_base.specs.declared.directive.Directive.{Directive}
use Rattle.mcal_base.specs.declared.layout.Array.{Array}
use Rattle.mcal_base.specs.declared.layout.Array.TheVariants.{Round, Stamps, Source}
use Rattle.run_model.specs.Entry.{Entry}
use Rattle.run_model.specs.Moment.{Moment}
use Rattle.run_model.specs.World.{World}
use Rattle.script_runner.specs.Scripts.{words_given}
use Rattle.service_outline.specs.Services.{services_driver}
use Rattle.service_outline.specs.ShortServices as short
use Rattle.step_runner.specs.Union.{union_of}
use Rattle.gpt_driver.specs.laws.Lawful.{gpt}
use Rattle.mcu_driver.specs.laws.Lawful.{mcu}
use Rattle.wdg_driver.specs.laws.Lawful.{wdg}
use Rattle.port_driver.specs.laws.Lawful.{port}
use Rattle.pwm_driver.specs.laws.Lawful.{pwm}
use Rattle.module_machines.specs.icu.Shown.{size_of}
use Rattle.icu_driver.specs.Refinement.{settled, IcuRepresents}
use Rattle.module_machines.specs.icu.Machine.{IcuState}
use Rattle.module_machines.specs.declared.icu.table.IcuTable.{IcuTable}
use Rattle.icu_driver.specs.laws.Lawful.{icu}
use Rattle.adc_driver.specs.declared.driver.AdcDriver.{AdcDriver}
use Rattle.adc_driver.specs.laws.words.ConfigurationFits as converter_fits
use Rattle.adc_driver.specs.laws.bookkeeping.Joined.{joined as converters_of}
use Rattle.adc_groups.specs.Refinement.{AdcRepresents, FitsAdc}
use Rattle.adc_machine.specs.Machine.{chosen_buffer}
use Rattle.adc_machine.specs.Table as converter_table
use Rattle.adc_machine.specs.Turns.{AdcState}
use Rattle.adc_machine.specs.Words.{buffer_number, place_count}
use Rattle.adc_machine.specs.declared.call.ResultBuffer.{ResultBuffer}
use Rattle.spi_driver.specs.declared.driver.SpiDriver.{SpiDriver}
use Rattle.spi_driver.specs.laws.words.ConfigurationFits as serial_fits
use Rattle.spi_driver.specs.laws.bookkeeping.Joined.{joined as serial_of}
use Rattle.word_shapes.specs.declared.jobs.channel.Channel.{Channel}
use Rattle.spi_machine.specs.Fits.{FitsSpi}
use Rattle.spi_machine.specs.State.{SpiState, internal_word}
use Rattle.spi_machine.specs.Table.{channel_of, is_internal_channel, length_by}
use Rattle.spi_sequences.specs.Refinement.{SpiRepresents}
use Rattle.mcal_drivers.specs.Drivers.{as_one, drivers_of, host}
use Rattle.mcal_drivers.specs.Setting.{SystemState, SystemCall, ports_of}
use Rattle.mcal_drivers.specs.Shows.{internal_at, level_at, ram_at, results_at, serial_channel, size_at, user_at, wire_at}
use Rattle.mcal_drivers.specs.declared.drivers.Drivers.{Drivers}
use Rattle.mcal_drivers.proofs.Levels.{pin_level, ram_word, user_word}
use Rattle.mcal_drivers.proofs.Resting.{first_of, host_of, last_of, middle_of, second_of}
use Rattle.mcal_drivers.proofs.SoundConverters.{results_few, sound_converters}
use Rattle.mcal_drivers.proofs.SoundSerial.{array_length, channel_words, sound_serial}
use Rattle.mcal_drivers.proofs.Stamps.{size_few}
use Rattle.mcal_system.specs.Runs.{RestingRun, moment_after, moment_at}
use Rattle.shown_rows.specs.Places.{HasWords}
use Rattle.mcal_system.specs.Wires.{exchanges_of}
use Rattle.shown_rows.specs.Wires.{pairs}
use Rattle.mcal_system.specs.laws.Resting.{IsResting}
use Rattle.mcal_system.proofs.WireTold.{words_told}

-- where no frame is under way the drivers that have a state agree with their machines
host_related : (u : Drivers) (chip : Chip) (w : World) (s : SystemState) → (as_one u).relates chip w [] s → (host u).relates chip w [] s
unfolding as_one
host_related u chip w s h = host_of (host u) (ports_of u.ports u.pulses u.outputs) chip w s h

-- so the capture driver does
captures_related : (u : Drivers) (chip : Chip) (w : World) (s : SystemState) → (as_one u).relates chip w [] s → IcuRepresents u.captures settled chip w s.1.0.1
captures_related u chip w s h = middle_of (union_of (union_of (services_driver (mcu u.clock)) (short.driver_of (wdg u.watchdog))) (union_of (services_driver (port u.pins)) (short.driver_of (gpt u.timers)))) (services_driver (pwm u.pulses)) (short.driver_of (icu u.captures)) (union_of (services_driver (converters_of u.converters.table)) (services_driver (serial_of u.serial.table))) chip w s (host_related u chip w s h)

-- and so do the converter driver and the serial driver
lasts_related : (u : Drivers) (chip : Chip) (w : World) (s : SystemState) → (as_one u).relates chip w [] s → (union_of (services_driver (converters_of u.converters.table)) (services_driver (serial_of u.serial.table))).relates chip w [] s.1.1
lasts_related u chip w s h = last_of (union_of (union_of (services_driver (mcu u.clock)) (short.driver_of (wdg u.watchdog))) (union_of (services_driver (port u.pins)) (short.driver_of (gpt u.timers)))) (union_of (services_driver (pwm u.pulses)) (short.driver_of (icu u.captures))) (union_of (services_driver (converters_of u.converters.table)) (services_driver (serial_of u.serial.table))) chip w s (host_related u chip w s h)

converters_related : (u : Drivers) (chip : Chip) (w : World) (s : SystemState) → (as_one u).relates chip w [] s → AdcRepresents u.converters.table [] None chip w s.1.1.0
converters_related u chip w s h = first_of (services_driver (converters_of u.converters.table)) (services_driver (serial_of u.serial.table)) chip w s.1.1 (lasts_related u chip w s h)

serial_related : (u : Drivers) (chip : Chip) (w : World) (s : SystemState) → (as_one u).relates chip w [] s → SpiRepresents u.serial.table [] chip w s.1.1.1
serial_related u chip w s h = second_of (services_driver (converters_of u.converters.table)) (services_driver (serial_of u.serial.table)) chip w s.1.1 (lasts_related u chip w s h)

-- what the capture driver says of the places of a channel's stamps
abbrev pub ToldSize : IcuTable → Chip → (channel : ℕ) → Option ℕ → Type 0
ToldSize d chip n result = (w : World) (s : IcuState) → n < 8 → IcuRepresents d settled chip w s → result ≡ size_of s n

-- what the converter driver says of the buffer that was chosen for a group
abbrev pub ToldChosen : AdcDriver → Chip → (group : ℕ) → Option ResultBuffer → Type 0
ToldChosen d chip g result = (w : World) (s : AdcState) → FitsAdc d.table → AdcRepresents d.table [] None chip w s → result ≡ chosen_buffer s g

-- what the serial driver says of a word of an internal channel
abbrev pub ToldInternal : SpiDriver → Chip → (channel : ℕ) → (received : Bool) → (index result : ℕ) → Type 0
ToldInternal d chip c received i result = (w : World) (s : SpiState) (k : Channel) → FitsSpi d.table → channel_of d.table c ≡ Some k → k.internal ≡ true → i < k.length → SpiRepresents d.table [] chip w s → result ≡ internal_word s c received i

-- the place before the next is there
below : (i n : ℕ) → i + 1 ≤ n → i < n
below i n h = omega (arith, h)

-- a run at rest of these parts
abbrev pub run_at : (devices : ℕ) → Config → List Directive → List Entry → RestingRun
run_at devices c script es = record { config = c; script = script; devices = devices; entries = es }

module _ {c : Config} {script : List Directive} {devices : ℕ} {es : List Entry} {chip : Chip} (rests : IsResting c script devices es chip) {r : RestingRun} (is : run_at devices c script es ≡ r) where
  abbrev there : Moment SystemState SystemCall
  there = moment_after devices c script es

  -- what is so of the parts is so of the run
  so : (P : RestingRun → Type 0) → P (run_at devices c script es) → P r
  so P h = subst P is h

  pub pin_there : (p : ℕ) → p < 64 → pin_of chip p ≡ level_at r.config (moment_at r).world (moment_at r).state p
  pin_there p lt = so (λ x. pin_of chip p ≡ level_at x.config (moment_at x).world (moment_at x).state p) (pin_level c devices (words_given script) chip there rests.rests p lt rests.valid.pwm)

  pub ram_there : (k : ℕ) → k + 1 ≤ 512 → slice_index chip.ram k ≡ ram_at (moment_at r).state k
  ram_there k more = so (λ x. slice_index chip.ram k ≡ ram_at (moment_at x).state k) (ram_word c devices (words_given script) chip there rests.rests k (below k 512 more))

  -- the configuration has a place that the run has
  pub has_place : (a : Array) (i : ℕ) → i + 1 ≤ length_of r.config a → i < length_of c a
  has_place a i more = below i (length_of c a) (subst (λ (x : RestingRun). i + 1 ≤ length_of x.config a) (sym is) more)

  pub user_there : (a : Array) (i : ℕ) → i + 1 ≤ length_of r.config a → word_of chip (place_of a i) ≡ user_at (moment_at r).state a i
  user_there a i more = so (λ x. word_of chip (place_of a i) ≡ user_at (moment_at x).state a i) (user_word c devices (words_given script) chip there rests.rests a i rests.valid.adc rests.valid.icu rests.valid.spi (has_place a i more))

  captures_agree : IcuRepresents (drivers_of c).captures settled chip there.world there.state.1.0.1
  captures_agree = captures_related (drivers_of c) chip there.world there.state rests.relates

  pub size_there : (d : IcuTable) → d ≡ (drivers_of c).captures → (n : ℕ) → n < 8 → (result : Option ℕ) → ToldSize d chip n result → result ≡ size_at (moment_at r).state n
  size_there d made n lt result told = so (λ x. result ≡ size_at (moment_at x).state n) (subst (λ k. ToldSize k chip n result) made told there.world there.state.1.0.1 lt captures_agree)

  pub size_fits : (n : ℕ) → n < 8 → IfSome (size_at (moment_at r).state n) (λ k. k ≤ length_of r.config (Stamps n))
  size_fits n lt = so (λ x. IfSome (size_at (moment_at x).state n) (λ k. k ≤ length_of x.config (Stamps n))) (size_few (drivers_of c).captures chip there.world there.state.1.0.1 captures_agree n lt c refl)

  pub results_there : (d : AdcDriver) → d ≡ (drivers_of c).converters → (g : ℕ) (chosen : Option ResultBuffer) → ToldChosen d chip g chosen → option_map (λ b. (buffer_number b, place_count d.table g)) chosen ≡ results_at r.config (moment_at r).state g
  results_there d made g chosen told =
      let own = subst (λ k. ToldChosen k chip g chosen) made told there.world there.state.1.1.0 (converter_fits.fits_of c.adc (sound_converters c.adc rests.valid.adc)) (converters_related (drivers_of c) chip there.world there.state rests.relates) in
      ap (λ (k : AdcDriver). option_map (λ b. (buffer_number b, place_count k.table g)) chosen) made
      ∙ so (λ x. option_map (λ b. (buffer_number b, place_count (converter_table.table_of c.adc) g)) chosen ≡ results_at x.config (moment_at x).state g) (ap (λ o. option_map (λ b. (buffer_number b, place_count (converter_table.table_of c.adc) g)) o) own)

  pub results_fit : (g : ℕ) → IfSome (results_at r.config (moment_at r).state g) (λ found. found.1 ≤ length_of r.config (Round g found.0))
  results_fit g = so (λ x. IfSome (results_at x.config (moment_at x).state g) (λ found. found.1 ≤ length_of x.config (Round g found.0))) (results_few c rests.valid.adc there.state g)

  pub channel_there : (d : SpiDriver) → d ≡ (drivers_of c).serial → (n : ℕ) → channel_of d.table n ≡ serial_channel r.config n
  channel_there d made n = ap (λ (k : SpiDriver). channel_of k.table n) made ∙ so (λ x. serial_channel c n ≡ serial_channel x.config n) refl

  pub channel_fits : (n : ℕ) → IfSome (serial_channel r.config n) (λ k. k.length ≡ length_of r.config (Source n))
  channel_fits n = so (λ x. IfSome (serial_channel x.config n) (λ k. k.length ≡ length_of x.config (Source n))) (channel_words c.spi rests.valid.spi n (serial_channel c n) refl)

  -- a word of an internal channel
  pub internal_there : (d : SpiDriver) → d ≡ (drivers_of c).serial → (n i : ℕ) (received : Bool) → HasWords r.config n (i + 1) → (result : ℕ) → ToldInternal d chip n received i result → result ≡ internal_at (moment_at r).state n received i
  internal_there d made n i received has result told = so (λ x. result ≡ internal_at (moment_at x).state n received i) (by (serial_channel c n) refl (own_words.1))
    where
      own_words : HasWords c n (i + 1)
      own_words = subst (λ (x : RestingRun). HasWords x.config n (i + 1)) (sym is) has

      some : (k : Channel) → is_internal_channel (Some k) ≡ true → k.internal ≡ true
      some k f = f

      none : is_internal_channel None ≡ true → result ≡ internal_word there.state.1.1.1 n received i
      none g = absurd (cc)

      by : (o : Option Channel) → serial_channel c n ≡ o → is_internal_channel o ≡ true → result ≡ internal_word there.state.1.1.1 n received i
      by None f g = none g
      by (Some k) f g =
          subst (λ x. ToldInternal x chip n received i result) made told there.world there.state.1.1.1 k
          (serial_fits.fits_of c.spi (sound_serial c.spi rests.valid.spi))
          f
          (some k g)
          (subst (λ m. i < m) (array_length c.spi rests.valid.spi n ∙ ap length_by f) (below i (length_of c (Source n)) own_words.0))
          (serial_related (drivers_of c) chip there.world there.state rests.relates)

  -- the words that the journal tells of a wire
  pub wire_there : (unit : ℕ) → unit < 2 → pairs (exchanges_of unit es) ≡ wire_at (moment_at r).state unit
  wire_there unit lt = so (λ x. pairs (exchanges_of unit es) ≡ wire_at (moment_at x).state unit) (words_told c unit lt devices script es rests.legal)
