-- A configuration that was read is sound for each module's driver.
use Rattle.std.proofs.Common.{◌≡◌, ℕ, ◌+◌, ◌<◌, ◌≤◌, nat_lt, Bool, true, false, ◌&&◌, ◌==◌, List, [], ◌∷◌, length, take, Some, None, refl, sym, ◌∙◌, ap, arith}
use Rattle.std.specs.Prelude.{All, Option, IsSome, is_some, if◌then◌else◌, slice_get, slice_index_or}
use Rattle.std.specs.List.{list_any}
use Rattle.std.proofs.lemmas.Bool.Decides.{nat_tests}
use Rattle.std.proofs.lemmas.List.{get_or-take, length-take-le}
use Rattle.std.proofs.lemmas.List.Folds.{list_any_at}
use Rattle.std.proofs.lemmas.Option.{slice_get_within, get_or_from_slice_get}
use Rattle.std.proofs.lemmas.Bool.{not-false}
use Rattle.config_facts.specs.Rules.{overlaps, same_mode}
use Rattle.chip_blocks.specs.captures.Captures.{pin_in, pins_in, captures_fresh}
use Rattle.config_facts.specs.Valid.{IsMcu, IsPort, IsGpt, IsInput, IsIcu}
use Rattle.mcal_base.specs.declared.config.mcu.McuConfig.{McuConfig}
use Rattle.mcal_base.specs.declared.config.mcu.McuRamSection.{McuRamSection}
use Rattle.mcal_base.specs.declared.config.port.PortConfig.{PortConfig}
use Rattle.mcal_base.specs.declared.config.port.PortPinMode.{PortPinMode}
use Rattle.mcal_base.specs.declared.config.port.PortPinMode.TheVariants.{Adc, Dio, Icu, Pwm, Spi}
use Rattle.mcal_base.specs.declared.config.gpt.GptConfig.{GptConfig}
use Rattle.mcal_base.specs.declared.config.icu.IcuChannel.{IcuChannel}
use Rattle.mcal_base.specs.declared.config.icu.IcuConfig.{IcuConfig}
use Rattle.mcal_base.specs.declared.config.icu.IcuMeasurementMode.{IcuMeasurementMode}
use Rattle.mcal_base.specs.declared.config.icu.IcuMeasurementMode.TheVariants.{SignalEdgeDetect, EdgeCounter, Timestamp, SignalMeasurement}
use Rattle.mcu_driver.specs.Fits as clock_fits
use Rattle.port_driver.specs.Fits as pin_fits
use Rattle.module_machines.specs.port.Table.{is_same, lists}
use Rattle.gpt_driver.specs.Fits as timer_fits
use Rattle.icu_driver.specs.Fits as capture_fits
use Rattle.icu_driver.specs.Refinement.{WiredAs, pin_by}
use Rattle.module_machines.specs.icu.Table as capture_table
use Rattle.module_machines.specs.icu.laws.Channels.{by_eight}

-- ---- the clock

-- an element before a place that no earlier one goes with
none_before : {T : Type 0} (test : T → Bool) (xs : List T) (i j : ℕ) (x : T) → i < j → j ≤ length xs → slice_get xs i ≡ Some x → list_any test (take j xs) ≡ false → test x ≡ false
none_before test xs i j x lt le e none = by (test x) refl
  where
    by : (q : Bool) → test x ≡ q → q ≡ false
    by true is =
        let size : length (take j xs) ≡ j = length-take-le j xs le in
        let same = get_or-take j xs i x lt ∙ get_or_from_slice_get xs i x x e in
        let some = list_any_at test (take j xs) i x (omega (arith, size, lt)) (ap test same ∙ is) in
        cc
    by false is = refl

apart : (g : McuConfig) → IsMcu g → clock_fits.AreApart g.ram_sections
apart g h i j x y lt e f =
    let within = slice_get_within g.ram_sections j y f in
    let at = get_or_from_slice_get g.ram_sections j y y f in
    let none = ap (λ z. overlaps (take j g.ram_sections) z) (sym at) ∙ h.rules.apart j y within in
    none_before (λ (a : McuRamSection). nat_lt a.base_address (y.base_address + y.size) && nat_lt y.base_address (a.base_address + a.size)) g.ram_sections i j x lt (omega (arith, within)) e none

pub sound_clock : (g : McuConfig) → IsMcu g → clock_fits.IsSound g
sound_clock g h = record {
  settings = λ k d lt. let v = (h.tables.clock_settings.each k d lt).multiplier in record { positive = omega (arith, v.least); most = v.most };
  sections = λ k d lt.
      let v = h.tables.ram_sections.each k d lt in
      let ends = h.rules.ends k d lt in
      record { inside = grind (arith, nat_tests); few = v.size.most; small = omega (arith, v.default_value.most) };
  apart = apart g h;
}

-- ---- the pins

same : (x y : PortPinMode) → same_mode x y ≡ is_same x y
same Adc Adc = refl
same Adc Dio = refl
same Adc Icu = refl
same Adc Pwm = refl
same Adc Spi = refl
same Dio Adc = refl
same Dio Dio = refl
same Dio Icu = refl
same Dio Pwm = refl
same Dio Spi = refl
same Icu Adc = refl
same Icu Dio = refl
same Icu Icu = refl
same Icu Pwm = refl
same Icu Spi = refl
same Pwm Adc = refl
same Pwm Dio = refl
same Pwm Icu = refl
same Pwm Pwm = refl
same Pwm Spi = refl
same Spi Adc = refl
same Spi Dio = refl
same Spi Icu = refl
same Spi Pwm = refl
same Spi Spi = refl

listed : (ms : List PortPinMode) (m : PortPinMode) → list_any (λ (x : PortPinMode). same_mode x m) ms ≡ lists ms m
listed [] m = refl
listed (x ∷ ms) m = rw (same x m, listed ms m) refl

pub sound_pins : (g : PortConfig) → IsPort g → All pin_fits.IsSoundPin g.pins
sound_pins g h = λ k d lt.
    let x = slice_index_or g.pins k d in
    sym (listed x.modes x.initial_mode) ∙ not-false (list_any (λ (m : PortPinMode). same_mode m x.initial_mode) x.modes) (h.rules.initial k d lt)

-- ---- the timers

pub sound_timers : (g : GptConfig) → IsGpt g → All timer_fits.IsSound g.channels
sound_timers g h = λ k d lt.
    let v = h.channels.each k d lt in
    record { prescaler = omega (arith, v.prescaler.least); small = omega (arith, v.tick_value_max.most) }

-- ---- the captures

measurement : (m : IcuMeasurementMode) → capture_table.is_measurement m ≡ true → m ≡ SignalMeasurement
measurement SignalEdgeDetect e = cc
measurement EdgeCounter e = cc
measurement Timestamp e = cc
measurement SignalMeasurement e = refl

some : {T : Type 0} (o : Option T) → IsSome o → is_some o ≡ true
some o i = i

sound_input : (x : IcuChannel) → IsInput x → capture_fits.IsSound x
sound_input x v = record {
  pin = let most = v.pin.most in omega (arith, most);
  property = λ e. some x.signal_measurement_property (v.measured (measurement x.measurement_mode e));
}

pub sound_captures : (g : IcuConfig) → IsIcu g → All capture_fits.IsSound g.channels
sound_captures g h = λ k d lt. sound_input (slice_index_or g.channels k d) (h.channels.each k d lt)

-- the pin of a channel is the configured one
pin_found : (xs : List IcuChannel) (i : ℕ) → pin_in xs i ≡ pin_by (capture_table.channel_in xs i)
pin_found [] i = refl
pin_found (x ∷ xs) i = by (x.id == i) (pin_found xs i)
  where
    by : (q : Bool) → pin_in xs i ≡ pin_by (capture_table.channel_in xs i) → (if q then Some x.pin else pin_in xs i) ≡ pin_by (if q then Some (capture_table.taken x i) else capture_table.channel_in xs i)
    by true more = refl
    by false more = more

-- each channel is wired to its pin
pub wired_captures : (g : IcuConfig) (time : ℕ) → WiredAs (capture_table.table_of g) (captures_fresh (pins_in g.channels) time)
wired_captures g time = by_eight (λ c. slice_index_or (pins_in g.channels) c None ≡ pin_by (capture_table.channel_of (capture_table.table_of g) c)) (pin_found g.channels 0) (pin_found g.channels 1) (pin_found g.channels 2) (pin_found g.channels 3) (pin_found g.channels 4) (pin_found g.channels 5) (pin_found g.channels 6) (pin_found g.channels 7)
