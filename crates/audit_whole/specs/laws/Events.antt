-- An event of a frame leaves each aspect of all modules that it doesn't touch.
use Rattle.std.proofs.Common.{◌≡◌, ℕ, false, List, Option, Some, refl}
use Rattle.adc_machine.specs.Bounds.{adc_setting}
use Rattle.adc_machine.specs.Turns.{AdcState}
use Rattle.adc_machine.specs.Words.{HoldsResults}
use Rattle.adc_machine.specs.declared.call.Call as converter_calls
use Rattle.adc_machine.specs.declared.call.Call.TheVariants as converting
use Rattle.adc_machine.specs.declared.call.GroupCall.TheVariants.{SetupResultBuffer, StartGroupConversion, StopGroupConversion, ReadGroup, EnableHardwareTrigger, DisableHardwareTrigger, Notification, GetGroupStatus, GetStreamLastPointer}
use Rattle.adc_machine.specs.declared.table.AdcTable.{AdcTable}
use Rattle.chip_model.specs.Chip.{Chip, word_of}
use Rattle.module_machines.specs.declared.dio.table.DioTable.{DioTable}
use Rattle.module_machines.specs.gpt.Bounds.{gpt_setting}
use Rattle.module_machines.specs.icu.Bounds.{icu_setting}
use Rattle.module_machines.specs.icu.Machine.{IcuState}
use Rattle.module_machines.specs.declared.icu.call.Call as capture_calls
use Rattle.module_machines.specs.declared.icu.call.Call.TheVariants as capturing
use Rattle.module_machines.specs.declared.icu.table.IcuTable.{IcuTable}
use Rattle.mcal_base.specs.declared.module_name.ModuleName.TheVariants.{Mcu, Port, Pwm, Icu, Adc, Spi}
use Rattle.mcal_base.specs.declared.moves.Event.{Event}
use Rattle.mcal_base.specs.declared.moves.Move.{Move}
use Rattle.mcal_base.specs.declared.moves.Unit.{Unit}
use Rattle.mcal_base.specs.declared.moves.Unit.TheVariants.{Adc0, Adc1, Spi0, Spi1}
use Rattle.module_machines.specs.mcu.Bounds.{RamAgrees, mcu_setting}
use Rattle.module_machines.specs.mcu.Machine.{McuState}
use Rattle.module_machines.specs.declared.mcu.call.Call as clock_calls
use Rattle.module_machines.specs.declared.mcu.call.Call.TheVariants as clocking
use Rattle.module_machines.specs.declared.mcu.table.McuTable.{McuTable}
use Rattle.mcal_base.specs.facts.Truths.{on_off}
use Rattle.module_machines.specs.port.Bounds.{port_setting}
use Rattle.module_machines.specs.port.Machine.{PortState}
use Rattle.module_machines.specs.declared.port.call.Call as pin_calls
use Rattle.module_machines.specs.declared.port.call.Call.TheVariants as pinning
use Rattle.module_machines.specs.declared.port.table.PortTable.{PortTable}
use Rattle.module_machines.specs.pwm.Bounds.{OutputsAgree, pwm_setting}
use Rattle.module_machines.specs.pwm.Machine.{PwmState}
use Rattle.module_machines.specs.declared.pwm.call.Call as pulse_calls
use Rattle.module_machines.specs.declared.pwm.call.Call.TheVariants as pulsing
use Rattle.module_machines.specs.declared.pwm.table.PwmTable.{PwmTable}
use Rattle.run_model.specs.Frame.{Open, state_after, state_by}
use Rattle.run_model.specs.Machine.{Aborts, Starts}
use Rattle.run_model.specs.Moment.{Setting}
use Rattle.run_model.specs.World.{World}
use Rattle.spi_machine.specs.Bounds.{HoldsArrays, spi_setting}
use Rattle.spi_machine.specs.State.{SpiState}
use Rattle.spi_machine.specs.declared.call.Call as serial_calls
use Rattle.spi_machine.specs.declared.call.Call.TheVariants as sending
use Rattle.spi_machine.specs.declared.table.SpiTable.{SpiTable}
use Rattle.module_machines.specs.wdg.Bounds.{wdg_setting}
use Rattle.audit_machines.specs.Guest.{host_pins}
use Rattle.audit_machines.specs.Hosting.{hosted_setting}
use Rattle.audit_machines.specs.System.{SystemState, Tables}
use Rattle.audit_modules.specs.Agrees.{PinsUnless, StampsIf}
use Rattle.audit_subject.specs.Product.{joined}
use Rattle.audit_whole.specs.Aspects.{agrees}
use Rattle.audit_whole.specs.Touching.{by_event, by_unit, is_touched}
use Rattle.audit_whole.specs.Whole.{AnyCall, host_setting}
use Rattle.audit_whole.specs.declared.aspects.Aspect.{Aspect}
use Rattle.audit_whole.specs.declared.aspects.Aspect.TheVariants.{Outputs, Pins, Ram, Stamps, Results, Arrays}
use Rattle.audit_whole.specs.declared.aspects.Touched.TheVariants.{One}
use Rattle.audit_whole.specs.laws.Untouched.{Keeps, keeps_first, keeps_hosted, keeps_second, kept_at, module_keeps}

-- ---- the module of each call

clock_is : (d : McuTable) (c : clock_calls.Call) → ((mcu_setting d).class_of c).«module» ≡ Mcu
clock_is d clocking.Init = refl
clock_is d (clocking.InitRamSection n) = refl
clock_is d (clocking.Clock call) = refl
clock_is d clocking.GetPllStatus = refl
clock_is d clocking.GetResetReason = refl
clock_is d clocking.PerformReset = refl
clock_is d (clocking.SetMode m) = refl

pins_are : (d : PortTable) (c : pin_calls.Call) → ((port_setting d).class_of c).«module» ≡ Port
pins_are d pinning.Init = refl
pins_are d pinning.RefreshPortDirection = refl
pins_are d (pinning.Pin p call) = refl

pulses_are : (d : PwmTable) (c : pulse_calls.Call) → ((pwm_setting d).class_of c).«module» ≡ Pwm
pulses_are d pulsing.Init = refl
pulses_are d pulsing.DeInit = refl
pulses_are d (pulsing.GetOutputState n) = refl
pulses_are d (pulsing.Channel n call) = refl

captures_are : (d : IcuTable) (c : capture_calls.Call) → ((icu_setting d).class_of c).«module» ≡ Icu
captures_are d capturing.Init = refl
captures_are d capturing.DeInit = refl
captures_are d (capturing.Channel n call) = refl

converters_are : (d : AdcTable) (c : converter_calls.Call) → ((adc_setting d).class_of c).«module» ≡ Adc
converters_are d converting.Init = refl
converters_are d converting.DeInit = refl
converters_are d (converting.Group g (SetupResultBuffer b)) = refl
converters_are d (converting.Group g StartGroupConversion) = refl
converters_are d (converting.Group g StopGroupConversion) = refl
converters_are d (converting.Group g ReadGroup) = refl
converters_are d (converting.Group g EnableHardwareTrigger) = refl
converters_are d (converting.Group g DisableHardwareTrigger) = refl
converters_are d (converting.Group g (Notification on)) = refl
converters_are d (converting.Group g GetGroupStatus) = refl
converters_are d (converting.Group g GetStreamLastPointer) = refl

serials_are : (d : SpiTable) (c : serial_calls.Call) → ((spi_setting d).class_of c).«module» ≡ Spi
serials_are d sending.Init = refl
serials_are d sending.DeInit = refl
serials_are d (sending.SetAsyncMode mode) = refl
serials_are d sending.MainFunctionHandling = refl
serials_are d (sending.Channel n call) = refl
serials_are d (sending.Sequence q call) = refl
serials_are d (sending.Get query) = refl

-- ---- units

converter_starts : (d : AdcTable) (F : AdcState → Type 0) (w : World) (s : AdcState) (u : Unit) (by : Option converter_calls.Call) (r : ℕ) → is_touched Results (One (by_unit u)) ≡ false → F s → F (state_by s ((adc_setting d).machine.happens w s (Starts u by r)))
converter_starts d F w s Adc0 by r e f = on_off e
converter_starts d F w s Adc1 by r e f = on_off e
converter_starts d F w s Spi0 by r e f = f
converter_starts d F w s Spi1 by r e f = f

converter_aborts : (d : AdcTable) (F : AdcState → Type 0) (w : World) (s : AdcState) (u : Unit) → is_touched Results (One (by_unit u)) ≡ false → F s → F (state_by s ((adc_setting d).machine.happens w s (Aborts u)))
converter_aborts d F w s Adc0 e f = on_off e
converter_aborts d F w s Adc1 e f = on_off e
converter_aborts d F w s Spi0 e f = f
converter_aborts d F w s Spi1 e f = f

serial_starts : (d : SpiTable) (F : SpiState → Type 0) (w : World) (s : SpiState) (u : Unit) (by : Option serial_calls.Call) (r : ℕ) → is_touched Arrays (One (by_unit u)) ≡ false → F s → F (state_by s ((spi_setting d).machine.happens w s (Starts u by r)))
serial_starts d F w s Adc0 by r e f = f
serial_starts d F w s Adc1 by r e f = f
serial_starts d F w s Spi0 by r e f = on_off e
serial_starts d F w s Spi1 by r e f = on_off e

-- ---- each aspect of the modules that have a state

module _ (t : Tables SpiTable) where
  ram_keeps : (F : McuState → Type 0) → Keeps Ram (host_setting t) (λ s. F s.0.0.0)
  ram_keeps F =
      let clock = joined (mcu_setting t.0.0.0) (wdg_setting t.0.0.1) in
      let pins = joined (port_setting t.0.1.0) (gpt_setting t.0.1.1) in
      let pulses = joined (pwm_setting t.1.0.0) (icu_setting t.1.0.1) in
      let converters = joined (adc_setting t.1.1.0) (spi_setting t.1.1.1) in
      keeps_first Ram (joined clock pins) (joined pulses converters) (λ s. F s.0.0) (keeps_first Ram clock pins (λ s. F s.0) (keeps_first Ram (mcu_setting t.0.0.0) (wdg_setting t.0.0.1) F
      (module_keeps Ram (mcu_setting t.0.0.0) F Mcu refl (clock_is t.0.0.0) (λ l. refl) (λ w s u by r e f. f) (λ w s u e f. f))))

  pins_keep : (F : PortState → Type 0) → Keeps Pins (host_setting t) (λ s. F s.0.1.0)
  pins_keep F =
      let clock = joined (mcu_setting t.0.0.0) (wdg_setting t.0.0.1) in
      let pins = joined (port_setting t.0.1.0) (gpt_setting t.0.1.1) in
      let pulses = joined (pwm_setting t.1.0.0) (icu_setting t.1.0.1) in
      let converters = joined (adc_setting t.1.1.0) (spi_setting t.1.1.1) in
      keeps_first Pins (joined clock pins) (joined pulses converters) (λ s. F s.1.0) (keeps_second Pins clock pins (λ s. F s.0) (keeps_first Pins (port_setting t.0.1.0) (gpt_setting t.0.1.1) F
      (module_keeps Pins (port_setting t.0.1.0) F Port refl (pins_are t.0.1.0) (λ l. refl) (λ w s u by r e f. f) (λ w s u e f. f))))

  outputs_keep : (F : PwmState → Type 0) → Keeps Outputs (host_setting t) (λ s. F s.1.0.0)
  outputs_keep F =
      let clock = joined (mcu_setting t.0.0.0) (wdg_setting t.0.0.1) in
      let pins = joined (port_setting t.0.1.0) (gpt_setting t.0.1.1) in
      let pulses = joined (pwm_setting t.1.0.0) (icu_setting t.1.0.1) in
      let converters = joined (adc_setting t.1.1.0) (spi_setting t.1.1.1) in
      keeps_second Outputs (joined clock pins) (joined pulses converters) (λ s. F s.0.0) (keeps_first Outputs pulses converters (λ s. F s.0) (keeps_first Outputs (pwm_setting t.1.0.0) (icu_setting t.1.0.1) F
      (module_keeps Outputs (pwm_setting t.1.0.0) F Pwm refl (pulses_are t.1.0.0) (λ l. refl) (λ w s u by r e f. f) (λ w s u e f. f))))

  stamps_keep : (F : IcuState → Type 0) → Keeps Stamps (host_setting t) (λ s. F s.1.0.1)
  stamps_keep F =
      let clock = joined (mcu_setting t.0.0.0) (wdg_setting t.0.0.1) in
      let pins = joined (port_setting t.0.1.0) (gpt_setting t.0.1.1) in
      let pulses = joined (pwm_setting t.1.0.0) (icu_setting t.1.0.1) in
      let converters = joined (adc_setting t.1.1.0) (spi_setting t.1.1.1) in
      keeps_second Stamps (joined clock pins) (joined pulses converters) (λ s. F s.0.1) (keeps_first Stamps pulses converters (λ s. F s.1) (keeps_second Stamps (pwm_setting t.1.0.0) (icu_setting t.1.0.1) F
      (module_keeps Stamps (icu_setting t.1.0.1) F Icu refl (captures_are t.1.0.1) (λ l. refl) (λ w s u by r e f. f) (λ w s u e f. f))))

  results_keep : (F : AdcState → Type 0) → Keeps Results (host_setting t) (λ s. F s.1.1.0)
  results_keep F =
      let clock = joined (mcu_setting t.0.0.0) (wdg_setting t.0.0.1) in
      let pins = joined (port_setting t.0.1.0) (gpt_setting t.0.1.1) in
      let pulses = joined (pwm_setting t.1.0.0) (icu_setting t.1.0.1) in
      let converters = joined (adc_setting t.1.1.0) (spi_setting t.1.1.1) in
      keeps_second Results (joined clock pins) (joined pulses converters) (λ s. F s.1.0) (keeps_second Results pulses converters (λ s. F s.0) (keeps_first Results (adc_setting t.1.1.0) (spi_setting t.1.1.1) F
      (module_keeps Results (adc_setting t.1.1.0) F Adc refl (converters_are t.1.1.0) (λ l. refl) (converter_starts t.1.1.0 F) (converter_aborts t.1.1.0 F))))

  arrays_keep : (F : SpiState → Type 0) → Keeps Arrays (host_setting t) (λ s. F s.1.1.1)
  arrays_keep F =
      let clock = joined (mcu_setting t.0.0.0) (wdg_setting t.0.0.1) in
      let pins = joined (port_setting t.0.1.0) (gpt_setting t.0.1.1) in
      let pulses = joined (pwm_setting t.1.0.0) (icu_setting t.1.0.1) in
      let converters = joined (adc_setting t.1.1.0) (spi_setting t.1.1.1) in
      keeps_second Arrays (joined clock pins) (joined pulses converters) (λ s. F s.1.1) (keeps_second Arrays pulses converters (λ s. F s.1) (keeps_second Arrays (adc_setting t.1.1.0) (spi_setting t.1.1.1) F
      (module_keeps Arrays (spi_setting t.1.1.1) F Spi refl (serials_are t.1.1.1) (λ l. refl) (serial_starts t.1.1.1 F) (λ w s u e f. f))))

-- ---- of all modules

-- the run of all modules
abbrev all_setting : Tables SpiTable × DioTable × List (Option ℕ) → Setting (SystemState SpiState) AnyCall
all_setting t = hosted_setting (host_setting t.0) (host_pins t.0.1.0.0 t.2) t.1

module _ (t : Tables SpiTable × DioTable × List (Option ℕ)) where
  -- channels and ports change nothing but pins
  with_ports : (a : Aspect) (F : SystemState SpiState → Type 0) → Keeps a (host_setting t.0) F
      → (is_touched a (One Pins) ≡ false → (q word : ℕ) (s : SystemState SpiState) → F s → F ((host_pins t.0.1.0.0 t.2).put q word s))
      → (is_touched a (One Pins) ≡ false → (p : ℕ) (s : SystemState SpiState) → F s → F ((host_pins t.0.1.0.0 t.2).flip p s))
      → (w : World) (s : SystemState SpiState) (o : Open AnyCall) (made : Move) (received : ℕ) (e : Event) → is_touched a (by_event (all_setting t) o.origin e) ≡ false → F s → F (state_after (all_setting t).machine w s o made received (Some e))
  with_ports a F k puts flips = kept_at a (all_setting t) F (keeps_hosted a (host_setting t.0) F (host_pins t.0.1.0.0 t.2) t.1 k puts flips)

pub kept_by_event : (a : Aspect) (t : Tables SpiTable × DioTable × List (Option ℕ)) (chip : Chip) (w : World) (s : SystemState SpiState) (o : Open AnyCall) (made : Move) (received : ℕ) (e : Event)
    → is_touched a (by_event (all_setting t) o.origin e) ≡ false → agrees a t.0 chip w s → agrees a t.0 chip w (state_after (all_setting t).machine w s o made received (Some e))
kept_by_event Outputs t chip w s o made received e off h =
    with_ports t Outputs (λ x. OutputsAgree t.0.1.0.0 chip.pulses w x.1.0.0) (outputs_keep t.0 (λ x. OutputsAgree t.0.1.0.0 chip.pulses w x)) (λ no q word x f. f) (λ no p x f. f) w s o made received e off h
kept_by_event Pins t chip w s o made received e off h =
    with_ports t Pins (λ x. PinsUnless false chip.pins x.0.1.0) (pins_keep t.0 (λ x. PinsUnless false chip.pins x)) (λ no q word x f. on_off no) (λ no p x f. on_off no) w s o made received e off h
kept_by_event Ram t chip w s o made received e off h =
    with_ports t Ram (λ x. RamAgrees chip.ram x.0.0.0) (ram_keeps t.0 (λ x. RamAgrees chip.ram x)) (λ no q word x f. f) (λ no p x f. f) w s o made received e off h
kept_by_event Stamps t chip w s o made received e off h =
    with_ports t Stamps (λ x. (c : ℕ) → StampsIf t.0.1.0.1 chip x.1.0.1 c) (stamps_keep t.0 (λ x. (c : ℕ) → StampsIf t.0.1.0.1 chip x c)) (λ no q word x f. f) (λ no p x f. f) w s o made received e off h
kept_by_event Results t chip w s o made received e off h =
    with_ports t Results (λ x. (g : ℕ) → HoldsResults (word_of chip) t.0.1.1.0 x.1.1.0 g) (results_keep t.0 (λ x. (g : ℕ) → HoldsResults (word_of chip) t.0.1.1.0 x g)) (λ no q word x f. f) (λ no p x f. f) w s o made received e off h
kept_by_event Arrays t chip w s o made received e off h =
    with_ports t Arrays (λ x. (c : ℕ) → HoldsArrays (word_of chip) t.0.1.1.1 x.1.1.1 c) (arrays_keep t.0 (λ x. (c : ℕ) → HoldsArrays (word_of chip) t.0.1.1.1 x c)) (λ no q word x f. f) (λ no p x f. f) w s o made received e off h
