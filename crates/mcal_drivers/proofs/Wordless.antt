-- Of all modules the serial driver alone begins words, and the wire of its machine grows by them.
use Rattle.std.proofs.Common.{◌≡◌, ℕ, ◌-◌, Bool, true, false, List, [], ◌∷◌, ◌++◌, Option, Some, None, is_some, refl, sym, ◌∙◌, ap}
use Rattle.std.specs.Prelude.{if◌then◌else◌}
use Rattle.std.proofs.lemmas.List.{append-nil}
use Rattle.mcal_base.specs.facts.Options.{some_is}
use Rattle.chip_model.specs.Wiring.{wiring_of}
use Rattle.mcal_base.specs.declared.config.whole.Config.{Config}
use Rattle.mcal_base.specs.declared.error_name.ErrorName.{ErrorName}
use Rattle.run_model.specs.Machine.{Acts, Serves, Starts, Aborts, Moves, Restarts, Begun, Outcome, outcome, tells_nothing}
use Rattle.run_model.specs.World.{World}
use Rattle.module_machines.specs.mcu.Machine as clock
use Rattle.module_machines.specs.mcu.Table as clock_table
use Rattle.module_machines.specs.declared.mcu.call.Call as clock_calls
use Rattle.module_machines.specs.declared.mcu.call.Call.TheVariants as clock_call
use Rattle.module_machines.specs.declared.mcu.call.ClockCall.TheVariants.{InitClock, DistributePllClock}
use Rattle.module_machines.specs.declared.mcu.table.McuTable.{McuTable}
use Rattle.module_machines.specs.wdg.Machine as watchdogs
use Rattle.module_machines.specs.wdg.Table as watchdog_table
use Rattle.module_machines.specs.declared.wdg.call.Call as watchdog_calls
use Rattle.module_machines.specs.declared.wdg.call.Call.TheVariants as watchdog_call
use Rattle.module_machines.specs.declared.wdg.table.WdgTable.{WdgTable}
use Rattle.mcal_base.specs.declared.config.wdg.WdgMode.{WdgMode}
use Rattle.module_machines.specs.port.Machine as pins
use Rattle.module_machines.specs.port.Table as pin_table
use Rattle.module_machines.specs.declared.port.call.Call as pin_calls
use Rattle.module_machines.specs.declared.port.table.PortTable.{PortTable}
use Rattle.module_machines.specs.dio.Machine.{does_by}
use Rattle.module_machines.specs.dio.Table as port_table
use Rattle.module_machines.specs.declared.dio.table.PortPins.{PortPins}
use Rattle.module_machines.specs.declared.dio.call.Call as port_calls
use Rattle.module_machines.specs.declared.dio.call.Call.TheVariants as port_call
use Rattle.module_machines.specs.gpt.Machine as timers
use Rattle.module_machines.specs.declared.gpt.call.Call as timer_calls
use Rattle.module_machines.specs.declared.gpt.call.Call.TheVariants as timer_call
use Rattle.module_machines.specs.declared.gpt.call.ChannelCall.TheVariants as asks
use Rattle.module_machines.specs.declared.gpt.call.GptMode.TheVariants as modes
use Rattle.module_machines.specs.declared.gpt.call.Change.{Change}
use Rattle.module_machines.specs.declared.gpt.table.Channel as timer_channels
use Rattle.module_machines.specs.declared.gpt.table.GptTable.{GptTable}
use Rattle.module_machines.specs.gpt.Table as timer_table
use Rattle.module_machines.specs.pwm.Machine as pulses
use Rattle.module_machines.specs.pwm.Table as pulse_table
use Rattle.module_machines.specs.declared.pwm.call.Call as pulse_calls
use Rattle.module_machines.specs.declared.pwm.call.Call.TheVariants as pulse_call
use Rattle.module_machines.specs.declared.pwm.table.PwmTable.{PwmTable}
use Rattle.module_machines.specs.icu.Edges.{Edge}
use Rattle.module_machines.specs.icu.Machine as captures
use Rattle.module_machines.specs.icu.Table as capture_table
use Rattle.module_machines.specs.declared.icu.call.Call as capture_calls
use Rattle.module_machines.specs.declared.icu.call.Call.TheVariants as capture_call
use Rattle.module_machines.specs.declared.icu.call.ChannelCall as capture_asks
use Rattle.module_machines.specs.declared.icu.table.Channel as capture_channels
use Rattle.module_machines.specs.declared.icu.table.IcuTable.{IcuTable}
use Rattle.adc_machine.specs.Groups.{Round, Status, Idle, Busy, Completed, StreamCompleted}
use Rattle.adc_machine.specs.Machine as converters
use Rattle.adc_machine.specs.Table as converter_table
use Rattle.adc_machine.specs.Triggers as triggers
use Rattle.adc_machine.specs.Turns as turns
use Rattle.adc_machine.specs.declared.call.Call as converter_calls
use Rattle.adc_machine.specs.declared.call.Call.TheVariants as converter_call
use Rattle.adc_machine.specs.declared.call.GroupCall.{GroupCall}
use Rattle.adc_machine.specs.declared.call.GroupCall.TheVariants as group_asks
use Rattle.adc_machine.specs.declared.table.AdcTable.{AdcTable}
use Rattle.spi_machine.proofs.Begins.{happens-begins, happens-wire}
use Rattle.spi_machine.proofs.Runs.{serve_by}
use Rattle.spi_machine.specs.Machine.{spi_machine}
use Rattle.spi_machine.specs.Promised.{shown_on}
use Rattle.spi_machine.specs.Table as serial_table
use Rattle.spi_machine.specs.State.{SpiState, first_state, wire_at}
use Rattle.spi_machine.specs.declared.table.SpiTable.{SpiTable}
use Rattle.mcal_drivers.specs.Setting.{clock_setting, watchdog_setting, pin_setting, timer_setting, pulse_setting, capture_setting, converter_setting, serial_setting, joined, host_pins, host_setting, port_guest, system_setting, SystemState}
use Rattle.mcal_drivers.specs.Shows as shows
use Rattle.mcal_drivers.proofs.Growing.{IsWordless, wordless_both, IsWired, Stays, wired_guest, wired_second}

none_of : {S : Type 0} (x out : Outcome S) → x.begins ≡ None → Some x ≡ Some out → out.begins ≡ None
none_of x out none e = ap (λ y. y.begins) (sym (some_is x out e)) ∙ none

none_if : {S : Type 0} (q : Bool) (x out : Outcome S) → x.begins ≡ None → (if q then Some x else None) ≡ Some out → out.begins ≡ None
none_if q x out none e = ap (λ y. y.begins) (sym (serve_by q x out e)) ∙ none

-- ---- clock and pins

clock_work : (d : McuTable) (w : World) (s : clock.McuState) (call : clock_calls.Call) → (clock.work d w s call).begins ≡ None
clock_work d w s clock_call.Init = refl
clock_work d w s (clock_call.InitRamSection n) = refl
clock_work d w s (clock_call.Clock (InitClock n)) = refl
clock_work d w s (clock_call.Clock DistributePllClock) = refl
clock_work d w s clock_call.GetPllStatus = refl
clock_work d w s clock_call.GetResetReason = refl
clock_work d w s clock_call.PerformReset = refl
clock_work d w s (clock_call.SetMode m) = refl

clock_acts : (d : McuTable) (w : World) (s : clock.McuState) (call : clock_calls.Call) (e : Option ErrorName) → (clock.acts_by d w s call e).begins ≡ None
clock_acts d w s call None = clock_work d w s call
clock_acts d w s call (Some e) = refl

clock_wordless : (d : McuTable) → IsWordless (clock.mcu_machine d)
clock_wordless d w s (Acts call times) out e = none_of (clock.acts d w s call) out (clock_acts d w s call _) e
clock_wordless d w s (Serves l received) out e = absurd (cc e)
clock_wordless d w s (Starts u made_by received) out e = absurd (cc e)
clock_wordless d w s (Aborts u) out e = absurd (cc e)
clock_wordless d w s (Moves order) out e = none_of (outcome s tells_nothing) out refl e
clock_wordless d w s (Restarts reason) out e = none_of (outcome (clock.after_reset reason) tells_nothing) out refl e

watchdog_set : (w : World) (s : watchdogs.WdgState) (m : WdgMode) (allowed : Bool) → (watchdogs.set_mode w s m allowed).begins ≡ None
watchdog_set w s m true = refl
watchdog_set w s m false = refl

watchdog_timed : (w : World) (s : watchdogs.WdgState) (n : ℕ) (m : Option WdgMode) → (watchdogs.set_timeout w s n m).begins ≡ None
watchdog_timed w s n None = refl
watchdog_timed w s n (Some m) = refl

watchdog_work : (d : WdgTable) (w : World) (s : watchdogs.WdgState) (call : watchdog_calls.Call) → (watchdogs.work d w s call).begins ≡ None
watchdog_work d w s watchdog_call.Init = refl
watchdog_work d w s (watchdog_call.SetMode None) = refl
watchdog_work d w s (watchdog_call.SetMode (Some m)) = watchdog_set w s m (watchdog_table.allows d m)
watchdog_work d w s (watchdog_call.SetTriggerCondition n) = watchdog_timed w s n s.mode

watchdog_acts : (d : WdgTable) (w : World) (s : watchdogs.WdgState) (call : watchdog_calls.Call) (e : Option ErrorName) → (watchdogs.acts_by d w s call e).begins ≡ None
watchdog_acts d w s call None = watchdog_work d w s call
watchdog_acts d w s call (Some e) = refl

watchdog_wordless : (d : WdgTable) → IsWordless (watchdogs.wdg_machine d)
watchdog_wordless d w s (Acts call times) out e = none_of (watchdogs.acts d w s call) out (watchdog_acts d w s call _) e
watchdog_wordless d w s (Serves l received) out e = absurd (cc e)
watchdog_wordless d w s (Starts u made_by received) out e = absurd (cc e)
watchdog_wordless d w s (Aborts u) out e = absurd (cc e)
watchdog_wordless d w s (Moves order) out e = none_of (outcome s tells_nothing) out refl e
watchdog_wordless d w s (Restarts reason) out e = none_of (outcome watchdogs.first_state tells_nothing) out refl e

pin_acts : (d : PortTable) (s : pins.PortState) (call : pin_calls.Call) (e : Option ErrorName) → (pins.acts_by d s call e).begins ≡ None
pin_acts d s call None = refl
pin_acts d s call (Some e) = refl

pins_wordless : (d : PortTable) → IsWordless (pins.port_machine d)
pins_wordless d w s (Acts call times) out e = none_of (pins.acts d s call) out (pin_acts d s call _) e
pins_wordless d w s (Serves l received) out e = absurd (cc e)
pins_wordless d w s (Starts u made_by received) out e = absurd (cc e)
pins_wordless d w s (Aborts u) out e = absurd (cc e)
pins_wordless d w s (Moves order) out e = none_of (outcome s tells_nothing) out refl e
pins_wordless d w s (Restarts reason) out e = none_of (outcome pins.first_state tells_nothing) out refl e

-- ---- timers

timer_switches : (k : Option timer_channels.Channel) (s : timers.GptState) (c : ℕ) (by : Change) → (timers.switches k s c by).begins ≡ None
timer_switches None s c by = refl
timer_switches (Some k) s c by = refl

timer_work : (d : GptTable) (w : World) (s : timers.GptState) (call : timer_calls.Call) → (timers.work d w s call).begins ≡ None
timer_work d w s timer_call.Init = refl
timer_work d w s timer_call.DeInit = refl
timer_work d w s (timer_call.SetMode None) = refl
timer_work d w s (timer_call.SetMode (Some modes.Normal)) = refl
timer_work d w s (timer_call.SetMode (Some modes.Sleep)) = refl
timer_work d w s (timer_call.Channel c asks.GetTimeElapsed) = refl
timer_work d w s (timer_call.Channel c asks.GetTimeRemaining) = refl
timer_work d w s (timer_call.Channel c (asks.StartTimer v)) = refl
timer_work d w s (timer_call.Channel c asks.StopTimer) = refl
timer_work d w s (timer_call.Channel c (asks.Change by)) = timer_switches (timer_table.channel_of d c) s c by

timer_acts : (d : GptTable) (w : World) (s : timers.GptState) (call : timer_calls.Call) (e : Option ErrorName) → (timers.acts_by d w s call e).begins ≡ None
timer_acts d w s call None = timer_work d w s call
timer_acts d w s call (Some e) = refl

timer_served : (w : World) (s : timers.GptState) (c : ℕ) (wakes notifies : Bool) → (timers.served_by w s c wakes notifies).begins ≡ None
timer_served w s c true notifies = refl
timer_served w s c false notifies = refl

timers_wordless : (d : GptTable) → IsWordless (timers.gpt_machine d)
timers_wordless d w s (Acts call times) out e = none_of (timers.acts d w s call) out (timer_acts d w s call _) e
timers_wordless d w s (Serves c received) out e = none_if (timers.ready d w s c) (timers.served w s c) out (timer_served w s c _ _) e
timers_wordless d w s (Starts u made_by received) out e = absurd (cc e)
timers_wordless d w s (Aborts u) out e = absurd (cc e)
timers_wordless d w s (Moves order) out e = none_of (outcome s tells_nothing) out refl e
timers_wordless d w s (Restarts reason) out e = none_of (outcome timers.first_state tells_nothing) out refl e

-- ---- pulse outputs

pulse_work : (d : PwmTable) (w : World) (s : pulses.PwmState) (call : pulse_calls.Call) (committed : ℕ → ℕ) → (pulses.work d w s call committed).begins ≡ None
pulse_work d w s pulse_call.Init committed = refl
pulse_work d w s pulse_call.DeInit committed = refl
pulse_work d w s (pulse_call.GetOutputState c) committed = refl
pulse_work d w s (pulse_call.Channel c call) committed = refl

pulse_acts : (d : PwmTable) (w : World) (s : pulses.PwmState) (call : pulse_calls.Call) (committed : ℕ → ℕ) (e : Option ErrorName) → (pulses.acts_by d w s call committed e).begins ≡ None
pulse_acts d w s call committed None = pulse_work d w s call committed
pulse_acts d w s call committed (Some e) = refl

pulses_wordless : (d : PwmTable) → IsWordless (pulses.pwm_machine d)
pulses_wordless d w s (Acts call committed) out e = none_of (pulses.acts d w s call committed) out (pulse_acts d w s call committed _) e
pulses_wordless d w s (Serves l received) out e = none_if (pulses.ready d w s l) (pulses.served w s (pulse_table.channel_number l)) out refl e
pulses_wordless d w s (Starts u made_by received) out e = absurd (cc e)
pulses_wordless d w s (Aborts u) out e = absurd (cc e)
pulses_wordless d w s (Moves order) out e = none_of (outcome s tells_nothing) out refl e
pulses_wordless d w s (Restarts reason) out e = none_of (outcome pulses.first_state tells_nothing) out refl e

-- ---- capture inputs

capture_asked : (k : Option capture_channels.Channel) (s : captures.IcuState) (c : ℕ) (call : capture_asks.ChannelCall) → (captures.asked k s c call).begins ≡ None
capture_asked None s c call = refl
capture_asked (Some k) s c call = refl

capture_work : (d : IcuTable) (s : captures.IcuState) (call : capture_calls.Call) → (captures.work d s call).begins ≡ None
capture_work d s capture_call.Init = refl
capture_work d s capture_call.DeInit = refl
capture_work d s (capture_call.Channel c call) = capture_asked (capture_table.channel_of d c) s c call

capture_acts : (d : IcuTable) (s : captures.IcuState) (call : capture_calls.Call) (e : Option ErrorName) → (captures.acts_by d s call e).begins ≡ None
capture_acts d s call None = capture_work d s call
capture_acts d s call (Some e) = refl

capture_served : (k : Option capture_channels.Channel) (s : captures.IcuState) (c : ℕ) (es : List Edge) → (captures.served_edge k s c es).begins ≡ None
capture_served (Some k) s c (e ∷ es) = refl
capture_served (Some k) s c [] = refl
capture_served None s c es = refl

captures_wordless : (d : IcuTable) → IsWordless (captures.icu_machine d)
captures_wordless d w s (Acts call committed) out e = none_of (captures.acts d s call) out (capture_acts d s call _) e
captures_wordless d w s (Serves l received) out e = none_if (captures.ready d w s l) (captures.served d s (capture_table.channel_number l)) out (capture_served _ s _ _) e
captures_wordless d w s (Starts u made_by received) out e = absurd (cc e)
captures_wordless d w s (Aborts u) out e = absurd (cc e)
captures_wordless d w s (Moves order) out e = none_of (outcome (captures.moved d w s order) tells_nothing) out refl e
captures_wordless d w s (Restarts reason) out e = none_of (outcome captures.first_state tells_nothing) out refl e

-- ---- converters

converter_reads : (d : AdcTable) (s : turns.AdcState) (g : ℕ) (x : Status) → (converters.reads d s g x).begins ≡ None
converter_reads d s g Idle = refl
converter_reads d s g Busy = refl
converter_reads d s g Completed = refl
converter_reads d s g StreamCompleted = refl

converter_points : (d : AdcTable) (s : turns.AdcState) (g : ℕ) (x : Status) → (converters.points d s g x).begins ≡ None
converter_points d s g Idle = refl
converter_points d s g Busy = refl
converter_points d s g Completed = refl
converter_points d s g StreamCompleted = refl

converter_asked : (d : AdcTable) (s : turns.AdcState) (g : ℕ) (call : GroupCall) → (converters.group_work d s g call).begins ≡ None
converter_asked d s g (group_asks.SetupResultBuffer b) = refl
converter_asked d s g group_asks.StartGroupConversion = refl
converter_asked d s g group_asks.StopGroupConversion = refl
converter_asked d s g group_asks.ReadGroup = converter_reads d s g _
converter_asked d s g group_asks.EnableHardwareTrigger = refl
converter_asked d s g group_asks.DisableHardwareTrigger = refl
converter_asked d s g (group_asks.Notification on) = refl
converter_asked d s g group_asks.GetGroupStatus = refl
converter_asked d s g group_asks.GetStreamLastPointer = converter_points d s g _

converter_work : (d : AdcTable) (s : turns.AdcState) (call : converter_calls.Call) → (converters.work d s call).begins ≡ None
converter_work d s converter_call.Init = refl
converter_work d s converter_call.DeInit = refl
converter_work d s (converter_call.Group g call) = converter_asked d s g call

converter_acts : (d : AdcTable) (s : turns.AdcState) (call : converter_calls.Call) (e : Option ErrorName) → (converters.acts_by d s call e).begins ≡ None
converter_acts d s call None = converter_work d s call
converter_acts d s call (Some e) = refl

converter_round : (d : AdcTable) (w : World) (s : turns.AdcState) (u : ℕ) (r : Option Round) → (converters.served_round d w s u r).begins ≡ None
converter_round d w s u None = refl
converter_round d w s u (Some r) = refl

converter_served : (d : AdcTable) (w : World) (s : turns.AdcState) (l : ℕ) → (converters.served d w s l).begins ≡ None
converter_served d w s l = by (converters.is_unit_line l)
  where
    by : (q : Bool) → (if q then converters.served_round d w s (l - 24) (turns.round_at s (l - 24)) else outcome (triggers.served_trigger d s (l - 28)) tells_nothing).begins ≡ None
    by true = converter_round d w s (l - 24) (turns.round_at s (l - 24))
    by false = refl

converter_starts : (d : AdcTable) (w : World) (s : turns.AdcState) (u : Option ℕ) (out : Outcome turns.AdcState) → converters.starts_on d w s u ≡ Some out → out.begins ≡ None
converter_starts d w s None out e = absurd (cc e)
converter_starts d w s (Some u) out e = by (turns.starts d s u) e
  where
    by : (g : Option ℕ) → converters.starting w s u g ≡ Some out → out.begins ≡ None
    by None f = absurd (cc f)
    by (Some g) f = none_of (outcome (turns.started w s u g) tells_nothing) out refl f

converter_aborts : (d : AdcTable) (w : World) (s : turns.AdcState) (u : Option ℕ) (out : Outcome turns.AdcState) → converters.aborts_on d w s u ≡ Some out → out.begins ≡ None
converter_aborts d w s None out e = absurd (cc e)
converter_aborts d w s (Some u) out e = by (turns.aborts d w s u) e
  where
    by : (r : Option Round) → converters.aborting d w s u r ≡ Some out → out.begins ≡ None
    by None f = absurd (cc f)
    by (Some r) f = none_of (outcome (turns.aborted d w s u r) tells_nothing) out refl f

converters_wordless : (d : AdcTable) → IsWordless (converters.adc_machine d)
converters_wordless d w s (Acts call times) out e = none_of (converters.acts d s call) out (converter_acts d s call _) e
converters_wordless d w s (Serves l received) out e = none_if (converters.ready d w s l) (converters.served d w s l) out (converter_served d w s l) e
converters_wordless d w s (Starts u made_by received) out e = converter_starts d w s (turns.number_of u) out e
converters_wordless d w s (Aborts u) out e = converter_aborts d w s (turns.number_of u) out e
converters_wordless d w s (Moves order) out e = none_of (outcome (converters.moved d s order) tells_nothing) out refl e
converters_wordless d w s (Restarts reason) out e = none_of (outcome turns.first_state tells_nothing) out refl e

-- ---- the serial driver

none_by : (o : Option Begun) → is_some o ≡ false → o ≡ None
none_by None e = refl
none_by (Some b) e = absurd (cc e)

still : (s out : SpiState) (u received : ℕ) (b : Option Begun) → b ≡ None → wire_at out u ≡ wire_at s u ++ shown_on u received b → (b ≡ None) × (wire_at out u ≡ wire_at s u)
still s out u received b none e = (none, e ∙ ap (λ o. wire_at s u ++ shown_on u received o) none ∙ append-nil (wire_at s u))

serial_wired : (d : SpiTable) (u : ℕ) → IsWired (λ s. wire_at s u) u (spi_machine d)
serial_wired d u w s (Acts call times) out e = still s out.state u 0 out.begins (none_by out.begins (happens-begins d w s (Acts call times) out e)) (happens-wire d w s (Acts call times) out u e refl)
serial_wired d u w s (Serves l received) out e = happens-wire d w s (Serves l received) out u e refl
serial_wired d u w s (Starts k made_by received) out e = happens-wire d w s (Starts k made_by received) out u e refl
serial_wired d u w s (Aborts k) out e = absurd (cc e)
serial_wired d u w s (Moves order) out e = still s out.state u 0 out.begins (none_by out.begins (happens-begins d w s (Moves order) out e)) (happens-wire d w s (Moves order) out u e refl)
serial_wired d u w s (Restarts reason) out e = ap (λ (y : Outcome SpiState). wire_at y.state u) (sym (some_is (outcome first_state tells_nothing) out e))

-- ---- channels and ports

-- what their calls do begins no word, and leaves the words that are on the wires
port_by : (p : PwmTable) (outputs : List (Option ℕ)) (u : ℕ) (w : World) (s : SystemState) (call : port_calls.Call) (pins : Option PortPins) → Stays (λ (x : SystemState). shows.wire_at x u) s (does_by (host_pins p outputs) w s call pins)
port_by p outputs u w s call None = (refl, refl)
port_by p outputs u w s (port_call.ReadChannel n) (Some pins) = (refl, refl)
port_by p outputs u w s (port_call.WriteChannel n high) (Some pins) = (refl, refl)
port_by p outputs u w s (port_call.FlipChannel n) (Some pins) = (refl, refl)
port_by p outputs u w s (port_call.ReadPort n) (Some pins) = (refl, refl)
port_by p outputs u w s (port_call.WritePort n value) (Some pins) = (refl, refl)
port_by p outputs u w s (port_call.ReadChannelGroup n) (Some pins) = (refl, refl)
port_by p outputs u w s (port_call.WriteChannelGroup n value) (Some pins) = (refl, refl)

-- ---- all modules

pub system_wired : (c : Config) (u : ℕ) → IsWired (λ s. shows.wire_at s u) u (system_setting c).machine
unfolding system_setting
system_wired c u =
    let timed = joined (pin_setting c) (timer_setting c) in
    let captured = joined (pulse_setting c) (capture_setting c) in
    let watched = joined (clock_setting c) (watchdog_setting c) in
    let firsts = joined watched timed in
    let lasts = joined (converter_setting c) (serial_setting c) in
    let seconds = joined captured lasts in
    let timed_wordless = wordless_both (pin_setting c).used (pin_setting c).machine (timer_setting c).machine (pins_wordless (pin_table.table_of c.port)) (timers_wordless (timer_table.table_of c.gpt)) in
    let watched_wordless = wordless_both (clock_setting c).used (clock_setting c).machine (watchdog_setting c).machine (clock_wordless (clock_table.table_of c.mcu)) (watchdog_wordless (watchdog_table.table_of c.wdg)) in
    let firsts_wordless = wordless_both watched.used watched.machine timed.machine watched_wordless timed_wordless in
    let captured_wordless = wordless_both (pulse_setting c).used (pulse_setting c).machine (capture_setting c).machine (pulses_wordless (pulse_table.table_of c.pwm)) (captures_wordless (capture_table.table_of c.icu)) in
    let lasts_wired = wired_second (converter_setting c).used (converter_setting c).machine (serial_setting c).machine (λ s. wire_at s u) u (converters_wordless (converter_table.table_of c.adc)) (serial_wired (serial_table.table_of c.spi) u) in
    let seconds_wired = wired_second captured.used captured.machine lasts.machine (λ s. wire_at s.1 u) u captured_wordless lasts_wired in
    let hosts_wired = wired_second firsts.used firsts.machine seconds.machine (λ s. wire_at s.1.1 u) u firsts_wordless seconds_wired in
    let d = port_table.table_of c.port c.dio in
    wired_guest (host_setting c).machine (port_guest c) (λ (s : SystemState). shows.wire_at s u) u (λ w s call. port_by (pulse_table.table_of c.pwm) (wiring_of c).outputs u w s call (port_table.pins_of d call)) hosts_wired
