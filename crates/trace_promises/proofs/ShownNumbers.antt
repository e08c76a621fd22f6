-- The rows that the shows of a run print have numbers of 32 bits.
use Rattle.std.proofs.Common.{ℕ, zero, suc, ◌+◌, ◌<◌, ◌≤◌, Bool, true, false, List, [], ◌∷◌, ◌++◌, length, map, Option, Some, None, arith}
use Rattle.std.specs.Prelude.{flat_map, option_map}
use Rattle.std.specs.List.{range_with_len}
use Rattle.mcal_base.specs.declared.config.mcu.McuRamSection.{McuRamSection}
use Rattle.mcal_base.specs.declared.config.whole.Config.{Config}
use Rattle.mcal_base.specs.declared.directive.Directive.{Directive}
use Rattle.mcal_base.specs.declared.directive.Shown.{Shown}
use Rattle.mcal_base.specs.declared.directive.Shown.TheVariants.{Pins, Ram, Buffers, Wire}
use Rattle.run_model.specs.Entry.{Entry}
use Rattle.run_model.specs.Moment.{Setting, start_moment}
use Rattle.run_model.specs.World.{World}
use Rattle.script_runner.specs.Scripts.{chip_for}
use Rattle.module_machines.specs.mcu.Table as clock_table
use Rattle.module_machines.specs.pwm.Table as pulse_table
use Rattle.module_machines.specs.icu.Table as capture_table
use Rattle.adc_machine.specs.Machine.{chosen_buffer}
use Rattle.adc_machine.specs.Table as converter_table
use Rattle.adc_machine.specs.Words.{buffer_number, place_count}
use Rattle.adc_machine.specs.declared.call.ResultBuffer.{ResultBuffer}
use Rattle.adc_machine.specs.declared.call.ResultBuffer.TheVariants.{Zero, One}
use Rattle.word_shapes.specs.declared.jobs.channel.Channel.{Channel}
use Rattle.spi_machine.specs.Numbered.{word_at}
use Rattle.spi_machine.specs.State.{channel_at, internal_word, wire_at}
use Rattle.spi_machine.specs.Table as serial_table
use Rattle.chip_model.specs.Wiring.{wiring_of}
use Rattle.module_machines.specs.dio.Machine.{does_by}
use Rattle.module_machines.specs.dio.Table as port_table
use Rattle.module_machines.specs.declared.dio.table.PortPins.{PortPins}
use Rattle.module_machines.specs.declared.dio.call.Call as port_calls
use Rattle.module_machines.specs.declared.dio.call.Call.TheVariants as port_call
use Rattle.bench_report.specs.Numbers.{IsNumber, Each}
use Rattle.bench_report.specs.Rows.{Row}
use Rattle.bench_report.specs.declared.rows.RowName.{RowName}
use Rattle.bench_report.specs.declared.rows.RowName.TheVariants as names
use Rattle.bench_report.specs.declared.rows.Value.TheVariants as values
use Rattle.mcal_drivers.specs.Setting.{SystemState, clock_setting, watchdog_setting, pin_setting, timer_setting, pulse_setting, capture_setting, converter_setting, serial_setting, joined, host_pins, host_setting, port_guest, system_setting, call_of}
use Rattle.mcal_drivers.specs.Shows.{level_at, ram_at, size_at, stamp_at, buffer_of, result_at, results_at, serial_channel}
use Rattle.bench_top.specs.Runs.{shows_of}
use Rattle.bench_top.specs.Shows.{level_value, has_pin, level_row, pin_row, section_rows, stamps_row, stamps_rows, results_row, result_rows, channel_rows, serial_rows, wire_row, show_rows}
use Rattle.trace_reader.specs.Trace.{HasNameNumbers, HasValueNumbers}
use Rattle.trace_promises.specs.traces.Numbers.{RowFits, RowsFit}
use Rattle.trace_promises.proofs.Within.{each_append}
use Rattle.trace_promises.specs.Keeping.{Keeps}
use Rattle.trace_promises.specs.Numbers.{BringsNumbers, ConfigFits, ClockFits, CapturesFit, ConverterFits, SerialFits, StateFits, WireFits}
use Rattle.trace_promises.proofs.CaptureNumbers.{captures_keep, stamp_fits}
use Rattle.trace_promises.proofs.ClockNumbers.{small_sections, clock_keeps, ram_fits}
use Rattle.trace_promises.proofs.ConverterNumbers.{converter_keeps, value_fits}
use Rattle.trace_promises.proofs.Lists.{chosen}
use Rattle.trace_promises.proofs.Kept.{keeps_nothing, keeps_both, keeps_guest, shows_right}
use Rattle.trace_promises.proofs.SerialNumbers.{small_channels, serial_keeps, source_fits, destination_fits, internal_fits, wire_fits}

-- ---- lists

-- what is printed for each number from a first one on
each_of : (f : ℕ → List Row) (first count most : ℕ) → first + count ≤ most → ((n : ℕ) → n < most → RowsFit (f n)) → RowsFit (flat_map f (range_with_len first count))
each_of f first zero most le h = tt
each_of f first (suc count) most le h = each_append RowFits (f first) (flat_map f (range_with_len (first + 1) count)) (h first (omega (arith, le))) (each_of f (first + 1) count most (omega (arith, le)) h)

each_value : (f : ℕ → ℕ) (ns : List ℕ) → ((n : ℕ) → IsNumber (f n)) → Each HasValueNumbers (map (λ n. values.One (f n)) ns)
each_value f [] h = tt
each_value f (n ∷ ns) h = (h n, each_value f ns h)

-- a row of words by their places
row_fits : (name : RowName) (f : ℕ → ℕ) (first size : ℕ) → HasNameNumbers name → ((n : ℕ) → IsNumber (f n)) → RowFits (record { name = name; values = map (λ n. values.One (f n)) (range_with_len first size) })
row_fits name f first size k h = (k, each_value f (range_with_len first size) h)

-- ---- the rows of a state

level_fits : (high : Bool) → IsNumber (level_value high)
level_fits true = omega arith
level_fits false = omega arith

section_fits : (s : SystemState) (n : ℕ) (xs : List McuRamSection) → n + length xs ≤ 4294967296 → ClockFits s.0.0.0 → RowsFit (section_rows s n xs)
section_fits s n [] le h = tt
section_fits s n (x ∷ xs) le h =
    (row_fits (names.Ram n) (ram_at s) x.base_address x.size (omega (arith, le)) (λ k. ram_fits s.0.0.0 k h), section_fits s (n + 1) xs (omega (arith, le)) h)

capture_fits : (s : SystemState) (c : ℕ) (size : Option ℕ) → c < 8 → CapturesFit s.1.0.1 → RowsFit (stamps_row s c size)
capture_fits s c None lt h = tt
capture_fits s c (Some size) lt h = (row_fits (names.Stamps c) (stamp_at s c) 0 size (omega (arith, lt)) (λ i. stamp_fits s.1.0.1 c i h), tt)

-- the buffer that is shown is one of two
buffer_fits : (b : ResultBuffer) → IsNumber (buffer_number b)
buffer_fits Zero = omega arith
buffer_fits One = omega arith

chosen_fits : (c : Config) (s : SystemState) (g : ℕ) (o : Option ResultBuffer) → g < 16 → ConverterFits s.1.1.0 → RowsFit (results_row s g (option_map (λ b. (buffer_number b, place_count (converter_table.table_of c.adc) g)) o))
chosen_fits c s g None lt h = tt
chosen_fits c s g (Some b) lt h =
    let n = buffer_number b in
    (row_fits (names.Results g n) (result_at s g n) 0 (place_count (converter_table.table_of c.adc) g) (omega (arith, lt), buffer_fits b) (λ i. value_fits s.1.1.0 g (buffer_of n) i h), tt)

serial_rows_fit : (s : SystemState) (c : ℕ) (o : Option Channel) → c < 16 → SerialFits s.1.1.1 → RowsFit (channel_rows s c o)
serial_rows_fit s c None lt h = tt
serial_rows_fit s c (Some k) lt h =
    let number : IsNumber c = omega (arith, lt) in
    let source = row_fits (names.Source c) (word_at (channel_at s.1.1.1 c).source) 0 k.length number (λ i. source_fits s.1.1.1 c i h) in
    let destination = row_fits (names.Destination c) (word_at (channel_at s.1.1.1 c).destination) 0 k.length number (λ i. destination_fits s.1.1.1 c i h) in
    let sent = row_fits (names.Transmit c) (internal_word s.1.1.1 c false) 0 k.length number (λ i. internal_fits s.1.1.1 c false i h) in
    let received = row_fits (names.Receive c) (internal_word s.1.1.1 c true) 0 k.length number (λ i. internal_fits s.1.1.1 c true i h) in
    (source, chosen RowsFit k.internal _ _ (sent, (received, tt)) (destination, tt))

pairs_fit : (ps : List (ℕ × ℕ)) → WireFits ps → Each HasValueNumbers (map (λ p. values.Pair p.0 p.1) ps)
pairs_fit [] h = tt
pairs_fit (p ∷ ps) h = (h.0, pairs_fit ps h.1)

wire_row_fits : (s : SystemState) (u : ℕ) → IsNumber u → SerialFits s.1.1.1 → RowFits (wire_row s u)
wire_row_fits s u n h = (n, pairs_fit (wire_at s.1.1.1 u) (wire_fits s.1.1.1 u h))

pin_fits : (c : Config) (w : World) (s : SystemState) (p : ℕ) → p < 64 → RowsFit (pin_row c w s p)
pin_fits c w s p lt = chosen RowsFit (has_pin c p) (level_row c w s p ∷ []) [] ((omega (arith, lt), (level_fits (level_at c w s p), tt)), tt) tt

rows_fit : (c : Config) → ConfigFits c → (w : World) (s : SystemState) (what : Shown) → StateFits s → RowsFit (show_rows c w s what)
rows_fit c v w s Pins h = each_of (pin_row c w s) 0 64 64 (omega arith) (pin_fits c w s)
rows_fit c v w s Ram h = let few = v.few in section_fits s 0 c.mcu.ram_sections (omega (arith, few)) h.0
rows_fit c v w s Buffers h =
    let stamps = each_of (λ n. stamps_row s n (size_at s n)) 0 8 8 (omega arith) (λ n lt. capture_fits s n (size_at s n) lt h.1) in
    let results = each_of (λ n. results_row s n (results_at c s n)) 0 16 16 (omega arith) (λ n lt. chosen_fits c s n (chosen_buffer s.1.1.0 n) lt h.2) in
    let serial = each_of (λ n. channel_rows s n (serial_channel c n)) 0 16 16 (omega arith) (λ n lt. serial_rows_fit s n (serial_channel c n) lt h.3) in
    each_append RowFits (stamps_rows s) (result_rows c s ++ serial_rows c s) stamps (each_append RowFits (result_rows c s) (serial_rows c s) results serial)
rows_fit c v w s Wire h = (wire_row_fits s 0 (omega arith) h.3, (wire_row_fits s 1 (omega arith) h.3, tt))

-- ---- and of a run

keeps_two : {S T C D : Type 0} {P : S → Type 0} {Q : T → Type 0} (g : Setting S C) (h : Setting T D) → Keeps g P → Keeps h Q → Keeps (joined g h) (λ s. P s.0 × Q s.1)
keeps_two {P = P} {Q = Q} g h a b = keeps_both P Q g.used g h a b

-- what channels and ports make of a state has its numbers still
port_fits : (c : Config) (w : World) (s : SystemState) (call : port_calls.Call) (pins : Option PortPins) → StateFits s → StateFits (does_by (host_pins (pulse_table.table_of c.pwm) (wiring_of c).outputs) w s call pins).state
port_fits c w s call None k = k
port_fits c w s (port_call.ReadChannel n) (Some pins) k = k
port_fits c w s (port_call.WriteChannel n high) (Some pins) k = k
port_fits c w s (port_call.FlipChannel n) (Some pins) k = k
port_fits c w s (port_call.ReadPort n) (Some pins) k = k
port_fits c w s (port_call.WritePort n value) (Some pins) k = k
port_fits c w s (port_call.ReadChannelGroup n) (Some pins) k = k
port_fits c w s (port_call.WriteChannelGroup n value) (Some pins) k = k

state_keeps : (c : Config) → ConfigFits c → Keeps (system_setting c) StateFits
unfolding system_setting
state_keeps c v =
    let clock = clock_keeps (clock_table.table_of c.mcu) (small_sections c.mcu v.small) in
    let captures = captures_keep (capture_table.table_of c.icu) in
    let converter = converter_keeps (converter_table.table_of c.adc) in
    let serial = serial_keeps (serial_table.table_of c.spi) (small_channels c.spi v.defaults) in
    let timed = joined (pin_setting c) (timer_setting c) in
    let pulsed = joined (pulse_setting c) (capture_setting c) in
    let carried = joined (converter_setting c) (serial_setting c) in
    let watched = joined (clock_setting c) (watchdog_setting c) in
    let firsts = keeps_two watched timed (keeps_two (clock_setting c) (watchdog_setting c) clock (keeps_nothing (watchdog_setting c))) (keeps_nothing timed) in
    let seconds = keeps_two pulsed carried (keeps_two (pulse_setting c) (capture_setting c) (keeps_nothing (pulse_setting c)) captures) (keeps_two (converter_setting c) (serial_setting c) converter serial) in
    let kept = keeps_two (joined watched timed) (joined pulsed carried) firsts seconds in
    let host : Keeps (host_setting c) StateFits = record {
      first = (kept.first.0.0.0, kept.first.1.0.1, kept.first.1.1.0, kept.first.1.1.1);
      stays = λ w s h v f k. let x = kept.stays w s h v f (((k.0, tt), tt), ((tt, k.1), (k.2, k.3))) in (x.0.0.0, x.1.0.1, x.1.1.0, x.1.1.1);
    } in
    keeps_guest StateFits (host_setting c) (port_guest c) host (λ w s call k. port_fits c w s call (port_table.pins_of (port_table.table_of c.port c.dio) call) k)

-- what is shown of a run has numbers of 32 bits
pub shows_fit : (devices : ℕ) (c : Config) (script : List Directive) (es : List Entry) → ConfigFits c → Each BringsNumbers es → Each RowsFit (shows_of devices c script es)
shows_fit devices c script es v brings =
    let keeps = state_keeps c v in
    let g = system_setting c in
    shows_right g StateFits keeps call_of (show_rows c) script RowsFit (rows_fit c v) (start_moment g (chip_for devices c script)) es brings (tt, keeps.first)
