-- Every chip that a history leaves is whole.
use Rattle.std.proofs.Common.{◌≡◌, ℕ, ◌+◌, ◌-◌, ◌*◌, ◌<◌, ◌≤◌, Bool, true, false, List, [], ◌∷◌, ◌++◌, length, take, drop, refl, sym, ◌∙◌, ap, arith, length-set}
use Rattle.std.specs.Prelude.{if◌then◌else◌, nat_lt, ◌&&◌, ◌^◌, bit_or, slice_index}
use Rattle.std.specs.List.{AllByRecursion}
use Rattle.std.proofs.lemmas.List.{length-append, length-take, length-take-le, length-drop}
use Rattle.mcal_base.specs.Bits.{has_bit}
use Rattle.mcal_base.specs.Layout.{WithinLimits, place_of}
use Rattle.mcal_base.specs.declared.config.whole.Config.{Config}
use Rattle.mcal_base.specs.declared.directive.Order.{Order}
use Rattle.mcal_base.specs.declared.directive.Order.TheVariants.{Tick, Level, Analog, Trigger, Miso, SpiFault, Detach, Fill}
use Rattle.mcal_base.specs.declared.layout.Array.TheVariants.{Source}
use Rattle.mcal_base.specs.declared.moves.Move.{Move}
use Rattle.mcal_base.specs.declared.moves.Move.TheVariants.{Read, Write, Load, Store, Mask, Unmask, Note, Report}
use Rattle.mcal_base.specs.declared.register.Reg.{Reg}
use Rattle.mcal_base.specs.declared.register.Reg.TheVariants.{EnableSet, EnableClear, TimerLow, CaptureCondition, CaptureMode, CaptureGateSet, CaptureGateClear, CaptureCountLow, CaptureZero, CaptureTimeLow, CapturePop, CaptureFlush, ConverterList, ConverterGo, ConverterAbort, ConverterAck, TriggerSet, TriggerClear, TriggerFlags, SerialSelect, SerialWidth, SerialData, SerialAck, PinFlip, Ram}
use Rattle.chip_blocks.proofs.of_timers.TimerLaws as timer_laws
use Rattle.chip_blocks.proofs.of_pulses.PulseLaws as pulse_laws
use Rattle.chip_blocks.specs.captures.Captures as captures
use Rattle.chip_blocks.specs.converter.Converters as converters
use Rattle.chip_blocks.specs.units.Serials as serials
use Rattle.chip_blocks.specs.units.Ram as ram
use Rattle.chip_model.specs.Chip.{Chip, power_on, hung, after_read, after_write, chip_after, happened, overwritten, source_length, is_other, outside_at}
use Rattle.chip_model.specs.Histories.{Happening, chip_step, chip_after_all, chip_of, HasAll, IsAtOneTime, FillsThere}
use Rattle.chip_model.specs.Histories as histories
use Rattle.chip_model.proofs.DeviceLaws.{length-waiting}
use Rattle.chip_model.proofs.HistoryLaws.{edged, levels-write, levels-pulse}
use Rattle.chip_model.proofs.WordLaws.{length-blank, index-replicate}
use Rattle.chip_model.proofs.WiringLaws.{sources-within}

-- ---- lengths

length-ram : (words : List ℕ) (r : Reg) (value : ℕ) → length (ram.after_write words r value) ≡ length words
length-ram words (Ram k) value = length-set words k value
length-ram words _ value = refl

pub length-ram_blank : length ram.blank ≡ 512
unfolding ram.blank
length-ram_blank = refl

pub length-silent : length converters.silent ≡ 32
unfolding converters.silent
length-silent = refl

pub silent-level : (i : ℕ) → slice_index converters.silent i ≡ 0
unfolding converters.silent
silent-level i = index-replicate 32 i

length-overwritten : (words xs : List ℕ) (at : ℕ) → at + length xs ≤ length words → length (overwritten words at xs) ≡ length words
length-overwritten words xs at le =
    let front : length (take at words) ≡ at = length-take-le at words (omega (arith, le)) in
    let back : length (drop (at + length xs) words) ≡ length words - (at + length xs) = length-drop (at + length xs) words in
    length-append (take at words ++ xs) (drop (at + length xs) words)
    ∙ rw (length-append (take at words) xs, front, back) (omega (arith, le))

-- a chip with as many of all
kept : (c d : Chip) → length d.words ≡ length c.words → length d.ram ≡ length c.ram → length d.outside ≡ length c.outside
    → length d.incoming ≡ length c.incoming → length d.timers.timers ≡ length c.timers.timers
    → length d.converters.levels.values ≡ length c.converters.levels.values → d.wiring ≡ c.wiring
    → HasAll c → HasAll d
kept c d words ram outside incoming timers inputs wiring h = record {
  words = words ∙ h.words;
  ram = ram ∙ h.ram;
  outside = outside ∙ h.outside;
  incoming = incoming ∙ h.incoming;
  timers = timers ∙ h.timers;
  inputs = inputs ∙ h.inputs;
  sources = rw wiring h.sources;
}

either : (P : Chip → Type 0) (q : Bool) (x y : Chip) → P x → P y → P (if q then x else y)
either P true x y px py = px
either P false x y px py = py

all_read : (c : Chip) (r : Reg) → HasAll c → HasAll (after_read c r)
all_read c (TimerLow k) h = kept c _ refl refl refl refl refl refl refl h
all_read c (CaptureCountLow k) h = kept c _ refl refl refl refl refl refl refl h
all_read c (CaptureTimeLow k) h = kept c _ refl refl refl refl refl refl refl h
all_read c (ConverterAbort u) h = kept c _ refl refl refl refl refl refl refl h
all_read c (PinFlip p) h = kept c _ refl refl refl refl refl refl refl h
all_read c _ h = h

all_write : (c : Chip) (r : Reg) (value received : ℕ) → HasAll c → HasAll (after_write c r value received)
all_write c EnableSet value received h = kept c _ refl refl refl refl refl refl refl h
all_write c EnableClear value received h = kept c _ refl refl refl refl refl refl refl h
all_write c (SerialData u) value received h = kept c _ refl refl refl (length-waiting c u) refl refl refl h
all_write c r value received h = kept c _ refl (length-ram c.ram r value) refl refl (timer_laws.length-after_write c.timers r value) (ap (λ l. length l.values) (levels-write c.converters r value)) refl h

all_move : (c : Chip) (made : Move) (received : ℕ) → HasAll c → HasAll (chip_after c made received)
all_move c (Read r) received h = all_read c r h
all_move c (Write r value) received h = all_write c r value received h
all_move c (Load k) received h = h
all_move c (Store k value) received h = kept c _ (length-set c.words k value) refl refl refl refl refl refl h
all_move c Mask received h = kept c _ refl refl refl refl refl refl refl h
all_move c Unmask received h = kept c _ refl refl refl refl refl refl refl h
all_move c (Note notice) received h = h
all_move c (Report fault) received h = h

-- a fill stays within the array's room, and so within the driver words
room_of_fill : (c : Chip) (channel : ℕ) (ws : List ℕ) → HasAll c → channel < 16
    → place_of (Source channel) 0 + length (take (source_length c channel) ws) ≤ length c.words
room_of_fill c channel ws h lt =
    rw (h.words, length-take (source_length c channel) ws) (omega (arith, h.sources channel lt))

all_event : (c : Chip) (order : Order) → FillsThere (histories.Hardware order) → HasAll c → HasAll (happened c order)
all_event c (Tick n) there h = kept c _ refl refl refl refl refl refl refl h
all_event c (Level p v) there h = either HasAll (is_other (outside_at c p) v) (edged c p v) c (kept c (edged c p v) refl refl (length-set c.outside p v) refl refl refl refl h) h
all_event c (Analog i v) there h = kept c _ refl refl refl refl refl (length-set c.converters.levels.values i v) refl h
all_event c (Trigger i) there h = kept c _ refl refl refl refl refl (ap (λ l. length l.values) (levels-pulse c.converters i)) refl h
all_event c (Miso u ws) there h = kept c _ refl refl refl (length-set c.incoming u _) refl refl refl h
all_event c (SpiFault u) there h = kept c _ refl refl refl refl refl refl refl h
all_event c Detach there h = kept c _ refl refl refl refl refl refl refl h
all_event c (Fill channel ws) there h =
    kept c _ (length-overwritten c.words (take (source_length c channel) ws) (place_of (Source channel) 0) (room_of_fill c channel ws h there)) refl refl refl refl refl refl h
all_event c _ there h = h

pub all-step : (c : Chip) (x : Happening) → FillsThere x → HasAll c → HasAll (chip_step c x)
all-step c (histories.Made made received) there h = all_move c made received h
all-step c (histories.Hardware order) there h = all_event c order there h
all-step c (histories.WasReset reason) there h = record {
  words = length-blank;
  ram = length-ram_blank;
  outside = h.outside;
  incoming = h.incoming;
  timers = refl;
  inputs = h.inputs;
  sources = h.sources;
}

all_steps : (c : Chip) (xs : List Happening) → AllByRecursion FillsThere xs → HasAll c → HasAll (chip_after_all c xs)
all_steps c [] there h = h
all_steps c (x ∷ xs) there h = all_steps (chip_step c x) xs there.1 (all-step c x there.0 h)

pub all-power_on : (config : Config) (room : ℕ) → WithinLimits config → HasAll (power_on config room)
all-power_on config room w = record {
  words = length-blank;
  ram = length-ram_blank;
  outside = refl;
  incoming = refl;
  timers = refl;
  inputs = length-silent;
  sources = sources-within config w;
}

pub all-chip_of : (config : Config) (room devices : ℕ) (history : List Happening) → WithinLimits config → AllByRecursion FillsThere history → HasAll (chip_of config room devices history)
all-chip_of config room devices history w there = all_steps (hung devices (power_on config room)) history there (kept (power_on config room) (hung devices (power_on config room)) refl refl refl refl refl refl refl (all-power_on config room w))

-- ---- one time

captures_time : (b : captures.Captures) (r : Reg) (value : ℕ) → (captures.after_write b r value).time ≡ b.time
captures_time b (CaptureCondition c) value = refl
captures_time b (CaptureMode c) value = refl
captures_time b CaptureGateSet value = refl
captures_time b CaptureGateClear value = refl
captures_time b (CaptureZero c) value = refl
captures_time b (CapturePop c) value = refl
captures_time b (CaptureFlush c) value = refl
captures_time b _ value = refl

converters_time : (b : converters.Converters) (r : Reg) (value : ℕ) → (converters.after_write b r value).time ≡ b.time
converters_time b (ConverterList u place) value = refl
converters_time b (ConverterGo u) value = refl
converters_time b (ConverterAck u) value = refl
converters_time b TriggerSet value = refl
converters_time b TriggerClear value = refl
converters_time b TriggerFlags value = refl
converters_time b _ value = refl

serials_time : (b : serials.Serials) (r : Reg) (value : ℕ) → (serials.after_write b r value).time ≡ b.time
serials_time b (SerialSelect u) value = refl
serials_time b (SerialWidth u) value = refl
serials_time b (SerialAck u) value = refl
serials_time b _ value = refl

pulse_time : (q : Bool) (x y : converters.Converters) (n : ℕ) → x.time ≡ n → y.time ≡ n → (if q then x else y).time ≡ n
pulse_time true x y n hx hy = hx
pulse_time false x y n hx hy = hy

-- a chip whose blocks have the times of another's
timed : (c d : Chip) → d.timers.time ≡ c.timers.time → d.pulses.time ≡ c.pulses.time → d.captures.time ≡ c.captures.time
    → d.converters.time ≡ c.converters.time → d.serials.time ≡ c.serials.time → IsAtOneTime c → IsAtOneTime d
timed c d timers pulses captures converters serials h = record {
  pulses = pulses ∙ h.pulses ∙ sym timers;
  captures = captures ∙ h.captures ∙ sym timers;
  converters = converters ∙ h.converters ∙ sym timers;
  serials = serials ∙ h.serials ∙ sym timers;
}

time_read : (c : Chip) (r : Reg) → IsAtOneTime c → IsAtOneTime (after_read c r)
time_read c (TimerLow k) h = timed c _ refl refl refl refl refl h
time_read c (CaptureCountLow k) h = timed c _ refl refl refl refl refl h
time_read c (CaptureTimeLow k) h = timed c _ refl refl refl refl refl h
time_read c (ConverterAbort u) h = timed c _ refl refl refl refl refl h
time_read c (PinFlip p) h = timed c _ refl refl refl refl refl h
time_read c _ h = h

time_write : (c : Chip) (r : Reg) (value received : ℕ) → IsAtOneTime c → IsAtOneTime (after_write c r value received)
time_write c EnableSet value received h = timed c _ refl refl refl refl refl h
time_write c EnableClear value received h = timed c _ refl refl refl refl refl h
time_write c (SerialData u) value received h = timed c _ refl refl refl refl refl h
time_write c r value received h =
    timed c _ (timer_laws.time-after_write c.timers r value) (pulse_laws.time-after_write c.pulses r value) (captures_time c.captures r value) (converters_time c.converters r value) (serials_time c.serials r value) h

time_move : (c : Chip) (made : Move) (received : ℕ) → IsAtOneTime c → IsAtOneTime (chip_after c made received)
time_move c (Read r) received h = time_read c r h
time_move c (Write r value) received h = time_write c r value received h
time_move c (Load k) received h = h
time_move c (Store k value) received h = timed c _ refl refl refl refl refl h
time_move c Mask received h = timed c _ refl refl refl refl refl h
time_move c Unmask received h = timed c _ refl refl refl refl refl h
time_move c (Note notice) received h = h
time_move c (Report fault) received h = h

time_event : (c : Chip) (order : Order) → IsAtOneTime c → IsAtOneTime (happened c order)
time_event c (Tick n) h = record {
  pulses = ap (λ t. t + n * c.clock.rate) h.pulses;
  captures = ap (λ t. t + n * c.clock.rate) h.captures;
  converters = ap (λ t. t + n * c.clock.rate) h.converters;
  serials = ap (λ t. t + n * c.clock.rate) h.serials;
}
time_event c (Level p v) h = either IsAtOneTime (is_other (outside_at c p) v) (edged c p v) c (timed c (edged c p v) refl refl refl refl refl h) h
time_event c (Analog i v) h = timed c _ refl refl refl refl refl h
time_event c (Trigger i) h = timed c _ refl refl refl (pulse_time (nat_lt i 4 && has_bit c.converters.gates i) (record (c.converters) { pulses = bit_or c.converters.pulses (2 ^ i) }) c.converters c.converters.time refl refl) refl h
time_event c (Miso u ws) h = timed c _ refl refl refl refl refl h
time_event c (SpiFault u) h = timed c _ refl refl refl refl refl h
time_event c Detach h = timed c _ refl refl refl refl refl h
time_event c (Fill channel ws) h = timed c _ refl refl refl refl refl h
time_event c _ h = h

pub time-step : (c : Chip) (x : Happening) → IsAtOneTime c → IsAtOneTime (chip_step c x)
time-step c (histories.Made made received) h = time_move c made received h
time-step c (histories.Hardware order) h = time_event c order h
time-step c (histories.WasReset reason) h = timed c _ refl refl refl refl refl h

time_steps : (c : Chip) (xs : List Happening) → IsAtOneTime c → IsAtOneTime (chip_after_all c xs)
time_steps c [] h = h
time_steps c (x ∷ xs) h = time_steps (chip_step c x) xs (time-step c x h)

pub time-chip_of : (config : Config) (room devices : ℕ) (history : List Happening) → IsAtOneTime (chip_of config room devices history)
time-chip_of config room devices history = time_steps (hung devices (power_on config room)) history (record { pulses = refl; captures = refl; converters = refl; serials = refl })
