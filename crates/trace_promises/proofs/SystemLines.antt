-- The lines that the modules use are those of a chip.
use Rattle.std.proofs.Common.{◌≡◌, ℕ, ◌+◌, ◌-◌, ◌<◌, Bool, true, false, cond, [], ◌∷◌, Option, Some, None, refl, arith}
use Rattle.std.specs.Prelude.{◌==◌, ◌&&◌, is_some, nat_lt, slice_index_or, if◌then◌else◌}
use Rattle.std.proofs.lemmas.Bool.Decides.{nat_tests}
use Rattle.mcal_base.specs.facts.Numbers.{lt_is}
use Rattle.mcal_base.specs.declared.config.whole.Config.{Config}
use Rattle.run_model.specs.Legal.{has_line}
use Rattle.run_model.specs.Moment.{Setting}
use Rattle.run_model.specs.World.{World}
use Rattle.step_runner.specs.declared.either.Either.{Either}
use Rattle.step_runner.specs.declared.either.Either.TheVariants.{Left, Right}
use Rattle.service_outline.specs.guests.Guest.{Guest, guest_setting}
use Rattle.mcal_drivers.specs.Setting.{clock_setting, watchdog_setting, pin_setting, timer_setting, pulse_setting, capture_setting, converter_setting, serial_setting, joined, host_setting, port_guest, system_setting}
use Rattle.module_machines.specs.gpt.Table as timer_table
use Rattle.module_machines.specs.pwm.Table as pulse_table
use Rattle.module_machines.specs.icu.Table as capture_table
use Rattle.adc_machine.specs.Bounds.{group_of_input}
use Rattle.adc_machine.specs.Machine.{is_unit_line, is_trigger_line}
use Rattle.adc_machine.specs.Table as converter_table
use Rattle.adc_machine.specs.declared.table.AdcTable.{AdcTable}
use Rattle.spi_machine.specs.Bounds.{uses_by}
use Rattle.spi_machine.specs.Machine.{polls}
use Rattle.spi_machine.specs.State.{SpiState, is_polling}
use Rattle.spi_machine.specs.Table as serial_table
use Rattle.spi_machine.specs.declared.call.Call.{Call}
use Rattle.spi_machine.specs.declared.call.Call.TheVariants as calls
use Rattle.spi_machine.specs.declared.table.SpiTable.{SpiTable}
use Rattle.trace_promises.specs.traces.Lines.{HasLines}
use Rattle.trace_promises.proofs.UnionLines.{union_lines}

-- there is one for small numbers alone
below_by : {T : Type 0} (l n : ℕ) (o : Option T) (b : Bool) → nat_lt l n ≡ b → is_some (if b then o else None) ≡ true → l < n
below_by l n o true e h = lt_is l n e
below_by l n o false e h = cc

below : {T : Type 0} (l n : ℕ) (o : Option T) → is_some (if nat_lt l n then o else None) ≡ true → l < n
below l n o h = below_by l n o (nat_lt l n) refl h

-- the same from a number on
from_by : {T : Type 0} (l first n : ℕ) (o : Option T) (b : Bool) → is_some (if b then None else if nat_lt (l - first) n then o else None) ≡ true → l - first < n
from_by l first n o true h = cc
from_by l first n o false h = below (l - first) n o h

from : {T : Type 0} (l first n : ℕ) (o : Option T) → is_some (if nat_lt l first then None else if nat_lt (l - first) n then o else None) ≡ true → l < first + n
from l first n o h = let lt = from_by l first n o (nat_lt l first) h in omega (arith, lt)

-- ---- the eight

clock_lines : (c : Config) → HasLines (clock_setting c)
clock_lines c = record { used = λ line e. cc; polled = λ w s call line e. cc }

watchdog_lines : (c : Config) → HasLines (watchdog_setting c)
watchdog_lines c = record { used = λ line e. cc; polled = λ w s call line e. cc }

pin_lines : (c : Config) → HasLines (pin_setting c)
pin_lines c = record { used = λ line e. cc; polled = λ w s call line e. cc }

timer_lines : (c : Config) → HasLines (timer_setting c)
timer_lines c = record {
  used = λ line e. let lt = below line 8 (slice_index_or (timer_table.table_of c.gpt).channels line None) e in omega (arith, lt);
  polled = λ w s call line e. cc;
}

pulse_lines : (c : Config) → HasLines (pulse_setting c)
pulse_lines c = record {
  used = λ line e. let lt = from line 8 8 (slice_index_or (pulse_table.table_of c.pwm).channels (line - 8) None) e in omega (arith, lt);
  polled = λ w s call line e. cc;
}

capture_lines : (c : Config) → HasLines (capture_setting c)
capture_lines c = record {
  used = λ line e. let lt = from line 16 8 (slice_index_or (capture_table.table_of c.icu).channels (line - 16) None) e in omega (arith, lt);
  polled = λ w s call line e. cc;
}

-- the line of a converter unit, or of a trigger input
line_of_unit : (line : ℕ) → is_unit_line line ≡ true → line < 32
line_of_unit line e = grind (arith, nat_tests)

line_of_trigger : (line : ℕ) (others : Bool) → is_trigger_line line && others ≡ true → line < 32
line_of_trigger line others e = grind (arith, nat_tests)

converter_line : (line : ℕ) (b unit trigger : Bool) → is_unit_line line ≡ b → cond b unit (is_trigger_line line && trigger) ≡ true → line < 32
converter_line line true unit trigger e k = line_of_unit line e
converter_line line false unit trigger e k = line_of_trigger line trigger k

converter_lines : (c : Config) → HasLines (converter_setting c)
converter_lines c =
    let d : AdcTable = converter_table.table_of c.adc in
    record {
      used = λ line e. converter_line line (is_unit_line line) (is_some (converter_table.unit_level d (line - 24))) (is_some (group_of_input d (line - 28))) refl e;
      polled = λ w s call line e. cc;
    }

-- a serial unit's line
unit_line : (d : SpiTable) (line : ℕ) (first second : Bool) → (line == 26) ≡ first → (line == 27) ≡ second → uses_by d (if first then Some 0 else if second then Some 1 else None) ≡ true → line < 32
unit_line d line true second e k h = grind (arith, nat_tests)
unit_line d line false true e k h = grind (arith, nat_tests)
unit_line d line false false e k h = cc

-- one of two lines
either_line : (line : ℕ) → has_line (26 ∷ 27 ∷ []) line ≡ true → line < 32
either_line line h = grind (arith, nat_tests)

polled_line : (b : Bool) (line : ℕ) → has_line (if b then 26 ∷ 27 ∷ [] else []) line ≡ true → line < 32
polled_line true line h = either_line line h
polled_line false line h = cc

call_lines : (s : SpiState) (call : Call) (line : ℕ) → has_line (polls s call) line ≡ true → line < 32
call_lines s calls.MainFunctionHandling line h = polled_line (is_polling s.mode) line h
call_lines s _ line h = cc

serial_lines : (c : Config) → HasLines (serial_setting c)
serial_lines c = record {
  used = λ line e. unit_line (serial_table.table_of c.spi) line (line == 26) (line == 27) refl refl e;
  polled = λ w s call line e. call_lines s call line e;
}

-- ---- and all as one

both : {S T C D : Type 0} (g : Setting S C) (h : Setting T D) → HasLines g → HasLines h → HasLines (joined g h)
both g h a b = union_lines g.used g h a b

-- with a guest, which has none
module _ {S C D G : Type 0} (h : Setting S C) (g : Guest S D G) (lines : HasLines h) where
  polled_too : (w : World) (s : S) (call : Either C D) (line : ℕ) → has_line ((guest_setting h g).machine.polls w s call) line ≡ true → line < 32
  polled_too w s (Left x) line e = lines.polled w s x line e
  polled_too w s (Right y) line e = absurd (cc)

  with_guest : HasLines (guest_setting h g)
  with_guest = record { used = lines.used; polled = polled_too }

pub system_lines : (c : Config) → HasLines (system_setting c)
unfolding system_setting
system_lines c =
    let timed = joined (pin_setting c) (timer_setting c) in
    let pulsed = joined (pulse_setting c) (capture_setting c) in
    let carried = joined (converter_setting c) (serial_setting c) in
    let watched = joined (clock_setting c) (watchdog_setting c) in
    let firsts = both watched timed (both (clock_setting c) (watchdog_setting c) (clock_lines c) (watchdog_lines c)) (both (pin_setting c) (timer_setting c) (pin_lines c) (timer_lines c)) in
    let seconds = both pulsed carried (both (pulse_setting c) (capture_setting c) (pulse_lines c) (capture_lines c)) (both (converter_setting c) (serial_setting c) (converter_lines c) (serial_lines c)) in
    with_guest (host_setting c) (port_guest c) (both (joined watched timed) (joined pulsed carried) firsts seconds)
