-- A line that a configured object uses, and one that is due, is one of the 32 of a chip; one that is due is used, or a serial unit's.
use Rattle.std.proofs.Common.{◌≡◌, ℕ, ◌-◌, ◌<◌, ◌==◌, nat_lt, Bool, true, false, not, ◌&&◌, ◌||◌, cond, List, Option, Some, None, is_some, slice_index_or, refl, arith}
use Rattle.std.specs.Prelude.{if◌then◌else◌}
use Rattle.adc_machine.specs.Bounds.{adc_setting, group_of_input}
use Rattle.adc_machine.specs.Machine as converters
use Rattle.adc_machine.specs.Machine.{is_trigger_line, is_unit_line}
use Rattle.adc_machine.specs.Table.{unit_level}
use Rattle.adc_machine.specs.Triggers.{mark_at}
use Rattle.adc_machine.specs.Turns.{AdcState, round_at}
use Rattle.adc_machine.specs.declared.table.AdcTable.{AdcTable}
use Rattle.module_machines.specs.gpt.Bounds.{gpt_setting}
use Rattle.module_machines.specs.gpt.Machine as timers
use Rattle.module_machines.specs.gpt.Machine.{GptState}
use Rattle.module_machines.specs.gpt.Table as timer_table
use Rattle.module_machines.specs.declared.gpt.table.GptTable.{GptTable}
use Rattle.module_machines.specs.icu.Bounds.{icu_setting}
use Rattle.module_machines.specs.icu.Machine as captures
use Rattle.module_machines.specs.icu.Machine.{IcuState}
use Rattle.module_machines.specs.icu.Table as capture_table
use Rattle.module_machines.specs.declared.icu.table.Channel as capture
use Rattle.module_machines.specs.declared.icu.table.IcuTable.{IcuTable}
use Rattle.module_machines.specs.mcu.Bounds.{mcu_setting}
use Rattle.mcal_base.specs.facts.Numbers.{eq_is, lt_is}
use Rattle.mcal_base.specs.facts.Truths.{and_first, and_second, off_on}
use Rattle.module_machines.specs.port.Bounds.{port_setting}
use Rattle.module_machines.specs.pwm.Bounds.{pwm_setting}
use Rattle.module_machines.specs.pwm.Machine as pulses
use Rattle.module_machines.specs.pwm.Machine.{PwmState}
use Rattle.module_machines.specs.pwm.Table as pulse_table
use Rattle.module_machines.specs.declared.pwm.table.Channel as pulse
use Rattle.module_machines.specs.declared.pwm.table.PwmTable.{PwmTable}
use Rattle.run_model.specs.World.{World}
use Rattle.spi_machine.specs.Bounds.{spi_setting, uses_by}
use Rattle.spi_machine.specs.Machine as serials
use Rattle.spi_machine.specs.Machine.{has_done, run_of, unit_of}
use Rattle.spi_machine.specs.State.{SpiState, is_interrupt, is_off}
use Rattle.spi_machine.specs.declared.table.SpiTable.{SpiTable}
use Rattle.module_machines.specs.wdg.Bounds.{wdg_setting}
use Rattle.audit_machines.specs.System.{SystemState, Tables}
use Rattle.audit_subject.specs.Product.{joined}
use Rattle.audit_whole.specs.Whole.{host_setting, is_serial_line}

-- ---- one of two

pub either_true : {P : Type 0} (x y : Bool) → (x ≡ true → P) → (y ≡ true → P) → x || y ≡ true → P
either_true true y f g e = f refl
either_true false y f g e = g e

chosen_true : {P : Type 0} (b x y : Bool) → (x ≡ true → P) → (y ≡ true → P) → cond b x y ≡ true → P
chosen_true true x y f g e = f e
chosen_true false x y f g e = g e

-- ---- timers, pulse outputs and capture channels: a channel of eight

below_eight : {A : Type 0} (ks : List (Option A)) (n : ℕ) (q : Bool) → nat_lt n 8 ≡ q → is_some (if q then slice_index_or ks n None else None) ≡ true → n < 8
below_eight ks n true e h = lt_is n 8 e
below_eight ks n false e h = off_on h

timer_line : (d : GptTable) (l : ℕ) → is_some (timer_table.channel_of d l) ≡ true → l < 32
timer_line d l h = let small = below_eight d.channels l (nat_lt l 8) refl h in omega (arith, small)

timer_due : (d : GptTable) (w : World) (s : GptState) (l : ℕ) → timers.ready d w s l ≡ true → l < 32
timer_due d w s l h = let small = lt_is l 8 (and_first (nat_lt l 8) (timers.is_marked (timer_table.channel_of d l) w.now (timers.channel_at s l)) h) in omega (arith, small)

pulse_by : (d : PwmTable) (l : ℕ) (q : Bool) → is_some (if q then None else pulse_table.channel_of d (l - 8)) ≡ true → l < 32
pulse_by d l true h = off_on h
pulse_by d l false h = let small = below_eight d.channels (l - 8) (nat_lt (l - 8) 8) refl h in omega (arith, small)

pulse_line : (d : PwmTable) (l : ℕ) → is_some (pulse_table.channel_of_line d l) ≡ true → l < 32
pulse_line d l h = pulse_by d l (nat_lt l 8) h

pulse_there : (o : Option pulse.Channel) (w : World) (s : PwmState) (c : ℕ) → pulses.ready_by o w s c ≡ true → is_some o ≡ true
pulse_there None w s c h = h
pulse_there (Some k) w s c h = refl

pulse_due : (d : PwmTable) (w : World) (s : PwmState) (l : ℕ) → pulses.ready d w s l ≡ true → l < 32
pulse_due d w s l h = pulse_line d l (pulse_there (pulse_table.channel_of_line d l) w s (pulse_table.channel_number l) h)

capture_by : (d : IcuTable) (l : ℕ) (q : Bool) → is_some (if q then None else capture_table.channel_of d (l - 16)) ≡ true → l < 32
capture_by d l true h = off_on h
capture_by d l false h = let small = below_eight d.channels (l - 16) (nat_lt (l - 16) 8) refl h in omega (arith, small)

capture_line : (d : IcuTable) (l : ℕ) → is_some (capture_table.channel_of_line d l) ≡ true → l < 32
capture_line d l h = capture_by d l (nat_lt l 16) h

capture_there : (o : Option capture.Channel) (s : IcuState) (c : ℕ) → captures.ready_by o s c ≡ true → is_some o ≡ true
capture_there None s c h = h
capture_there (Some k) s c h = refl

capture_due : (d : IcuTable) (w : World) (s : IcuState) (l : ℕ) → captures.ready d w s l ≡ true → l < 32
capture_due d w s l h = capture_line d l (capture_there (capture_table.channel_of_line d l) s (capture_table.channel_number l) h)

-- ---- converters: a unit's line or a trigger's

unit_line : (l : ℕ) → is_unit_line l ≡ true → l < 32
unit_line l h = either_true (l == 24) (l == 25) (λ e. (let same = eq_is l 24 e in omega (arith, same))) (λ e. (let same = eq_is l 25 e in omega (arith, same))) h

trigger_line : (l : ℕ) → is_trigger_line l ≡ true → l < 32
trigger_line l h = lt_is l 32 (and_second (not (nat_lt l 28)) (nat_lt l 32) h)

converter_by : (l : ℕ) (q x y : Bool) → is_unit_line l ≡ q → cond q x (is_trigger_line l && y) ≡ true → l < 32
converter_by l true x y e h = unit_line l e
converter_by l false x y e h = trigger_line l (and_first (is_trigger_line l) y h)

converter_used : (d : AdcTable) (l : ℕ) → (adc_setting d).used l ≡ true → l < 32
converter_used d l h = converter_by l (is_unit_line l) (is_some (unit_level d (l - 24))) (is_some (group_of_input d (l - 28))) refl h

converter_due : (d : AdcTable) (w : World) (s : AdcState) (l : ℕ) → converters.ready d w s l ≡ true → l < 32
converter_due d w s l h = converter_by l (is_unit_line l) (converters.is_done d w (round_at s (l - 24))) (mark_at s (l - 28)) refl (and_second s.initialised (cond (is_unit_line l) (converters.is_done d w (round_at s (l - 24))) (is_trigger_line l && mark_at s (l - 28))) h)

-- ---- serial units: one of two lines

serial_by : (d : SpiTable) (l : ℕ) (p q : Bool) → (l == 26) ≡ p → (l == 27) ≡ q → is_some {T = ℕ} (if p then Some 0 else if q then Some 1 else None) ≡ true → l < 32
serial_by d l true q e f h = let same = eq_is l 26 e in omega (arith, same)
serial_by d l false true e f h = let same = eq_is l 27 f in omega (arith, same)
serial_by d l false false e f h = off_on h

serial_there : (d : SpiTable) (o : Option ℕ) → uses_by d o ≡ true → is_some o ≡ true
serial_there d None h = h
serial_there d (Some u) h = refl

serial_line : (d : SpiTable) (l : ℕ) → uses_by d (unit_of l) ≡ true → l < 32
serial_line d l h = serial_by d l (l == 26) (l == 27) refl refl (serial_there d (unit_of l) h)

done_there : (s : SpiState) (now : ℕ) (o : Option ℕ) → has_done now (run_of s o) ≡ true → is_some o ≡ true
done_there s now None h = h
done_there s now (Some u) h = refl

serial_due : (d : SpiTable) (w : World) (s : SpiState) (l : ℕ) → serials.due w s l ≡ true → l < 32
serial_due d w s l h = serial_by d l (l == 26) (l == 27) refl refl (done_there s w.now (unit_of l) (and_second (not (is_off s.mode)) (has_done w.now (run_of s (unit_of l))) (and_first (serials.ready w s l) (is_interrupt s.mode) h)))

-- ---- a line that is due is used, but for those of the last of two, which is asked for what the first doesn't use

or_second : (x y : Bool) → y ≡ true → x || y ≡ true
or_second true y e = refl
or_second false y e = e

next_asked : (used first second others serial : Bool) → (second ≡ true → (others || serial) ≡ true) → cond used first second ≡ true → ((used || others) || serial) ≡ true
next_asked true first second others serial f e = refl
next_asked false first second others serial f e = f e

serial_one : (p q : Bool) → is_some {T = ℕ} (if p then Some 0 else if q then Some 1 else None) ≡ true → (p || q) ≡ true
serial_one true q h = refl
serial_one false true h = refl
serial_one false false h = off_on h

serial_asked : (w : World) (s : SpiState) (l : ℕ) → serials.due w s l ≡ true → is_serial_line l ≡ true
serial_asked w s l h = serial_one (l == 26) (l == 27) (done_there s w.now (unit_of l) (and_second (not (is_off s.mode)) (has_done w.now (run_of s (unit_of l))) (and_first (serials.ready w s l) (is_interrupt s.mode) h)))

-- ---- all modules

module _ (t : Tables SpiTable) (l : ℕ) where
  pins_used : false || is_some (timer_table.channel_of t.0.1.1 l) ≡ true → l < 32
  pins_used e = timer_line t.0.1.1 l e

  outputs_used : is_some (pulse_table.channel_of_line t.1.0.0 l) || is_some (capture_table.channel_of_line t.1.0.1 l) ≡ true → l < 32
  outputs_used e = either_true (is_some (pulse_table.channel_of_line t.1.0.0 l)) (is_some (capture_table.channel_of_line t.1.0.1 l)) (pulse_line t.1.0.0 l) (capture_line t.1.0.1 l) e

  units_used : (adc_setting t.1.1.0).used l || uses_by t.1.1.1 (unit_of l) ≡ true → l < 32
  units_used e = either_true ((adc_setting t.1.1.0).used l) (uses_by t.1.1.1 (unit_of l)) (converter_used t.1.1.0 l) (serial_line t.1.1.1 l) e

  pub used_below : (host_setting t).used l ≡ true → l < 32
  used_below e =
      either_true ((joined (joined (mcu_setting t.0.0.0) (wdg_setting t.0.0.1)) (joined (port_setting t.0.1.0) (gpt_setting t.0.1.1))).used l) ((joined (joined (pwm_setting t.1.0.0) (icu_setting t.1.0.1)) (joined (adc_setting t.1.1.0) (spi_setting t.1.1.1))).used l)
      (λ x. pins_used x)
      (λ x. either_true (is_some (pulse_table.channel_of_line t.1.0.0 l) || is_some (capture_table.channel_of_line t.1.0.1 l)) ((adc_setting t.1.1.0).used l || uses_by t.1.1.1 (unit_of l)) outputs_used units_used x)
      e

module _ (t : Tables SpiTable) (w : World) (s : SystemState SpiState) (l : ℕ) where
  outputs_due : cond (is_some (pulse_table.channel_of_line t.1.0.0 l)) (pulses.ready t.1.0.0 w s.1.0.0 l) (captures.ready t.1.0.1 w s.1.0.1 l) ≡ true → l < 32
  outputs_due e = chosen_true (is_some (pulse_table.channel_of_line t.1.0.0 l)) (pulses.ready t.1.0.0 w s.1.0.0 l) (captures.ready t.1.0.1 w s.1.0.1 l) (pulse_due t.1.0.0 w s.1.0.0 l) (capture_due t.1.0.1 w s.1.0.1 l) e

  units_due : cond ((adc_setting t.1.1.0).used l) (converters.ready t.1.1.0 w s.1.1.0 l) (serials.due w s.1.1.1 l) ≡ true → l < 32
  units_due e = chosen_true ((adc_setting t.1.1.0).used l) (converters.ready t.1.1.0 w s.1.1.0 l) (serials.due w s.1.1.1 l) (converter_due t.1.1.0 w s.1.1.0 l) (serial_due t.1.1.1 w s.1.1.1 l) e

  pub due_below : (host_setting t).machine.due w s l ≡ true → l < 32
  due_below e =
      let left = joined (joined (mcu_setting t.0.0.0) (wdg_setting t.0.0.1)) (joined (port_setting t.0.1.0) (gpt_setting t.0.1.1)) in
      let right = joined (joined (pwm_setting t.1.0.0) (icu_setting t.1.0.1)) (joined (adc_setting t.1.1.0) (spi_setting t.1.1.1)) in
      chosen_true (left.used l) (left.machine.due w s.0 l) (right.machine.due w s.1 l)
      (λ x. timer_due t.0.1.1 w s.0.1.1 l x)
      (λ x. chosen_true (is_some (pulse_table.channel_of_line t.1.0.0 l) || is_some (capture_table.channel_of_line t.1.0.1 l)) _ _ outputs_due units_due x)
      e

  units_asked : cond ((adc_setting t.1.1.0).used l) (converters.ready t.1.1.0 w s.1.1.0 l) (serials.due w s.1.1.1 l) ≡ true → (((adc_setting t.1.1.0).used l || uses_by t.1.1.1 (unit_of l)) || is_serial_line l) ≡ true
  units_asked e = next_asked ((adc_setting t.1.1.0).used l) (converters.ready t.1.1.0 w s.1.1.0 l) (serials.due w s.1.1.1 l) (uses_by t.1.1.1 (unit_of l)) (is_serial_line l) (λ x. or_second (uses_by t.1.1.1 (unit_of l)) (is_serial_line l) (serial_asked w s.1.1.1 l x)) e

  pub due_asked : (host_setting t).machine.due w s l ≡ true → ((host_setting t).used l || is_serial_line l) ≡ true
  due_asked e =
      let left = joined (joined (mcu_setting t.0.0.0) (wdg_setting t.0.0.1)) (joined (port_setting t.0.1.0) (gpt_setting t.0.1.1)) in
      let right = joined (joined (pwm_setting t.1.0.0) (icu_setting t.1.0.1)) (joined (adc_setting t.1.1.0) (spi_setting t.1.1.1)) in
      next_asked (left.used l) (left.machine.due w s.0 l) (right.machine.due w s.1 l) (right.used l) (is_serial_line l)
      (λ x. next_asked (is_some (pulse_table.channel_of_line t.1.0.0 l) || is_some (capture_table.channel_of_line t.1.0.1 l))
      (cond (is_some (pulse_table.channel_of_line t.1.0.0 l)) (pulses.ready t.1.0.0 w s.1.0.0 l) (captures.ready t.1.0.1 w s.1.0.1 l))
      (cond ((adc_setting t.1.1.0).used l) (converters.ready t.1.1.0 w s.1.1.0 l) (serials.due w s.1.1.1 l))
      ((adc_setting t.1.1.0).used l || uses_by t.1.1.1 (unit_of l)) (is_serial_line l) units_asked x)
      e
