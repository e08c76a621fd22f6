-- A move and the hardware leave what they don't touch.
use Rattle.std.proofs.Common.{◌≡◌, ℕ, ◌+◌, ◌*◌, ◌≤◌, ◌≢◌, Bool, true, false, List, refl, sym, ◌∙◌, ap, subst, arith, get_or-set_other, nat_lt}
use Rattle.std.specs.Prelude.{slice_index, slice_set, if◌then◌else◌}
use Rattle.adc_machine.specs.Words.{buffer_number}
use Rattle.chip_model.specs.Chip.{Chip, after_read, chip_after, happened, word_of}
use Rattle.chip_model.proofs.HistoryLaws.{edged, level_leaves}
use Rattle.chip_blocks.specs.pulses.Pulses as pulses
use Rattle.chip_blocks.specs.units.Pins as pins
use Rattle.mcal_base.specs.declared.directive.Order.{Order}
use Rattle.mcal_base.specs.declared.directive.Order.TheVariants as orders
use Rattle.mcal_base.specs.declared.layout.TheConstants.{USERS}
use Rattle.mcal_base.specs.declared.moves.Move.{Move}
use Rattle.mcal_base.specs.declared.moves.Move.TheVariants.{Read, Write, Load, Store, Mask, Unmask, Note, Report}
use Rattle.mcal_base.specs.declared.register.Reg.{Reg}
use Rattle.mcal_base.specs.declared.register.Reg.TheVariants.{TimerLow, CaptureCountLow, CaptureTimeLow, ConverterAbort, PinFlip, EnableSet, EnableClear, SerialData, PulsePeriod, PulseDuty, PulsePolarity, PulseCommit, PulseIdle, PulseEdges, PulseFlags, PinDirectionSet, PinDirectionClear, PinOutSet, PinOutClear, PinMode, PortPut}
use Rattle.mcal_base.specs.declared.register.Reg.TheVariants as regs
use Rattle.module_machines.specs.mcu.Bounds.{RamAgrees}
use Rattle.mcal_base.specs.facts.Numbers.{lt_is}
use Rattle.mcal_base.specs.facts.Truths.{on_off}
use Rattle.module_machines.specs.pwm.Bounds.{OutputsAgree}
use Rattle.run_model.specs.Frame.{state_by}
use Rattle.run_model.specs.Machine.{Moves}
use Rattle.run_model.specs.World.{World, world_after}
use Rattle.spi_machine.specs.State.{SpiState}
use Rattle.spi_machine.specs.declared.table.SpiTable.{SpiTable}
use Rattle.audit_machines.specs.System.{SystemState, Tables}
use Rattle.audit_modules.specs.Agrees.{PinsUnless}
use Rattle.audit_modules.specs.Keeps.{keeps_arrays}
use Rattle.audit_modules.proofs.Keeping.{arrays_kept}
use Rattle.audit_whole.specs.Aspects.{agrees}
use Rattle.audit_whole.specs.Touching.{by_move, by_order, by_register, is_touched}
use Rattle.audit_whole.specs.Whole.{host_setting}
use Rattle.audit_whole.specs.declared.aspects.Aspect.{Aspect}
use Rattle.audit_whole.specs.declared.aspects.Aspect.TheVariants.{Outputs, Pins, Ram, Stamps, Results, Arrays}
use Rattle.audit_whole.specs.declared.aspects.Touched.TheVariants.{Nothing, Words}

-- ---- registers

write_pulses : (chip : Chip) (r : Reg) (v received : ℕ) → is_touched Outputs (by_register r) ≡ false → (chip_after chip (Write r v) received).pulses ≡ chip.pulses
write_pulses chip (PulsePeriod c) v received e = on_off e
write_pulses chip (PulseDuty c) v received e = on_off e
write_pulses chip (PulsePolarity c) v received e = on_off e
write_pulses chip (PulseCommit c) v received e = on_off e
write_pulses chip (PulseIdle c) v received e = on_off e
write_pulses chip PulseEdges v received e = on_off e
write_pulses chip PulseFlags v received e = on_off e
write_pulses chip EnableSet v received e = refl
write_pulses chip EnableClear v received e = refl
write_pulses chip (SerialData u) v received e = refl
write_pulses chip _ v received e = refl

write_pins : (chip : Chip) (r : Reg) (v received : ℕ) → is_touched Pins (by_register r) ≡ false → (chip_after chip (Write r v) received).pins ≡ chip.pins
write_pins chip (PinDirectionSet n) v received e = on_off e
write_pins chip (PinDirectionClear n) v received e = on_off e
write_pins chip (PinOutSet n) v received e = on_off e
write_pins chip (PinOutClear n) v received e = on_off e
write_pins chip (PinMode n) v received e = on_off e
write_pins chip (PortPut n) v received e = on_off e
write_pins chip EnableSet v received e = refl
write_pins chip EnableClear v received e = refl
write_pins chip (SerialData u) v received e = refl
write_pins chip _ v received e = refl

write_ram : (chip : Chip) (r : Reg) (v received : ℕ) → is_touched Ram (by_register r) ≡ false → (chip_after chip (Write r v) received).ram ≡ chip.ram
write_ram chip (regs.Ram k) v received e = on_off e
write_ram chip EnableSet v received e = refl
write_ram chip EnableClear v received e = refl
write_ram chip (SerialData u) v received e = refl
write_ram chip _ v received e = refl

same_pulses : (chip : Chip) (made : Move) (received : ℕ) → is_touched Outputs (by_move made) ≡ false → (chip_after chip made received).pulses ≡ chip.pulses
same_pulses chip (Read (TimerLow c)) received e = refl
same_pulses chip (Read (CaptureCountLow c)) received e = refl
same_pulses chip (Read (CaptureTimeLow c)) received e = refl
same_pulses chip (Read (ConverterAbort u)) received e = refl
same_pulses chip (Read (PinFlip p)) received e = refl
same_pulses chip (Read _) received e = refl
same_pulses chip (Write r v) received e = write_pulses chip r v received e
same_pulses chip (Load k) received e = refl
same_pulses chip (Store k v) received e = refl
same_pulses chip Mask received e = refl
same_pulses chip Unmask received e = refl
same_pulses chip (Note n) received e = refl
same_pulses chip (Report f) received e = refl

same_pins : (chip : Chip) (made : Move) (received : ℕ) → is_touched Pins (by_move made) ≡ false → (chip_after chip made received).pins ≡ chip.pins
same_pins chip (Read (TimerLow c)) received e = refl
same_pins chip (Read (CaptureCountLow c)) received e = refl
same_pins chip (Read (CaptureTimeLow c)) received e = refl
same_pins chip (Read (ConverterAbort u)) received e = refl
same_pins chip (Read (PinFlip p)) received e = on_off e
same_pins chip (Read _) received e = refl
same_pins chip (Write r v) received e = write_pins chip r v received e
same_pins chip (Load k) received e = refl
same_pins chip (Store k v) received e = refl
same_pins chip Mask received e = refl
same_pins chip Unmask received e = refl
same_pins chip (Note n) received e = refl
same_pins chip (Report f) received e = refl

same_ram : (chip : Chip) (made : Move) (received : ℕ) → is_touched Ram (by_move made) ≡ false → (chip_after chip made received).ram ≡ chip.ram
same_ram chip (Read (TimerLow c)) received e = refl
same_ram chip (Read (CaptureCountLow c)) received e = refl
same_ram chip (Read (CaptureTimeLow c)) received e = refl
same_ram chip (Read (ConverterAbort u)) received e = refl
same_ram chip (Read (PinFlip p)) received e = refl
same_ram chip (Read _) received e = refl
same_ram chip (Write r v) received e = write_ram chip r v received e
same_ram chip (Load k) received e = refl
same_ram chip (Store k v) received e = refl
same_ram chip Mask received e = refl
same_ram chip Unmask received e = refl
same_ram chip (Note n) received e = refl
same_ram chip (Report f) received e = refl

-- ---- words

read_words : (chip : Chip) (r : Reg) → (after_read chip r).words ≡ chip.words
read_words chip (TimerLow c) = refl
read_words chip (CaptureCountLow c) = refl
read_words chip (CaptureTimeLow c) = refl
read_words chip (ConverterAbort u) = refl
read_words chip (PinFlip p) = refl
read_words chip _ = refl

write_words : (chip : Chip) (r : Reg) (v received : ℕ) → (chip_after chip (Write r v) received).words ≡ chip.words
write_words chip EnableSet v received = refl
write_words chip EnableClear v received = refl
write_words chip (SerialData u) v received = refl
write_words chip _ v received = refl

stored : (words : List ℕ) (k v n : ℕ) → n ≢ k → slice_index (slice_set words k v) n ≡ slice_index words n
stored words k v n other = get_or-set_other words k n v 0 other

-- the words of users are as they were
same_word : (chip : Chip) (made : Move) (received n : ℕ) → keeps_arrays made ≡ true → USERS ≤ n → word_of (chip_after chip made received) n ≡ word_of chip n
same_word chip (Read r) received n e le = ap (λ (ws : List ℕ). slice_index ws n) (read_words chip r)
same_word chip (Write r v) received n e le = ap (λ (ws : List ℕ). slice_index ws n) (write_words chip r v received)
same_word chip (Load k) received n e le = refl
same_word chip (Store k v) received n e le = stored chip.words k v n (omega (arith, lt_is k USERS e, le))
same_word chip Mask received n e le = refl
same_word chip Unmask received n e le = refl
same_word chip (Note m) received n e le = refl
same_word chip (Report f) received n e le = refl

below_users : (a : Aspect) (b : Bool) → is_touched a Words ≡ true → is_touched a (if b then Nothing else Words) ≡ false → b ≡ true
below_users a true t e = refl
below_users a false t e = on_off (sym t ∙ e)

keeps_words : (a : Aspect) (made : Move) → is_touched a Words ≡ true → is_touched a (by_move made) ≡ false → keeps_arrays made ≡ true
keeps_words a (Store k v) t e = below_users a (nat_lt k USERS) t e
keeps_words a (Read r) t e = refl
keeps_words a (Write r v) t e = refl
keeps_words a (Load k) t e = refl
keeps_words a Mask t e = refl
keeps_words a Unmask t e = refl
keeps_words a (Note n) t e = refl
keeps_words a (Report f) t e = refl

-- ---- a move

pub kept_by_move : (a : Aspect) (t : Tables SpiTable) (chip : Chip) (w : World) (s : SystemState SpiState) (made : Move) (received : ℕ) → is_touched a (by_move made) ≡ false → agrees a t chip w s → agrees a t (chip_after chip made received) w s
kept_by_move Outputs t chip w s made received e h = subst (λ (b : pulses.Pulses). OutputsAgree t.1.0.0 b w s.1.0.0) (sym (same_pulses chip made received e)) h
kept_by_move Pins t chip w s made received e h = subst (λ (b : pins.Pins). PinsUnless false b s.0.1.0) (sym (same_pins chip made received e)) h
kept_by_move Ram t chip w s made received e h = subst (λ (ws : List ℕ). RamAgrees ws s.0.0.0) (sym (same_ram chip made received e)) h
kept_by_move Stamps t chip w s made received e h = λ c some i lt. same_word chip made received (139264 + 64 * c + i) (keeps_words Stamps made refl e) (omega arith) ∙ h c some i lt
kept_by_move Results t chip w s made received e h = λ g b p lt. same_word chip made received (73728 + 2048 * (2 * g + buffer_number b) + p) (keeps_words Results made refl e) (omega arith) ∙ h g b p lt
kept_by_move Arrays t chip w s made received e h = arrays_kept t chip s made received (keeps_words Arrays made refl e) h

-- ---- the hardware

same_parts : {A : Type 0} (see : Chip → A) (chip : Chip) (p : ℕ) (v : Bool) → see (edged chip p v) ≡ see chip → see (happened chip (orders.Level p v)) ≡ see chip
same_parts see chip p v e = level_leaves see chip p v e

pub kept_by_order : (a : Aspect) (t : Tables SpiTable) (chip : Chip) (w : World) (s : SystemState SpiState) (order : Order) → is_touched a (by_order order) ≡ false → agrees a t chip w s
    → agrees a t (happened chip order) (world_after w ((host_setting t).machine.rate s) order) (state_by s ((host_setting t).machine.happens w s (Moves order)))
kept_by_order Outputs t chip w s (orders.Tick n) e h = on_off e
kept_by_order Pins t chip w s (orders.Tick n) e h = h
kept_by_order Ram t chip w s (orders.Tick n) e h = h
kept_by_order Stamps t chip w s (orders.Tick n) e h = h
kept_by_order Results t chip w s (orders.Tick n) e h = h
kept_by_order Arrays t chip w s (orders.Tick n) e h = h
kept_by_order Outputs t chip w s (orders.Level p v) e h = subst (λ (b : pulses.Pulses). OutputsAgree t.1.0.0 b (world_after w 1 (orders.Level p v)) s.1.0.0) (sym (same_parts (λ d. d.pulses) chip p v refl)) h
kept_by_order Pins t chip w s (orders.Level p v) e h = subst (λ (b : pins.Pins). PinsUnless false b s.0.1.0) (sym (same_parts (λ d. d.pins) chip p v refl)) h
kept_by_order Ram t chip w s (orders.Level p v) e h = subst (λ (ws : List ℕ). RamAgrees ws s.0.0.0) (sym (same_parts (λ d. d.ram) chip p v refl)) h
kept_by_order Stamps t chip w s (orders.Level p v) e h = on_off e
kept_by_order Results t chip w s (orders.Level p v) e h = λ g b q lt. same_parts (λ d. word_of d (73728 + 2048 * (2 * g + buffer_number b) + q)) chip p v refl ∙ h g b q lt
kept_by_order Arrays t chip w s (orders.Level p v) e h = λ c. record {
  source = λ i lt. same_parts (λ d. word_of d (139776 + 64 * c + i)) chip p v refl ∙ (h c).source i lt;
  destination = λ i lt. same_parts (λ d. word_of d (140800 + 64 * c + i)) chip p v refl ∙ (h c).destination i lt;
}
kept_by_order Outputs t chip w s (orders.Trigger i) e h = h
kept_by_order Pins t chip w s (orders.Trigger i) e h = h
kept_by_order Ram t chip w s (orders.Trigger i) e h = h
kept_by_order Stamps t chip w s (orders.Trigger i) e h = h
kept_by_order Results t chip w s (orders.Trigger i) e h = on_off e
kept_by_order Arrays t chip w s (orders.Trigger i) e h = h
kept_by_order Outputs t chip w s (orders.SpiFault u) e h = h
kept_by_order Pins t chip w s (orders.SpiFault u) e h = h
kept_by_order Ram t chip w s (orders.SpiFault u) e h = h
kept_by_order Stamps t chip w s (orders.SpiFault u) e h = h
kept_by_order Results t chip w s (orders.SpiFault u) e h = h
kept_by_order Arrays t chip w s (orders.SpiFault u) e h = on_off e
kept_by_order Outputs t chip w s (orders.Fill c ws) e h = h
kept_by_order Pins t chip w s (orders.Fill c ws) e h = h
kept_by_order Ram t chip w s (orders.Fill c ws) e h = h
kept_by_order Stamps t chip w s (orders.Fill c ws) e h = on_off e
kept_by_order Results t chip w s (orders.Fill c ws) e h = on_off e
kept_by_order Arrays t chip w s (orders.Fill c ws) e h = on_off e
kept_by_order Outputs t chip w s _ e h = h
kept_by_order Pins t chip w s _ e h = h
kept_by_order Ram t chip w s _ e h = h
kept_by_order Stamps t chip w s _ e h = h
kept_by_order Results t chip w s _ e h = h
kept_by_order Arrays t chip w s _ e h = h
