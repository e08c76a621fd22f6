-- What a move leaves that writes no register, inverts no latch, or stores no word of the users' arrays.
use Rattle.std.proofs.Common.{◌≡◌, ℕ, ◌+◌, ◌*◌, ◌≤◌, ◌≢◌, Bool, true, List, refl, sym, ◌∙◌, ap, subst, arith, get_or-set_other}
use Rattle.std.specs.Prelude.{slice_index, slice_set}
use Rattle.adc_machine.specs.Words.{buffer_number}
use Rattle.chip_model.specs.Chip.{Chip, after_read, chip_after, word_of}
use Rattle.chip_blocks.specs.pulses.Pulses as pulses
use Rattle.chip_blocks.specs.units.Pins as pins
use Rattle.mcal_base.specs.declared.layout.TheConstants.{USERS}
use Rattle.mcal_base.specs.declared.moves.Move.{Move}
use Rattle.mcal_base.specs.declared.moves.Move.TheVariants.{Read, Write, Load, Store, Mask, Unmask, Note, Report}
use Rattle.mcal_base.specs.declared.register.Reg.{Reg}
use Rattle.mcal_base.specs.declared.register.Reg.TheVariants.{TimerLow, CaptureCountLow, CaptureTimeLow, ConverterAbort, PinFlip, EnableSet, EnableClear, SerialData}
use Rattle.module_machines.specs.mcu.Bounds.{RamAgrees}
use Rattle.mcal_base.specs.facts.Numbers.{lt_is}
use Rattle.mcal_base.specs.facts.Truths.{off_on}
use Rattle.module_machines.specs.port.Bounds.{PinsAgree}
use Rattle.module_machines.specs.pwm.Bounds.{OutputsAgree}
use Rattle.run_model.specs.World.{World}
use Rattle.spi_machine.specs.State.{SpiState}
use Rattle.spi_machine.specs.declared.table.SpiTable.{SpiTable}
use Rattle.audit_machines.specs.System.{SystemState, Tables}
use Rattle.audit_modules.specs.Agrees.{ArraysStand, OutputsStand, PinsUnless, Rests}
use Rattle.audit_modules.specs.Keeps.{keeps_arrays, keeps_registers}

-- ---- registers

-- what of the chip the registers of pulse units, pins and RAM make
record SameRegisters (x y : Chip) : Type 0 where
  pulses : x.pulses ≡ y.pulses
  pins : x.pins ≡ y.pins
  ram : x.ram ≡ y.ram

read : (chip : Chip) (r : Reg) → keeps_registers (Read r) ≡ true → SameRegisters (after_read chip r) chip
read chip (TimerLow c) e = record { pulses = refl; pins = refl; ram = refl }
read chip (CaptureCountLow c) e = record { pulses = refl; pins = refl; ram = refl }
read chip (CaptureTimeLow c) e = record { pulses = refl; pins = refl; ram = refl }
read chip (ConverterAbort u) e = record { pulses = refl; pins = refl; ram = refl }
read chip (PinFlip p) e = off_on e
read chip _ e = record { pulses = refl; pins = refl; ram = refl }

same_registers : (chip : Chip) (made : Move) (received : ℕ) → keeps_registers made ≡ true → SameRegisters (chip_after chip made received) chip
same_registers chip (Read r) received e = read chip r e
same_registers chip (Write r v) received e = off_on e
same_registers chip (Load k) received e = record { pulses = refl; pins = refl; ram = refl }
same_registers chip (Store k v) received e = record { pulses = refl; pins = refl; ram = refl }
same_registers chip Mask received e = record { pulses = refl; pins = refl; ram = refl }
same_registers chip Unmask received e = record { pulses = refl; pins = refl; ram = refl }
same_registers chip (Note n) received e = record { pulses = refl; pins = refl; ram = refl }
same_registers chip (Report f) received e = record { pulses = refl; pins = refl; ram = refl }

pub outputs_kept : (t : Tables SpiTable) (chip : Chip) (w : World) (s : SystemState SpiState) (busy : Bool) (made : Move) (received : ℕ) → keeps_registers made ≡ true → OutputsStand t chip w s busy → OutputsStand t (chip_after chip made received) w s busy
outputs_kept t chip w s busy made received e h =
    let x = same_registers chip made received e in
    record {
      outputs = subst (λ (b : pulses.Pulses). OutputsAgree t.1.0.0 b w s.1.0.0) (sym x.pulses) h.outputs;
      pins = subst (λ (b : pins.Pins). PinsUnless busy b s.0.1.0) (sym x.pins) h.pins;
    }

-- ---- words

read_words : (chip : Chip) (r : Reg) → (after_read chip r).words ≡ chip.words
read_words chip (TimerLow c) = refl
read_words chip (CaptureCountLow c) = refl
read_words chip (CaptureTimeLow c) = refl
read_words chip (ConverterAbort u) = refl
read_words chip (PinFlip p) = refl
read_words chip _ = refl

write_words : (chip : Chip) (r : Reg) (v received : ℕ) → (chip_after chip (Write r v) received).words ≡ chip.words
write_words chip EnableSet v received = refl
write_words chip EnableClear v received = refl
write_words chip (SerialData u) v received = refl
write_words chip _ v received = refl

stored : (words : List ℕ) (k v n : ℕ) → n ≢ k → slice_index (slice_set words k v) n ≡ slice_index words n
stored words k v n other = get_or-set_other words k n v 0 other

-- the words from the first one of the users' arrays on are as they were
same_word : (chip : Chip) (made : Move) (received n : ℕ) → keeps_arrays made ≡ true → USERS ≤ n → word_of (chip_after chip made received) n ≡ word_of chip n
same_word chip (Read r) received n e le = ap (λ (ws : List ℕ). slice_index ws n) (read_words chip r)
same_word chip (Write r v) received n e le = ap (λ (ws : List ℕ). slice_index ws n) (write_words chip r v received)
same_word chip (Load k) received n e le = refl
same_word chip (Store k v) received n e le = stored chip.words k v n (omega (arith, lt_is k USERS e, le))
same_word chip Mask received n e le = refl
same_word chip Unmask received n e le = refl
same_word chip (Note m) received n e le = refl
same_word chip (Report f) received n e le = refl

pub arrays_kept : (t : Tables SpiTable) (chip : Chip) (s : SystemState SpiState) (made : Move) (received : ℕ) → keeps_arrays made ≡ true → ArraysStand t chip s → ArraysStand t (chip_after chip made received) s
arrays_kept t chip s made received e h c = record {
  source = λ i lt. same_word chip made received (139776 + 64 * c + i) e (omega arith) ∙ (h c).source i lt;
  destination = λ i lt. same_word chip made received (140800 + 64 * c + i) e (omega arith) ∙ (h c).destination i lt;
}

pub rests_kept : (t : Tables SpiTable) (chip : Chip) (s : SystemState SpiState) (made : Move) (received : ℕ) → keeps_registers made ≡ true → keeps_arrays made ≡ true → Rests t chip s → Rests t (chip_after chip made received) s
rests_kept t chip s made received e f h =
    let x = same_registers chip made received e in
    record {
      ram = subst (λ (ws : List ℕ). RamAgrees ws s.0.0.0) (sym x.ram) h.ram;
      pins = subst (λ (b : pins.Pins). PinsAgree b s.0.1.0) (sym x.pins) h.pins;
      stamps = λ c some i lt. same_word chip made received (139264 + 64 * c + i) f (omega arith) ∙ h.stamps c some i lt;
      results = λ g b p lt. same_word chip made received (73728 + 2048 * (2 * g + buffer_number b) + p) f (omega arith) ∙ h.results g b p lt;
      arrays = arrays_kept t chip s made received f h.arrays;
    }
