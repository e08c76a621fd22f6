-- What a latch and a RAM word are after a history of accesses.
use Rattle.std.proofs.Common.{◌≡◌, ℕ, ◌+◌, ◌/◌, ◌%◌, ◌^◌, ◌<◌, ◌≢◌, true, false, not, List, [], ◌∷◌, length, refl, sym, ◌∙◌, arith, get_or-set_same, get_or-set_other}
use Rattle.std.specs.List.{AllByRecursion}
use Rattle.mcal_base.specs.Bits.{has_bit}
use Rattle.mcal_base.specs.declared.register.Reg.{Reg}
use Rattle.mcal_base.specs.declared.register.Reg.TheVariants.{PinDirectionSet, PinDirectionClear, PinOutSet, PinOutClear, PinMode, PortPut, Ram}
use Rattle.chip_blocks.specs.units.Pins.{Pins, is_out, latch}
use Rattle.chip_blocks.specs.units.Pins as pins
use Rattle.chip_blocks.specs.units.Ram as ram
use Rattle.chip_blocks.specs.units.WriteHistories.{PinAccess, Writes, Flips, pins_step, pins_after, ram_after, LeavesLatch, LeavesWord}
use Rattle.chip_blocks.proofs.of_units.WriteLaws.{half_of_pin, half_or_not, bit_at-set, bit_at-clear, set-spared, clear-spared}
use Rattle.chip_blocks.proofs.of_units.PortLaws.{put-named, put-spared, flip-named, flip-other}

-- ---- latches

written-left : (b : Pins) (p : ℕ) (r : Reg) (value : ℕ) → LeavesLatch p (Writes r value) → latch (pins.after_write b r value) p ≡ latch b p
written-left b p (PinDirectionSet half) value left = refl
written-left b p (PinDirectionClear half) value left = refl
written-left b p (PinOutSet half) value left = set-spared b.latches p half value (half_or_not half p) left
written-left b p (PinOutClear half) value left = clear-spared b.latches p half value left.0 (half_or_not half p) left.1
written-left b p (PinMode q) value left = refl
written-left b p (PortPut q) value left = put-spared b p q value left
written-left b p _ value left = refl

latch-left : (b : Pins) (p : ℕ) (x : PinAccess) → LeavesLatch p x → latch (pins_step b x) p ≡ latch b p
latch-left b p (Writes r value) left = written-left b p r value left
latch-left b p (Flips q) left = flip-other b p q left

latch-left_all : (b : Pins) (p : ℕ) (xs : List PinAccess) → AllByRecursion (LeavesLatch p) xs → latch (pins_after b xs) p ≡ latch b p
latch-left_all b p [] left = refl
latch-left_all b p (x ∷ xs) left = latch-left_all (pins_step b x) p xs left.1 ∙ latch-left b p x left.0

pub latch-set : (b : Pins) (p bits : ℕ) (xs : List PinAccess) → p < 64 → length b.latches ≡ 2 → has_bit bits (p % 32) ≡ true → AllByRecursion (LeavesLatch p) xs
    → latch (pins_after (pins.after_write b (PinOutSet (p / 32)) bits) xs) p ≡ true
latch-set b p bits xs lt size on left =
    let within : p / 32 < length b.latches = rw size (half_of_pin p lt) in
    latch-left_all (pins.after_write b (PinOutSet (p / 32)) bits) p xs left ∙ bit_at-set b.latches p bits within on

pub latch-clear : (b : Pins) (p bits : ℕ) (xs : List PinAccess) → p < 64 → length b.latches ≡ 2 → bits < 2 ^ 32 → has_bit bits (p % 32) ≡ true → AllByRecursion (LeavesLatch p) xs
    → latch (pins_after (pins.after_write b (PinOutClear (p / 32)) bits) xs) p ≡ false
latch-clear b p bits xs lt size fits on left =
    let within : p / 32 < length b.latches = rw size (half_of_pin p lt) in
    latch-left_all (pins.after_write b (PinOutClear (p / 32)) bits) p xs left ∙ bit_at-clear b.latches p bits within fits on

pub latch-put : (b : Pins) (p word : ℕ) (xs : List PinAccess) → p < 64 → length b.latches ≡ 2 → is_out b p ≡ true → has_bit word (8 + p % 8) ≡ true
    → AllByRecursion (LeavesLatch p) xs → latch (pins_after (pins.after_write b (PortPut (p / 8)) word) xs) p ≡ has_bit word (p % 8)
latch-put b p word xs lt size out on left = latch-left_all (pins.put b (p / 8) word) p xs left ∙ put-named b p word lt size out on

pub latch-flip : (b : Pins) (p : ℕ) (xs : List PinAccess) → p < 64 → length b.latches ≡ 2 → is_out b p ≡ true → AllByRecursion (LeavesLatch p) xs
    → latch (pins_after (pins.flip b p) xs) p ≡ not (latch b p)
latch-flip b p xs lt size out left = latch-left_all (pins.flip b p) p xs left ∙ flip-named b p lt size out

-- ---- RAM words

pub word-left : (words : List ℕ) (k : ℕ) (r : Reg) (value : ℕ) → LeavesWord k (r, value) → ram.word_of (ram.after_write words r value) k ≡ ram.word_of words k
word-left words k (Ram j) value left = let ne : k ≢ j = λ e. left (sym e) in get_or-set_other words j k value 0 ne
word-left words k _ value left = refl

pub word-left_all : (words : List ℕ) (k : ℕ) (xs : List (Reg × ℕ)) → AllByRecursion (LeavesWord k) xs → ram.word_of (ram_after words xs) k ≡ ram.word_of words k
word-left_all words k [] left = refl
word-left_all words k (x ∷ xs) left = word-left_all (ram.after_write words x.0 x.1) k xs left.1 ∙ word-left words k x.0 x.1 left.0

pub word-written : (words : List ℕ) (k value : ℕ) (xs : List (Reg × ℕ)) → k < 512 → length words ≡ 512 → AllByRecursion (LeavesWord k) xs
    → ram.word_of (ram_after (ram.after_write words (Ram k) value) xs) k ≡ value
word-written words k value xs lt size left =
    let within : k < length words = omega (arith, size) in
    word-left_all (ram.after_write words (Ram k) value) k xs left ∙ get_or-set_same words k value 0 within
