-- Histories of accesses of the pin block and the RAM words, and what in them leaves a pin and a word alone.
use Rattle.std.specs.Prelude.{◌≡◌, ◌≢◌, ℕ, ◌+◌, ◌/◌, ◌%◌, ◌^◌, ◌<◌, ◌⊎◌, false, List, [], ◌∷◌}
use Rattle.mcal_base.specs.Bits.{has_bit}
use Rattle.mcal_base.specs.declared.register.Reg.{Reg}
use Rattle.mcal_base.specs.declared.register.Reg.TheVariants.{PinOutSet, PinOutClear, PortPut, Ram}
use Rattle.chip_blocks.specs.units.Pins as pins
use Rattle.chip_blocks.specs.units.Ram as ram

-- An access of the pin block: a write of a register, or a read that inverts a pin.
pub data PinAccess : Type 0 where
  Writes : Reg → (value : ℕ) → PinAccess
  Flips : (p : ℕ) → PinAccess

-- what it leaves
abbrev pub pins_step : pins.Pins → PinAccess → pins.Pins
pins_step b (Writes r value) = pins.after_write b r value
pins_step b (Flips p) = pins.flip b p

-- the pin block after a history of accesses, the first one first
abbrev pub pins_after : pins.Pins → List PinAccess → pins.Pins
pins_after b [] = b
pins_after b (x ∷ xs) = pins_after (pins_step b x) xs

-- the RAM words after a history of writes likewise
abbrev pub ram_after : List ℕ → List (Reg × ℕ) → List ℕ
ram_after words [] = words
ram_after words (x ∷ xs) = ram_after (ram.after_write words x.0 x.1) xs

-- these bits of a half leave the pin alone: they are those of the other half, or the pin's is 0
abbrev pub Spares : (p half bits : ℕ) → Type 0
Spares p half bits = (half ≢ p / 32) ⊎ (has_bit bits (p % 32) ≡ false)

-- a word that is put to a port leaves the pin alone: it is another port's, or the pin's bit of the mask is 0
abbrev pub PutSpares : (p q word : ℕ) → Type 0
PutSpares p q word = (q ≢ p / 8) ⊎ (has_bit word (8 + p % 8) ≡ false)

-- leaves the latch of the pin alone
abbrev pub LeavesLatch : ℕ → PinAccess → Type 0
LeavesLatch p (Writes (PinOutSet half) bits) = Spares p half bits
LeavesLatch p (Writes (PinOutClear half) bits) = (bits < 2 ^ 32) × Spares p half bits
LeavesLatch p (Writes (PortPut q) word) = PutSpares p q word
LeavesLatch p (Flips other) = other ≢ p
LeavesLatch p _ = Unit {0}

-- leaves the word alone
abbrev pub LeavesWord : ℕ → (Reg × ℕ) → Type 0
LeavesWord k (Ram j, value) = j ≢ k
LeavesWord k _ = Unit {0}
