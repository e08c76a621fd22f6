-- Words that began by now: time and the change of one unit keep it.
use Rattle.std.proofs.Common.{ℕ, zero, suc, ◌+◌, Option, Some, None, List, [], ◌∷◌, slice_index_or, slice_set, arith}
use Rattle.chip_blocks.specs.declared.units.serial.Word.{Word}
use Rattle.chip_blocks.specs.declared.units.serial.Serial.{Serial}
use Rattle.chip_blocks.specs.units.Serials.{HasBegun, AreBegun, idle}

pub begun-at : (now : ℕ) (us : List Serial) (u : ℕ) → AreBegun now us → HasBegun now (slice_index_or us u idle).word
begun-at now [] u h = tt
begun-at now (s ∷ us) zero h = h.0
begun-at now (s ∷ us) (suc u) h = begun-at now us u h.1

pub begun-set : (now : ℕ) (us : List Serial) (u : ℕ) (s : Serial) → AreBegun now us → HasBegun now s.word → AreBegun now (slice_set us u s)
begun-set now [] u s h k = tt
begun-set now (x ∷ us) zero s h k = (k, h.1)
begun-set now (x ∷ us) (suc u) s h k = (h.0, begun-set now us u s h.1 k)

word-later : (now n : ℕ) (w : Option Word) → HasBegun now w → HasBegun (now + n) w
word-later now n None h = tt
word-later now n (Some w) h = omega (arith, h)

pub begun-later : (now n : ℕ) (us : List Serial) → AreBegun now us → AreBegun (now + n) us
begun-later now n [] h = tt
begun-later now n (s ∷ us) h = (word-later now n s.word h.0, begun-later now n us h.1)
