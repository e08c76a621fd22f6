-- What a step of a routine over driver words is on a chip.
use Rattle.std.specs.Prelude.{◌≡◌, ℕ, ◌<◌, Bool, true, None, List, length}
use Rattle.mcal_base.specs.declared.TheConstants.{WORDS}
use Rattle.chip_model.specs.Chip.{Chip, word_of, value_of, chip_after}
use Rattle.chip_model.specs.Histories.{Happening, LeavesWord}
use Rattle.word_shapes.specs.Playing.{Memory, Play, Either, Ends, Agree}

-- the chip has all its driver words
abbrev pub HasWords : Chip → Type 0
HasWords chip = length chip.words ≡ WORDS

-- these words are driver words
abbrev pub AreThere : (ℕ → Bool) → Type 0
AreThere own = (k : ℕ) → own k ≡ true → k < WORDS

-- the test of words and numbers looks at these words alone
abbrev pub LooksAt : (ℕ → Bool) → (Memory → List ℕ → Bool) → Type 0
LooksAt own done = (m k : Memory) (numbers : List ℕ) → Agree own m k → done m numbers ≡ done k numbers

-- the happening leaves these words as they are
abbrev pub Leaves : (ℕ → Bool) → Happening → Type 0
Leaves own x = (k : ℕ) → own k ≡ true → LeavesWord k x

-- The routine's next step on the chip, at which this word comes in, has no event. It ended with it, and this holds of
-- the words that it left and of what it gave, or it ends so within so many moves more.
abbrev pub StepsTo : {R : Type 0} → Play R → (ℕ → Bool) → ℕ → R → Chip → (received : ℕ) → (Memory → List ℕ → Type 0) → Type 0
StepsTo p own n r chip received Done =
    let value = value_of chip (p.move_of r) in
    let later = word_of (chip_after chip (p.move_of r) received) in
    ((p.gave r value).event ≡ None) × Either (p.gave r value).ended (Ends p own n (p.left r value) later Done) (Done later)
