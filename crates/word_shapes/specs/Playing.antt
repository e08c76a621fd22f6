-- A routine that runs over driver words while nothing else stores to them.
use Rattle.std.specs.Prelude.{◌≡◌, ℕ, zero, suc, Bool, true, ◌==◌, if◌then◌else◌, List, Option, Some, None}
use Rattle.mcal_base.specs.declared.answer.Answer.{Answer}
use Rattle.mcal_base.specs.declared.answer.Head.TheVariants.{Numbers}
use Rattle.mcal_base.specs.declared.moves.Move.{Move}
use Rattle.mcal_base.specs.declared.moves.Move.TheVariants.{Load, Store}
use Rattle.mcal_base.specs.declared.routine.Taken.{Taken}

-- ---- driver words

-- what stands in each driver word
abbrev pub Memory : Type 0
Memory = ℕ → ℕ

-- after a store
abbrev pub stored : Memory → ℕ → ℕ → Memory
stored m k value = λ j. if j == k then value else m j

-- what a move gives, and what it leaves
abbrev pub given : Memory → Move → ℕ
given m (Load k) = m k
given m _ = 0

abbrev pub after : Memory → Move → Memory
after m (Store k value) = stored m k value
after m _ = m

-- the move is a load or a store of one of these words
abbrev pub NamesOwn : (ℕ → Bool) → Move → Type 0
NamesOwn own (Load k) = own k ≡ true
NamesOwn own (Store k value) = own k ≡ true
NamesOwn own _ = ⊥

-- ---- routines

-- what a routine does: its next move, what a step makes of it, and what stands at that step
pub record Play (R : Type 0) : Type 0 where
  pub move_of : R → Move
  pub left : R → ℕ → R
  pub gave : R → ℕ → Taken

-- a step that goes on, and one that ended with numbers
abbrev pub goes : Taken
goes = record { event = None; ended = None }

abbrev pub gives : List ℕ → Taken
gives words = record { event = None; ended = Some (record { head = Numbers; words = words }) }

-- what holds after a step, by whether the routine ended
abbrev pub Either : Option Answer → Type 0 → (List ℕ → Type 0) → Type 0
Either None going ended = going
Either (Some a) going ended = (a.head ≡ Numbers) × ended a.words

-- Where only its own moves change these words, the routine ends with numbers within so many moves, all of them loads
-- and stores of its own words without an event, and this holds of the words that it leaves and of what it gives.
abbrev pub Ends : {R : Type 0} → Play R → (ℕ → Bool) → ℕ → R → Memory → (Memory → List ℕ → Type 0) → Type 0
Ends p own zero r m Done = ⊥
Ends p own (suc n) r m Done =
    NamesOwn own (p.move_of r)
    × ((p.gave r (given m (p.move_of r))).event ≡ None)
    × Either (p.gave r (given m (p.move_of r))).ended
    (Ends p own n (p.left r (given m (p.move_of r))) (after m (p.move_of r)) Done)
    (Done (after m (p.move_of r)))

-- two memories have the same in these words
abbrev pub Agree : (ℕ → Bool) → Memory → Memory → Type 0
Agree own m n = (k : ℕ) → own k ≡ true → m k ≡ n k
