-- The channels of a state, by number.
-- From module_machines: icu.Channels.
-- Used by Steady, Stamp.
use Rattle.std.proofs.Common.{◌≡◌, ℕ, ◌<◌, ◌≤◌, [], ◌∷◌, refl, arith}
use Rattle.std.specs.Prelude.{slice_index_or}
use Rattle.chip_model.specs.Chip.{Chip, word_of}
use Rattle.module_machines.specs.icu.laws.Channels.{by_eight}
use Rattle.icu_driver.specs.Refinement.{marks_of}
use Rattle.icu_driver.specs.Words.{word}
use Rattle.icu_driver.specs.declared.words.TheConstants.{STATE, MARKS}

-- words that are the same give the same list of marks
pub same_marks : (at at1 : ℕ → ℕ) → ((j : ℕ) → STATE ≤ j → j < 32832 → at j ≡ at1 j) → at (word MARKS 0) ∷ at (word MARKS 1) ∷ at (word MARKS 2) ∷ at (word MARKS 3) ∷ at (word MARKS 4) ∷ at (word MARKS 5) ∷ at (word MARKS 6) ∷ at (word MARKS 7) ∷ [] ≡ at1 (word MARKS 0) ∷ at1 (word MARKS 1) ∷ at1 (word MARKS 2) ∷ at1 (word MARKS 3) ∷ at1 (word MARKS 4) ∷ at1 (word MARKS 5) ∷ at1 (word MARKS 6) ∷ at1 (word MARKS 7) ∷ []
same_marks at at1 e = rw (e (word MARKS 0) (omega arith) (omega arith), e (word MARKS 1) (omega arith) (omega arith), e (word MARKS 2) (omega arith) (omega arith), e (word MARKS 3) (omega arith) (omega arith), e (word MARKS 4) (omega arith) (omega arith), e (word MARKS 5) (omega arith) (omega arith), e (word MARKS 6) (omega arith) (omega arith), e (word MARKS 7) (omega arith) (omega arith)) refl

-- the mark of a channel, in the list
pub mark_in : (chip : Chip) (c : ℕ) → c < 8 → slice_index_or (marks_of chip) c 0 ≡ word_of chip (word MARKS c)
mark_in chip c lt = by_eight (λ i. slice_index_or (marks_of chip) i 0 ≡ word_of chip (word MARKS i)) refl refl refl refl refl refl refl refl c lt
