-- What contracts see of a device, and of a rack of them.
use Rattle.std.specs.Prelude.{Ok, Err, Some, ◌≡◌, ◌==◌, if◌then◌else◌, ℕ, Result, List, [], ◌∷◌, ◌++◌, Option, option_map, slice_get, slice_set}
use Rattle.mcal_base.specs.Causes.{HasCause}

-- A device: its count of faults and, where it keeps them, the words of its exchanges that succeeded, each with its answer.
pub record Line : Type 0 where
  pub faults : ℕ
  pub pairs : Option (List (ℕ × ℕ))

-- the pairs, and more of them
abbrev pub extended : Option (List (ℕ × ℕ)) → List (ℕ × ℕ) → Option (List (ℕ × ℕ))
extended known more = option_map (λ ps. ps ++ more) known

-- what an exchange adds to the pairs
abbrev pub pairs_of_answer : {E : Type 0} → ℕ → Result ℕ E → List (ℕ × ℕ)
pairs_of_answer word (Ok answer) = (word, answer) ∷ []
pairs_of_answer word (Err e) = []

-- a word that comes in, as the device's answer: 65,536 says that it refused the exchange
abbrev pub answered : (received : ℕ) → Result ℕ (Unit {0})
answered received = if received == 65536 then Err tt else Ok received

-- one exchange of a word
pub record Exchanged {E : Type 0} (old new : Line) (word : ℕ) (result : Result ℕ E) : Type 0 where
  pub pairs : new.pairs ≡ extended old.pairs (pairs_of_answer word result)
  pub cause : HasCause old.faults new.faults result

-- one exchange of a word with the device at this place; the others stay
pub record CallsOne {E : Type 0} (old new : List Line) (place word : ℕ) (result : Result ℕ E) : Type 0 where
  pub was : Line
  pub now : Line
  pub found : slice_get old place ≡ Some was
  pub exchanged : Exchanged was now word result
  pub rest : new ≡ slice_set old place now
