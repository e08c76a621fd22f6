-- Parts of the moves that a window owes: a routine of an order or of banks, and moves in their order.
use Rattle.std.specs.Prelude.{◌≡◌, ℕ, true, false, Bool, List, [], ◌∷◌, Option, Some, None}
use Rattle.chip_model.specs.Chip.{Chip, word_of, chip_after}
use Rattle.mcal_base.specs.declared.answer.Answer.{Answer}
use Rattle.mcal_base.specs.declared.moves.Move.{Move}
use Rattle.service_outline.specs.DeferredWrites.{DeferredWrites, CommitsTo}
use Rattle.word_shapes.specs.Playing.{Play, NamesOwn}
use Rattle.shapes_on_chip.specs.OnChip.{HasWords}

-- what is owed after a step of the part, by whether the part ended with it
abbrev pub PartTo : {R Owed : Type 0} → Play R → DeferredWrites Owed → (R → Owed) → (List ℕ → Option Owed) → R → ℕ → Option Answer → Type 0
PartTo q p into next r v None = p.left (into r) v ≡ Some (into (q.left r v))
PartTo q p into next r v (Some a) = p.left (into r) v ≡ next a.words

-- what is owed begins with the routine's moves, and then comes this with what the routine gave
pub record IsPart {R Owed : Type 0} (q : Play R) (own : ℕ → Bool) (p : DeferredWrites Owed) (into : R → Owed) (next : List ℕ → Option Owed) : Type 0 where
  pub moves : (r : R) → p.move (into r) ≡ q.move_of r
  pub steps : (r : R) (v : ℕ) → PartTo q p into next r v (q.gave r v).ended
  pub named : (made : Move) → NamesOwn own made → p.own made ≡ true
  pub fits : (r : R) (chip : Chip) → p.fits (into r) chip

-- the second chip differs from the first in these words alone
pub record DiffersIn (own : ℕ → Bool) (before later : Chip) : Type 0 where
  pub rest : later ≡ record before { words = later.words }
  pub whole : HasWords later
  pub others : (k : ℕ) → own k ≡ false → word_of later k ≡ word_of before k

-- from this chip all that is owed is made, if anything is, and then this holds of it
abbrev pub CommitsAfter : {Owed : Type 0} → DeferredWrites Owed → Option Owed → Chip → (Chip → Type 0) → Type 0
CommitsAfter p None chip Done = Done chip
CommitsAfter p (Some x) chip Done = (n : ℕ) × CommitsTo p n x chip Done

-- ---- moves in their order

-- what is owed begins with this move, and then comes this, whatever it gave
abbrev pub Begins : {Owed : Type 0} → DeferredWrites Owed → Option Owed → Move → Option Owed → Type 0
Begins p None made later = ⊥
Begins p (Some x) made later = (p.move x ≡ made) × ((value : ℕ) → p.left x value ≡ later)

-- what is owed are the moves of these, one after the other, and nothing after them
pub record AreListed {A Owed : Type 0} (p : DeferredWrites Owed) (made : A → Move) (owed : List A → Option Owed) : Type 0 where
  pub none : owed [] ≡ None
  pub next : (a : A) (rest : List A) → Begins p (owed (a ∷ rest)) (made a) (owed rest)

-- the chip after them
abbrev pub after_list : {A : Type 0} → (A → Move) → Chip → List A → Chip
after_list made chip [] = chip
after_list made chip (a ∷ rest) = after_list made (chip_after chip (made a) 0) rest

-- each may be made where it comes
abbrev pub MayBegin : {Owed : Type 0} → DeferredWrites Owed → Option Owed → Chip → Type 0
MayBegin p None chip = Unit {0}
MayBegin p (Some x) chip = (p.own (p.move x) ≡ true) × p.fits x chip

abbrev pub AllMay : {A Owed : Type 0} → DeferredWrites Owed → (A → Move) → (List A → Option Owed) → Chip → List A → Type 0
AllMay p made owed chip [] = Unit {0}
AllMay p made owed chip (a ∷ rest) = MayBegin p (owed (a ∷ rest)) chip × AllMay p made owed (chip_after chip (made a) 0) rest
