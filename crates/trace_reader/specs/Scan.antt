-- What a text begins with, piece by piece: numbers, registers, moves and events, and what is behind each.
use Rattle.std.specs.Prelude.{◌≡◌, ℕ, All, List, ◌++◌, Option, codes, decimal}
use Rattle.mcal_base.specs.declared.moves.Event.{Event}
use Rattle.mcal_base.specs.declared.moves.Move.{Move}
use Rattle.mcal_base.specs.declared.register.Reg.{Reg}
use Rattle.bench_report.specs.Lines.{event_text, move_text}
use Rattle.bench_report.specs.Numbers.{HasEventNumber, HasMoveNumbers, HasNumbers, IsNumber}
use Rattle.bench_report.specs.Registers.{register_text}
use Rattle.trace_reader.specs.declared.front.Named.{Named}

-- a number as it is printed, and what is behind it
pub record IsFirst (bytes : List ℕ) (n : ℕ) (rest : List ℕ) : Type 0 where
  pub text : bytes ≡ decimal n ++ rest
  pub fits : IsNumber n

-- behind these bytes this name makes a register
pub record IsSpelled (front name : List ℕ) (register : Reg) : Type 0 where
  pub text : register_text register ≡ front ++ name
  pub numbers : HasNumbers register

-- behind these bytes each name of a list makes its register
pub record AreSpelled (front : List ℕ) (names : List Named) : Type 0 where
  pub each : All (λ n. IsSpelled front n.0.now n.1) names

-- behind these bytes others make a register, and this is behind it
pub record Spells (front bytes : List ℕ) (register : Reg) (rest : List ℕ) : Type 0 where
  pub text : front ++ bytes ≡ register_text register ++ rest
  pub numbers : HasNumbers register

-- bytes begin with a name of a list: behind all others where the names make their registers they make this one
pub record IsNamed (names : List Named) (bytes : List ℕ) (register : Reg) (rest : List ℕ) : Type 0 where
  pub spells : (front : List ℕ) → AreSpelled front names → Spells front bytes register rest

-- a register and a value
pub record IsAccess (bytes : List ℕ) (register : Reg) (given : ℕ) (rest : List ℕ) : Type 0 where
  pub text : bytes ≡ register_text register ++ (codes " " ++ (decimal given ++ rest))
  pub numbers : HasNumbers register
  pub value : IsNumber given

-- a driver word and a value
pub record IsWord (bytes : List ℕ) (place given : ℕ) (rest : List ℕ) : Type 0 where
  pub text : bytes ≡ decimal place ++ (codes " " ++ (decimal given ++ rest))
  pub word : IsNumber place
  pub value : IsNumber given

-- a move with the value that it gave
pub record IsMove (bytes : List ℕ) (made : Move) (given : ℕ) (rest : List ℕ) : Type 0 where
  pub text : bytes ≡ move_text made given ++ rest
  pub numbers : HasMoveNumbers made
  pub value : IsNumber given

-- an event, or none
pub record IsMarked (bytes : List ℕ) (event : Option Event) (rest : List ℕ) : Type 0 where
  pub text : bytes ≡ event_text event ++ rest
  pub number : HasEventNumber event
