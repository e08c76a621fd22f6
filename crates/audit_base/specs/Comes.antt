-- What a deed of a program comes to in the machine, where the program keeps something that stands for the machine's state.
use Rattle.std.specs.Prelude.{◌≡◌, Option, Some, None}
use Rattle.run_model.specs.Machine.{Outcome, Told}

-- it tells this, begins no word, and what is kept stands for its state
pub record Gives {State : Type 0} (stands : State → Type 0) (said : Told) (out : Outcome State) : Type 0 where
  pub told : said ≡ out.told
  pub wordless : out.begins ≡ None
  pub kept : stands out.state

-- it is allowed, and gives this
abbrev pub Comes : {State : Type 0} → (stands : State → Type 0) → Told → Option (Outcome State) → Type 0
Comes stands said None = ⊥
Comes stands said (Some out) = Gives stands said out

-- it gives this where it is allowed, and is refused where it isn't
abbrev pub ComesIf : {State : Type 0} → (stands : State → Type 0) → Option Told → Option (Outcome State) → Type 0
ComesIf stands None None = Unit {0}
ComesIf stands None (Some out) = ⊥
ComesIf stands (Some said) None = ⊥
ComesIf stands (Some said) (Some out) = Gives stands said out
