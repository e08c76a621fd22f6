-- How what a program makes of a deed stands for what a machine makes of it.
use Rattle.std.specs.Prelude.{◌≡◌, ℕ, Bool, Option, Some, None, option_map}
use Rattle.run_model.specs.Machine.{Begun, Machine, Outcome, Told, outcome_with, tells_nothing}
use Rattle.audit_base.specs.declared.done.Begun as code
use Rattle.audit_base.specs.declared.done.Done.{Done}

-- A machine, with the lines that its configured objects use.
pub record Member (State Call : Type 0) : Type 0 where
  pub machine : Machine State Call
  pub lines : (line : ℕ) → Bool

-- a word that begins, as machines have it
abbrev pub begun_of : code.Begun → Begun
begun_of b = record { unit = b.unit; word = b.word; width = b.width; device = b.device }

-- it tells this, and no word begins
abbrev pub quiet : Told → Done
quiet t = record { told = t; begins = None }

-- a word begins, and nothing is told
abbrev pub beginning : code.Begun → Done
beginning b = record { told = tells_nothing; begins = Some b }

-- what comes of a deed that was done so, in this state
abbrev pub came : {State : Type 0} → State → Done → Outcome State
came s d = outcome_with s d.told (option_map begun_of d.begins)

-- it tells this and begins this word, and what is kept stands for the state that comes of it
pub record IsDone {State : Type 0} (stands : State → Type 0) (done : Done) (out : Outcome State) : Type 0 where
  pub told : done.told ≡ out.told
  pub begins : option_map begun_of done.begins ≡ out.begins
  pub kept : stands out.state

-- It is done so where it is allowed; where it is refused, what is kept stands for the state as it was.
abbrev pub Follows : {State : Type 0} → (stands : State → Type 0) → (before : State) → Option Done → Option (Outcome State) → Type 0
Follows stands s None None = stands s
Follows stands s None (Some out) = ⊥
Follows stands s (Some done) None = ⊥
Follows stands s (Some done) (Some out) = IsDone stands done out
