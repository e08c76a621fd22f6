-- The arguments of a service, as words of a script.
use Rattle.std.specs.Prelude.{ℕ, nat_le, List, [], ◌∷◌, Option, Some, None, Result, Ok, Err, codes, bytes_eq, if◌then◌else◌}
use Rattle.mcal_base.specs.Names.{argument_text}
use Rattle.mcal_base.specs.declared.argument_name.ArgumentName.{ArgumentName}
use Rattle.mcal_base.specs.declared.argument_name.ArgumentName.TheVariants as names
use Rattle.mcal_base.specs.declared.directive.Argument.{Argument}
use Rattle.mcal_base.specs.declared.directive.Argument.TheVariants.{Number, Name}
use Rattle.bench_script.specs.Numbers.{numeral, number_up_to}
use Rattle.bench_script.specs.Steps.{◌>>=◌}
use Rattle.bench_script.specs.Tables.{names_of}
use Rattle.bench_script.specs.Words.{named}
use Rattle.bench_script.specs.declared.fault.LineFault.{LineFault}
use Rattle.bench_script.specs.declared.fault.LineFault.TheVariants as faults
use Rattle.bench_script.specs.declared.tables.Kind.{Kind}
use Rattle.bench_script.specs.declared.tables.Kind.TheVariants as kinds
use Rattle.bench_script.specs.declared.tables.NameSet.{NameSet}

-- an argument that is a number of at most so much
abbrev pub number : ℕ → List ℕ → Result Argument LineFault
number most word = do
  n ← number_up_to most word
  Ok (Number n)

-- an argument that is a name
abbrev pub known : Option ArgumentName → Result Argument LineFault
known None = Err faults.Word
known (Some n) = Ok (Name n)

abbrev pub name : NameSet → List ℕ → Result Argument LineFault
name set word = known (named argument_text (names_of set) word)

-- an argument that is a result buffer: a numeral of value 0 or 1, or null
abbrev pub buffer_of : Option ℕ → List ℕ → Result Argument LineFault
buffer_of (Some n) word = if nat_le n 1 then Ok (Number n) else Err faults.Number
buffer_of None word = if bytes_eq word (codes "null") then Ok (Name names.Null) else Err faults.Word

abbrev pub buffer : List ℕ → Result Argument LineFault
buffer word = buffer_of (numeral word) word

-- the argument that a word is
abbrev pub argument : Kind → List ℕ → Result Argument LineFault
argument (kinds.Number most) word = number most word
argument (kinds.Name set) word = name set word
argument kinds.Buffer word = buffer word

-- the arguments that words are, from the left
abbrev pub arguments : List Kind → List (List ℕ) → Result (List Argument) LineFault
arguments (k ∷ ks) (w ∷ ws) = do
  a ← argument k w
  others ← arguments ks ws
  Ok (a ∷ others)
arguments _ _ = Ok []
