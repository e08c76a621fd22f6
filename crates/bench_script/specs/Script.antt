-- The directives of a script.
use Rattle.std.specs.Prelude.{◌≡◌, ℕ, ◌+◌, nat_lt, List, [], ◌∷◌, ◌++◌, length, Option, Some, None, Result, Ok, Err, if◌then◌else◌}
use Rattle.std.specs.Str.Lines.{lines}
use Rattle.mcal_base.specs.declared.directive.Directive.{Directive}
use Rattle.mcal_base.specs.declared.directive.Order.{Order}
use Rattle.bench_script.specs.Faults.{at_line}
use Rattle.bench_script.specs.Lines.{before_comment, is_text, words_of}
use Rattle.bench_script.specs.Orders.{order_of}
use Rattle.bench_script.specs.Steps.{◌>>=◌, prepended}
use Rattle.bench_script.specs.declared.fault.LineFault.{LineFault}
use Rattle.bench_script.specs.declared.fault.LineFault.TheVariants.{NotText}
use Rattle.bench_script.specs.declared.fault.ScriptFault.{ScriptFault}
use Rattle.bench_script.specs.declared.fault.ScriptFault.TheVariants.{Long, NoMemory}

-- the order of a line, if it holds one, or the first reason why the line is refused
abbrev pub read_line : List ℕ → Result (Option Order) LineFault
read_line line = if is_text (before_comment line) then order_of (words_of (before_comment line)) else Err NotText

-- the same in a script
abbrev pub numbered : {X : Type 0} → ℕ → Result X LineFault → Result X ScriptFault
numbered number (Ok order) = Ok order
numbered number (Err fault) = Err (at_line fault number)

-- the fault of a line for whose directive there is no room
abbrev pub too_many : ℕ → Result Order LineFault → ScriptFault
too_many number (Ok order) = Long number
too_many number (Err fault) = at_line fault number

-- The directives of a line and of those after it, which are given by how many directives come before them.
-- A directive that is the 50,001st is refused.
abbrev pub with_rest : ℕ → ℕ → (ℕ → Result (List Directive) ScriptFault) → Option Order → Result (List Directive) ScriptFault
with_rest number count rest None = rest count
with_rest number count rest (Some order) =
    if nat_lt count 50000 then (do
      directives ← rest (count + 1)
      Ok (record { line = number; order = order } ∷ directives))
    else Err (Long number)

-- the directives of lines, the first of which has the number, after so many directives
abbrev pub directives_from : ℕ → ℕ → List (List ℕ) → Result (List Directive) ScriptFault
directives_from number count [] = Ok []
directives_from number count (line ∷ others) = do
  order ← numbered number (read_line line)
  with_rest number count (λ n. directives_from (number + 1) n others) order

-- the directives of a script, or its first fault
abbrev pub script : List ℕ → Result (List Directive) ScriptFault
script text = directives_from 1 0 (lines text)

-- A line that is read as told, and whose directive is kept, ends so: what it adds stands before what the lines after it give.
-- It may end for want of memory.
abbrev pub KeepsLine : {A : Type 0} → Result A ScriptFault → List Directive → List Directive → ℕ → Result (Option Order) LineFault → Type 0
KeepsLine (Err NoMemory) old new number read = Unit {0}
KeepsLine (Err fault) old new number read = (rest : ℕ → Result (List Directive) ScriptFault) → (numbered number read >>= with_rest number (length old) rest) ≡ Err fault
KeepsLine (Ok done) old new number read = (added : List Directive) × (new ≡ old ++ added) × ((rest : ℕ → Result (List Directive) ScriptFault) → (numbered number read >>= with_rest number (length old) rest) ≡ prepended added (rest (length new)))

-- a reading of a script ends so
abbrev pub GivesScript : {V : Type 0} → (V → List Directive) → Result V ScriptFault → List ℕ → Type 0
GivesScript items (Err NoMemory) text = Unit {0}
GivesScript items (Err fault) text = script text ≡ Err fault
GivesScript items (Ok directives) text = script text ≡ Ok (items directives)
