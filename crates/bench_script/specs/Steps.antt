-- One step after another, each of which may fail.
use Rattle.std.specs.Prelude.{Result, Ok, Err, List, ◌++◌}

infixl 10 ◌>>=◌
abbrev pub ◌>>=◌ : {A B E : Type 0} → Result A E → (A → Result B E) → Result B E
(Ok x) >>= f = f x
(Err e) >>= f = Err e

-- a list behind what came before it
abbrev pub prepended : {A E : Type 0} → List A → Result (List A) E → Result (List A) E
prepended xs (Ok ys) = Ok (xs ++ ys)
prepended xs (Err e) = Err e

-- what a function gives that writes its answer to a place
abbrev pub put : {X A F : Type 0} → Result A F → X → Result X F
put (Ok a) x = Ok x
put (Err fault) x = Err fault
