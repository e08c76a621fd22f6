-- A script's lines, one after another.
use Rattle.std.proofs.Common.{◌≡◌, ℕ, ◌+◌, List, [], ◌∷◌, ◌++◌, length, length-append, Option, Some, true, false, refl, subst, ◌∙◌, ap, append_assoc, get_or, set}
use Rattle.std.proofs.Math.Seq.{get_or-append_seam, set-append_seam}
use Rattle.std.specs.Prelude.{Result, Ok, Err, nat_lt}
use Rattle.mcal_base.specs.declared.directive.Directive.{Directive}
use Rattle.mcal_base.specs.declared.directive.Order.{Order}
use Rattle.bench_script.specs.Script.{script, directives_from, read_line, numbered, too_many, KeepsLine, GivesScript}
use Rattle.bench_script.specs.Steps.{◌>>=◌, prepended, put}
use Rattle.bench_script.specs.Faults.{at_line}
use Rattle.bench_script.specs.declared.fault.LineFault.{LineFault}
use Rattle.bench_script.specs.declared.fault.LineFault.TheVariants as kinds
use Rattle.bench_script.specs.declared.fault.ScriptFault.{ScriptFault}
use Rattle.bench_script.specs.declared.fault.ScriptFault.TheVariants as faults

prepended-append : {A E : Type 0} (xs ys : List A) (r : Result (List A) E) → prepended xs (prepended ys r) ≡ prepended (xs ++ ys) r
prepended-append xs ys (Ok zs) = ap (λ l. Ok l) (rw append_assoc refl)
prepended-append xs ys (Err e) = refl

one_before : {A E : Type 0} (x : A) (r : Result (List A) E) → (r >>= (λ xs. Ok (x ∷ xs))) ≡ prepended (x ∷ []) r
one_before x (Ok xs) = refl
one_before x (Err e) = refl

fault_kept : (A : Type 0) (old new : List Directive) (number : ℕ) (f : LineFault) → KeepsLine {A = A} (Err (at_line f number)) old new number (Err f)
fault_kept A old new number kinds.NotText = λ rest. refl
fault_kept A old new number kinds.Word = λ rest. refl
fault_kept A old new number kinds.Count = λ rest. refl
fault_kept A old new number kinds.Number = λ rest. refl

-- a line whose directive is kept
pub line_kept : (whole : Result (List Directive) ScriptFault) (old new : List Directive) (number : ℕ) (all : List (List ℕ)) (line : List ℕ) (others : List (List ℕ)) → whole ≡ prepended old (directives_from (number + 1) (length old) all) → all ≡ line ∷ others → KeepsLine {A = Unit {0}} (Ok tt) old new (number + 1) (read_line line) → whole ≡ prepended new (directives_from (number + 1 + 1) (length new) others)
line_kept whole old new number all line others h e k =
    let step = k.2 (λ n. directives_from (number + 1 + 1) n others) in
    h ∙ (ap (λ (ls : List (List ℕ)). prepended old (directives_from (number + 1) (length old) ls)) e ∙ (ap (prepended old) step ∙ (prepended-append old k.0 (directives_from (number + 1 + 1) (length new) others) ∙ ap (λ (xs : List Directive). prepended xs (directives_from (number + 1 + 1) (length new) others)) (rw k.1 refl))))

-- a line that is refused
line_refused : (e : ScriptFault) (whole : Result (List Directive) ScriptFault) (old : List Directive) (number : ℕ) (all : List (List ℕ)) (line : List ℕ) (others : List (List ℕ)) → whole ≡ prepended old (directives_from (number + 1) (length old) all) → all ≡ line ∷ others → directives_from (number + 1) (length old) (line ∷ others) ≡ Err e → whole ≡ Err e
line_refused e whole old number all line others h i k = h ∙ (ap (λ (ls : List (List ℕ)). prepended old (directives_from (number + 1) (length old) ls)) i ∙ ap (prepended old) k)

pub script_refused : (A : Type 0) {V : Type 0} (items : V → List Directive) (e : ScriptFault) (text : List ℕ) (old new : List Directive) (number : ℕ) (all : List (List ℕ)) (line : List ℕ) (others : List (List ℕ)) → script text ≡ prepended old (directives_from (number + 1) (length old) all) → all ≡ line ∷ others → KeepsLine {A = A} (Err e) old new (number + 1) (read_line line) → GivesScript items (Err e) text
script_refused A items (faults.NotText n) text old new number all line others h i k = line_refused (faults.NotText n) (script text) old number all line others h i (k (λ n. directives_from (number + 1 + 1) n others))
script_refused A items (faults.Word n) text old new number all line others h i k = line_refused (faults.Word n) (script text) old number all line others h i (k (λ n. directives_from (number + 1 + 1) n others))
script_refused A items (faults.Count n) text old new number all line others h i k = line_refused (faults.Count n) (script text) old number all line others h i (k (λ n. directives_from (number + 1 + 1) n others))
script_refused A items (faults.Number n) text old new number all line others h i k = line_refused (faults.Number n) (script text) old number all line others h i (k (λ n. directives_from (number + 1 + 1) n others))
script_refused A items (faults.Long n) text old new number all line others h i k = line_refused (faults.Long n) (script text) old number all line others h i (k (λ n. directives_from (number + 1 + 1) n others))
script_refused A items faults.NoMemory text old new number all line others h i k = tt

-- a line that is no text
pub script_amiss : {V : Type 0} (items : V → List Directive) (text : List ℕ) (old : List Directive) (number : ℕ) (all : List (List ℕ)) (line : List ℕ) (others : List (List ℕ)) → script text ≡ prepended old (directives_from (number + 1) (length old) all) → all ≡ line ∷ others → read_line line ≡ Err kinds.NotText → GivesScript items (Err (faults.NotText (number + 1))) text
script_amiss items text old number all line others h i e = script_refused (Unit {0}) items (faults.NotText (number + 1)) text old old number all line others h i (rw e (λ rest. refl))

-- an order that is read where it is kept, behind the directives before it
order_kept : (A : Type 0) (done : A) (old new : List Directive) (number : ℕ) (order : Order) (read : Result Order LineFault) → Ok order ≡ numbered number read → nat_lt (length old) 50000 ≡ true → new ≡ old ++ record { line = number; order = order } ∷ [] → KeepsLine (Ok done) old new number (read >>= (λ o. Ok (Some o)))
order_kept A done old new number order (Ok o) e below n =
    let same : order ≡ o = cc in
    let count : length new ≡ length old + 1 = ap length n ∙ length-append old (record { line = number; order = order } ∷ []) in
    (record { line = number; order = order } ∷ [], n, λ rest. rw (below, count, same) (one_before (record { line = number; order = o }) (rest (length old + 1))))
order_kept A done old new number order (Err f) e below n = cc

order_refused : (A : Type 0) (old new : List Directive) (number : ℕ) (fault : ScriptFault) (read : Result Order LineFault) → Err fault ≡ numbered number read → KeepsLine {A = A} (Err fault) old new number (read >>= (λ o. Ok (Some o)))
order_refused A old new number fault (Ok o) e = cc
order_refused A old new number fault (Err f) e = let same : at_line f number ≡ fault = cc in subst (λ (g : ScriptFault). KeepsLine {A = A} (Err g) old new number (Err f)) same (fault_kept A old new number f)

read_there : (A : Type 0) (done : Result A ScriptFault) (old new : List Directive) (number : ℕ) (order : Order) (read : Result Order LineFault) → put done order ≡ numbered number read → nat_lt (length old) 50000 ≡ true → new ≡ old ++ record { line = number; order = order } ∷ [] → KeepsLine done old new number (read >>= (λ o. Ok (Some o)))
read_there A (Ok done) old new number order read e below n = order_kept A done old new number order read e below n
read_there A (Err fault) old new number order read e below n = order_refused A old new number fault read e

pub kept_there : (old pushed : List Directive) (place : ℕ) (first held : Directive) → place ≡ length old → pushed ≡ old ++ first ∷ [] → held ≡ get_or pushed place held → held ≡ first
kept_there old pushed place first held at n h = h ∙ rw (n, at) (get_or-append_seam old first [] held)

pub order_read : (A : Type 0) (done : Result A ScriptFault) (old pushed : List Directive) (number place : ℕ) (first held : Directive) (order : Order) (read : Result Order LineFault) → put done order ≡ numbered number read → nat_lt (length old) 50000 ≡ true → place ≡ length old → pushed ≡ old ++ first ∷ [] → first.line ≡ number → held ≡ get_or pushed place held → KeepsLine done old (set pushed place (record { line = held.line; order = order })) number (read >>= (λ o. Ok (Some o)))
order_read A done old pushed number place first held order read e below at n f h =
    let there = kept_there old pushed place first held at n h in
    let line : held.line ≡ number = ap (λ (d : Directive). d.line) there ∙ f in
    read_there A done old (set pushed place (record { line = held.line; order = order })) number order read e below (rw (n, at, line) (set-append_seam old first [] (record { line = number; order = order })))

pub order_too_many : (A : Type 0) (old new : List Directive) (number : ℕ) (read : Result Order LineFault) → nat_lt (length old) 50000 ≡ false → KeepsLine {A = A} (Err (too_many number read)) old new number (read >>= (λ o. Ok (Some o)))
order_too_many A old new number (Ok o) full = λ rest. rw full refl
order_too_many A old new number (Err f) full = fault_kept A old new number f

-- a line that is read by its words
pub kept_by : (old new : List Directive) (number : ℕ) (read by : Result (Option Order) LineFault) → read ≡ by → KeepsLine {A = Unit {0}} (Ok tt) old new number by → KeepsLine {A = Unit {0}} (Ok tt) old new number read
kept_by old new number read by e k = rw e k
