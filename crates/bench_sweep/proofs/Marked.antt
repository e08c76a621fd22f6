-- The marks of a script, one line after another, and what its lines say that follows notices.
use Rattle.std.proofs.Common.{◌≡◌, ◌∙◌, ℕ, ◌+◌, List, ◌∷◌, ◌++◌, Option, sym, ap, append_assoc}
use Rattle.std.specs.Prelude.{Result, Ok, Err, option_to_list}
use Rattle.bench_sweep.specs.Marks.{mark_on, marks_behind, marks_then, with_line}
use Rattle.bench_sweep.specs.Reactions.{Reacting, reaction_on, reactions_behind}
use Rattle.bench_sweep.specs.declared.fault.SweepFault.{SweepFault}
use Rattle.bench_sweep.specs.declared.marking.Mark.{Mark}
use Rattle.bench_sweep.specs.declared.marking.Marks.{Marks}
use Rattle.bench_sweep.specs.declared.marking.Part.{Part}

behind_by : (count : ℕ) (all : List (List ℕ)) (line : List ℕ) (lines : List (List ℕ)) (mark : Option Mark) (now : Part × Marks) (step : Result (Part × Marks) SweepFault) → all ≡ line ∷ lines → mark ≡ mark_on line → step ≡ with_line (count + 1) mark now → marks_behind count all now ≡ marks_then (marks_behind (count + 1) lines) step
behind_by count all line lines mark now step e m s =
    ap (λ (ls : List (List ℕ)). marks_behind count ls now) e
    ∙ ap (λ (r : Result (Part × Marks) SweepFault). marks_then (marks_behind (count + 1) lines) r) (ap (λ (o : Option Mark). with_line (count + 1) o now) (sym m) ∙ sym s)

-- a line that goes on
pub marks_on : (count : ℕ) (all : List (List ℕ)) (line : List ℕ) (lines : List (List ℕ)) (mark : Option Mark) (now next : Part × Marks) → all ≡ line ∷ lines → mark ≡ mark_on line → Ok next ≡ with_line (count + 1) mark now → marks_behind count all now ≡ marks_behind (count + 1) lines next
marks_on count all line lines mark now next e m s = behind_by count all line lines mark now (Ok next) e m s

-- a line that is wrong
pub marks_off : (count : ℕ) (all : List (List ℕ)) (line : List ℕ) (lines : List (List ℕ)) (mark : Option Mark) (now : Part × Marks) (fault : SweepFault) → all ≡ line ∷ lines → mark ≡ mark_on line → Err fault ≡ with_line (count + 1) mark now → marks_behind count all now ≡ Err fault
marks_off count all line lines mark now fault e m s = behind_by count all line lines mark now (Err fault) e m s

-- one line more, of those that say what follows notices
pub found_on : (count : ℕ) (all : List (List ℕ)) (line : List ℕ) (lines : List (List ℕ)) (found more : List Reacting) → all ≡ line ∷ lines → more ≡ found ++ option_to_list (reaction_on (count + 1) line) → found ++ reactions_behind count all ≡ more ++ reactions_behind (count + 1) lines
found_on count all line lines found more e m =
    ap (λ (ls : List (List ℕ)). found ++ reactions_behind count ls) e
    ∙ sym (append_assoc found (option_to_list (reaction_on (count + 1) line)) (reactions_behind (count + 1) lines))
    ∙ ap (λ (rs : List Reacting). rs ++ reactions_behind (count + 1) lines) (sym m)
