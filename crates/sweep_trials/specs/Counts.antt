-- How many steps the directives of a run made.
use Rattle.std.specs.Prelude.{ℕ, zero, suc, ◌+◌, ◌==◌, List, [], ◌∷◌, min, count_by}
use Rattle.sweep_trials.specs.declared.seen.StepSeen.{StepSeen}

-- how many of the steps are of the directive on a line: no more are counted than a number can have
abbrev pub steps_on : ℕ → List StepSeen → ℕ
steps_on line seen = min (count_by (λ s. s.line == line) seen) 4294967295

-- the same of so many directives, which stand on lines one after another
abbrev pub counts_from : ℕ → ℕ → List StepSeen → List ℕ
counts_from line zero seen = []
counts_from line (suc n) seen = steps_on line seen ∷ counts_from (line + 1) n seen

-- how many steps each of so many directives of a flat script made
abbrev pub counts : ℕ → List StepSeen → List ℕ
counts n seen = counts_from 1 n seen

-- one step more, of the directive on a line
abbrev pub with_step_at : ℕ → List ℕ → List ℕ
with_step_at place [] = []
with_step_at zero (n ∷ ns) = min (n + 1) 4294967295 ∷ ns
with_step_at (suc place) (n ∷ ns) = n ∷ with_step_at place ns

abbrev pub with_step : ℕ → List ℕ → List ℕ
with_step zero ns = ns
with_step (suc place) ns = with_step_at place ns
