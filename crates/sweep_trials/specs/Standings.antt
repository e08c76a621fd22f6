-- How outcomes stand to those at the first place and at the last.
use Rattle.std.specs.Prelude.{ℕ, ◌==◌, ◌&&◌, not, Bool, true, false, List, codes}
use Rattle.std.specs.List.{list_any}
use Rattle.sweep_trials.specs.declared.summary.Standing.{Standing}
use Rattle.sweep_trials.specs.declared.summary.Standing.TheVariants.{Both, Before, Behind, Neither}
use Rattle.sweep_trials.specs.declared.swept.Swept.{Swept}

-- by whether the outcome is that at the first place, and that at the last
abbrev pub standing_by : Bool → Bool → Standing
standing_by true true = Both
standing_by true false = Before
standing_by false true = Behind
standing_by false false = Neither

-- how an outcome stands
abbrev pub standing_of : Swept → ℕ → Standing
standing_of s outcome = standing_by (outcome == s.before) (outcome == s.behind)

-- the words
abbrev pub standing_text : Standing → List ℕ
standing_text Both = codes "as before and behind"
standing_text Before = codes "as before"
standing_text Behind = codes "as behind"
standing_text Neither = codes "AS NEITHER"

-- some place has an outcome that is neither
abbrev pub has_neither : Swept → Bool
has_neither s = list_any (λ found. not (found.outcome == s.before) && not (found.outcome == s.behind)) s.settled.items
