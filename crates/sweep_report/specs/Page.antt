-- The page of a sweep.
use Rattle.std.specs.Prelude.{ℕ, ◌+◌, ◌==◌, ◌++◌, ◌&&◌, nat_lt, List, [], ◌∷◌, codes, decimal, flat_map, length, string_bytes, vec_len, if◌then◌else◌}
use Rattle.std.specs.Str.Lines.{lines}
use Rattle.mcal_base.specs.declared.directive.Directive.{Directive}
use Rattle.bench_sweep.specs.declared.groups.Settled.{Settled}
use Rattle.bench_sweep.specs.declared.outcomes.Outcome.{Outcome}
use Rattle.bench_sweep.specs.declared.outcomes.Told.{Told}
use Rattle.sweep_trials.specs.Standings.{standing_text}
use Rattle.sweep_trials.specs.declared.reactions.Reaction.{Reaction}
use Rattle.sweep_trials.specs.declared.summary.Group.{Group}
use Rattle.sweep_trials.specs.declared.summary.Row.{Row}
use Rattle.sweep_trials.specs.declared.swept.Swept.{Swept}
use Rattle.sweep_report.specs.Table.{Table, asked_on, is_common, is_listed, longest_wait, told_at, waiting}

-- a number of things
unfoldable pub counted : ℕ → List ℕ → List ℕ
counted number thing = if number == 1 then codes "1 " ++ thing else decimal number ++ (codes " " ++ (thing ++ codes "s"))

-- the lines that say what follows notices
abbrev pub reactions_text : List ℕ → List Reaction → List ℕ
reactions_text script reactions = flat_map (λ r. asked_on script r.directive.line ++ codes "\n") reactions

-- what directives ask for, one behind another
abbrev pub listed : List ℕ → List Directive → List ℕ
listed script [] = []
listed script (d ∷ ds) = asked_on script d.line ++ flat_map (λ e. codes "; " ++ asked_on script e.line) ds

-- a part of the script, behind a word
abbrev pub part_text : List ℕ → List ℕ → List Directive → List ℕ
part_text word script directives = word ++ (codes ": " ++ (listed script directives ++ codes "\n"))

-- what is placed a second time, where something is
abbrev pub second_text : List ℕ → List Directive → List ℕ
second_text script [] = []
second_text script (d ∷ ds) = part_text (codes "and") script (d ∷ ds)

-- how many pairs are left out
abbrev pub skipped_text : ℕ → List ℕ
skipped_text skipped = if nat_lt 0 skipped then codes ", " ++ (decimal skipped ++ codes " more where one of them waits") else []

-- at so many places what is placed waits, for so many steps at most
abbrev pub waiting_text : (places steps : ℕ) → List ℕ
waiting_text places steps = codes ", " ++ (counted places (codes "place") ++ (codes " where it waits, at most " ++ counted steps (codes "step")))

-- at how many places what is placed waits, and how long, where it does
abbrev pub waits_text : List Settled → List ℕ
waits_text settled = if waiting settled == 0 then [] else waiting_text (waiting settled) (longest_wait settled)

-- how many places and outcomes there are
abbrev pub counts_text : Swept → ℕ → List ℕ
counts_text swept outcomes = counted (vec_len swept.settled) (codes "place") ++ (codes ", " ++ (counted outcomes (codes "outcome") ++ (skipped_text swept.skipped ++ (waits_text swept.settled.items ++ codes "\n"))))

-- a printed line, behind the number of the line of the file
abbrev pub told_line : ℕ → List ℕ → List ℕ
told_line number line = codes "  " ++ (decimal number ++ (codes " " ++ (line ++ codes "\n")))

-- what a line of the file printed
abbrev pub told_text : Told → List ℕ
told_text told = flat_map (told_line told.line) (lines (string_bytes told.text))

-- how long what is placed waits at most
abbrev pub wait_text : ℕ → List ℕ
wait_text wait = if nat_lt 0 wait then codes ", waits at most " ++ counted wait (codes "step") else []

-- places next to one another
abbrev pub places_text : Row → List ℕ
places_text r =
    if nat_lt r.first r.last then codes "  at " ++ (decimal r.first ++ (codes " to " ++ (decimal r.last ++ (codes ": " ++ (string_bytes r.first_name ++ (codes " .. " ++ string_bytes r.last_name))))))
    else codes "  at " ++ (decimal r.first ++ (codes ": " ++ string_bytes r.first_name))

-- a row of places
abbrev pub row_text : Row → List ℕ
row_text r = places_text r ++ (wait_text r.wait ++ codes "\n")

-- how many rows there are more
abbrev pub more_text : ℕ → List ℕ
more_text more = if nat_lt 0 more then codes "  " ++ (counted more (codes "more range") ++ codes "\n") else []

-- what is told, unless all outcomes tell it
abbrev pub unshared_text : List Outcome → List Group → Told → List ℕ
unshared_text outcomes groups told = if is_common outcomes groups told then [] else told_text told

-- what is told where outcomes differ
abbrev pub differing_text : List Outcome → List Group → List Told → List ℕ
differing_text outcomes groups told = flat_map (unshared_text outcomes groups) told

-- the head of an outcome of a number
abbrev pub head_text : ℕ → Group → List ℕ
head_text number g = codes "\noutcome " ++ (decimal number ++ (codes ": " ++ (counted g.places (codes "place") ++ (codes ", " ++ (standing_text g.standing ++ codes "\n")))))

-- an outcome of a number: its places, and what it tells where outcomes differ
abbrev pub group_text : Table → ℕ → Group → List ℕ
group_text t number g =
    head_text number g ++ (flat_map row_text g.rows.items ++ (more_text g.more ++ differing_text t.swept.outcomes.items t.groups (told_at t.swept.outcomes.items g.outcome)))

-- outcomes, the first of which has the number
abbrev pub groups_text : Table → ℕ → List Group → List ℕ
groups_text t number [] = []
groups_text t number (g ∷ gs) = group_text t number g ++ groups_text t (number + 1) gs

-- what is told, where all outcomes tell it, and its line is one of which that is told
abbrev pub shared_text : Table → Told → List ℕ
shared_text t told = if is_listed t.pieces.swept t.reactions told.line && is_common t.swept.outcomes.items t.groups told then told_text told else []

abbrev pub told_first : List Outcome → List Group → List Told
told_first outcomes [] = []
told_first outcomes (g ∷ gs) = told_at outcomes g.outcome

-- what the first outcome tells
abbrev pub first_told : Table → List Told
first_told t = told_first t.swept.outcomes.items t.groups

-- a text under a head, where there is one
abbrev pub headed : List ℕ → List ℕ
headed [] = []
headed (b ∷ bs) = codes "\nin all of them:\n" ++ (b ∷ bs)

-- what is told in all outcomes
abbrev pub common_text : Table → List ℕ
common_text t = headed (flat_map (shared_text t) (first_told t))

-- what is asked for: the lines that say what follows notices, and the parts of the script
abbrev pub asked_text : Table → List ℕ
asked_text t = reactions_text t.script t.reactions ++ (part_text (codes "swept") t.script t.pieces.swept ++ (second_text t.script t.pieces.second ++ part_text (codes "over") t.script t.pieces.block))

-- the page
abbrev pub page : Table → List ℕ
page t = asked_text t ++ (counts_text t.swept (length t.groups) ++ (groups_text t 1 t.groups ++ common_text t))
