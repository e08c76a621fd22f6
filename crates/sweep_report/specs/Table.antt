-- What is printed of a sweep: its script, the calls that follow notices, what came of it, and its outcomes.
use Rattle.std.specs.Prelude.{ℕ, ◌==◌, ◌||◌, nat_le, nat_lt, max, Bool, List, [], ◌∷◌, Option, Some, None, count_by, length, slice_get, if◌then◌else◌}
use Rattle.std.specs.List.{list_all, list_any}
use Rattle.std.specs.Str.Lossy.{utf8_valid_len}
use Rattle.mcal_base.specs.declared.directive.Directive.{Directive}
use Rattle.bench_sweep.specs.Lines.{asked_at}
use Rattle.bench_sweep.specs.Outcomes.{is_told}
use Rattle.bench_sweep.specs.Parts.{Pieces, pieces_of}
use Rattle.bench_sweep.specs.declared.groups.Settled.{Settled}
use Rattle.bench_sweep.specs.declared.outcomes.Outcome.{Outcome}
use Rattle.bench_sweep.specs.declared.outcomes.Told.{Told}
use Rattle.sweep_trials.specs.declared.reactions.Reaction.{Reaction}
use Rattle.sweep_trials.specs.declared.summary.Group.{Group}
use Rattle.sweep_trials.specs.declared.swept.Swept.{Swept}
use Rattle.sweep_report.specs.declared.shown.SweepShown.{SweepShown}

-- the script, its pieces, what follows notices, what came of the sweep, and its outcomes
pub record Table : Type 0 where
  pub script : List ℕ
  pub pieces : Pieces
  pub reactions : List Reaction
  pub swept : Swept
  pub groups : List Group

-- the table of what is to be printed
abbrev pub table_of : SweepShown → Table
table_of shown = record { script = shown.script.now; pieces = pieces_of shown.parts; reactions = shown.reactions.now; swept = shown.swept.now; groups = shown.groups.now }

-- bytes that are a text, and else nothing
abbrev pub as_text : List ℕ → List ℕ
as_text bytes = if utf8_valid_len bytes == length bytes then bytes else []

-- what a line of a script asks for
abbrev pub asked_on : List ℕ → ℕ → List ℕ
asked_on script line = as_text (asked_at line script)

abbrev pub outcome_items : Option Outcome → List Told
outcome_items None = []
outcome_items (Some outcome) = outcome.told.items

-- what the outcome of a number tells
abbrev pub told_at : List Outcome → ℕ → List Told
told_at outcomes number = outcome_items (slice_get outcomes number)

-- the outcome of a number tells this
abbrev pub tells : List Outcome → ℕ → Told → Bool
tells outcomes number told = list_any (λ other. is_told other told) (told_at outcomes number)

-- all outcomes tell this
abbrev pub is_common : List Outcome → List Group → Told → Bool
is_common outcomes groups told = list_all (λ g. tells outcomes g.outcome told) groups

-- how many places there are where what is placed waits
abbrev pub waiting : List Settled → ℕ
waiting settled = count_by (λ s. nat_lt 0 s.wait) settled

-- the longest wait
abbrev pub longest_wait : List Settled → ℕ
longest_wait [] = 0
longest_wait (s ∷ ss) = max s.wait (longest_wait ss)

-- the line of the first of some directives
abbrev pub first_line : List Directive → ℕ
first_line [] = 0
first_line (d ∷ ds) = d.line

-- what a line printed is told also where all outcomes tell it: from the first line on that is placed, and of each line `on`
abbrev pub is_listed : List Directive → List Reaction → ℕ → Bool
is_listed swept reactions line = nat_le (first_line swept) line || list_any (λ r. r.directive.line == line) reactions
