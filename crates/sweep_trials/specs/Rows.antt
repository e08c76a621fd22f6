-- The rows of places that have an outcome.
use Rattle.std.specs.Prelude.{◌≡◌, ℕ, ◌+◌, List, Some, length, min, slice_get, string_bytes}
use Rattle.mcal_base.specs.declared.directive.Directive.{Directive}
use Rattle.bench_sweep.specs.Groups.{IsRangeOf, ranges_of}
use Rattle.bench_sweep.specs.declared.groups.Range.{Range}
use Rattle.sweep_trials.specs.Names.{IsNamed}
use Rattle.sweep_trials.specs.declared.opened.Opened.{Opened}
use Rattle.sweep_trials.specs.declared.reactions.Following.{Following}
use Rattle.sweep_trials.specs.declared.seen.RunSeen.{RunSeen}
use Rattle.sweep_trials.specs.declared.summary.Row.{Row}
use Rattle.sweep_trials.specs.declared.sweeping.Moment.{Moment}
use Rattle.sweep_trials.specs.declared.swept.Swept.{Swept}

-- the number of a place that is told of, from 1
abbrev pub IsNumberOf : Swept → ℕ → ℕ → Type 0
IsNumberOf s place number = (m : Moment) → slice_get s.moments.items place ≡ Some m → number ≡ min (m.number + 1) 18446744073709551615

-- a row has the numbers and the names of the first and the last place of a range, and how long what is placed waits there at most
pub record IsRowAt (of_run : List Directive → RunSeen → Type 0) (following : Following) (placed : List Directive) (o : Opened) (s : Swept) (range : Range) (row : Row) : Type 0 where
  pub first : IsNumberOf s range.first row.first
  pub last : IsNumberOf s range.last row.last
  pub first_name : IsNamed of_run following placed o s.moments.items range.first (string_bytes row.first_name)
  pub last_name : IsNamed of_run following placed o s.moments.items range.last (string_bytes row.last_name)
  pub wait : row.wait ≡ range.wait

-- a row is of places next to one another that have an outcome
pub record IsRowOf (of_run : List Directive → RunSeen → Type 0) (following : Following) (placed : List Directive) (o : Opened) (s : Swept) (outcome : ℕ) (row : Row) : Type 0 where
  pub range : Range
  pub places : IsRangeOf s.settled.items outcome range
  pub at : IsRowAt of_run following placed o s range row

-- rows are those of the first ranges, so many at most, and so many more there are
pub record AreFirstRows (of_range : Range → Row → Type 0) (ranges : List Range) (most : ℕ) (rows : List Row) (more : ℕ) : Type 0 where
  pub each : (k : ℕ) (range : Range) (row : Row) → slice_get ranges k ≡ Some range → slice_get rows k ≡ Some row → of_range range row
  pub shown : length rows ≡ min most (length ranges)
  pub others : length rows + more ≡ length ranges

-- the rows of an outcome are those of the first ranges of its places: all ranges leave out none of them
abbrev pub AreRowsOf : (of_run : List Directive → RunSeen → Type 0) (following : Following) (placed : List Directive) → Opened → Swept → (outcome most : ℕ) → List Row → ℕ → Type 0
AreRowsOf of_run following placed o s outcome most rows more = AreFirstRows (IsRowAt of_run following placed o s) (ranges_of outcome s.settled.items) most rows more
