-- What comes of each place.
use Rattle.std.specs.Prelude.{◌≡◌, ℕ, ◌+◌, ◌-◌, ◌<◌, ◌≤◌, ◌==◌, ◌++◌, List, [], ◌∷◌, Option, Some, None, Bool, true, false, length, max, take, slice_get, count_by, if◌then◌else◌}
use Rattle.std.specs.List.{list_any}
use Rattle.bench_sweep.specs.declared.groups.Range.{Range}
use Rattle.bench_sweep.specs.declared.groups.Settled.{Settled}
use Rattle.bench_sweep.specs.declared.groups.Tried.{Tried}

-- what comes of a place, by what comes of the next one: where what is placed waits, it gets in there
abbrev pub settled_by : Bool → ℕ → Option Settled → Settled
settled_by true outcome (Some next) = record { outcome = next.outcome; wait = next.wait + 1 }
settled_by waits outcome _ = record { outcome = outcome; wait = 0 }

-- the first of some
abbrev pub head : List Settled → Option Settled
head [] = None
head (s ∷ ss) = Some s

-- what comes of each place
abbrev pub settled : List Tried → List Settled
settled [] = []
settled (t ∷ ts) = settled_by t.waits t.outcome (head (settled ts)) ∷ settled ts

-- how many places have an outcome
abbrev pub count_with : ℕ → List Settled → ℕ
count_with outcome settled = count_by (λ s. outcome == s.outcome) settled

-- numbers with one more, where that is not among them
abbrev pub with_number : ℕ → List ℕ → List ℕ
with_number n ns = if list_any (λ m. m == n) ns then ns else ns ++ n ∷ []

-- numbers with those of the outcomes that there are at places
abbrev pub with_numbers : List ℕ → List Settled → List ℕ
with_numbers ns [] = ns
with_numbers ns (s ∷ ss) = with_numbers (with_number s.outcome ns) ss

-- the outcomes that there are at some place, in the order of their first places
abbrev pub numbers_in : List Settled → List ℕ
numbers_in settled = with_numbers [] settled

-- ---- the ranges of places

-- one place
abbrev pub one_place : ℕ → ℕ → Range
one_place place wait = record { first = place; last = place; wait = wait }

-- a range with the place behind it
abbrev pub longer : Range → ℕ → ℕ → Range
longer r place wait = record { first = r.first; last = place; wait = max r.wait wait }

-- a place stands right behind the last range
abbrev pub goes_on : Option Range → ℕ → Bool
goes_on None place = false
goes_on (Some r) place = r.last + 1 == place

-- the range of a place: the last one, where it stands right behind that, or one of its own
abbrev pub range_with : Option Range → ℕ → ℕ → Range
range_with None place wait = one_place place wait
range_with (Some r) place wait = if r.last + 1 == place then longer r place wait else one_place place wait

-- ranges without the last one, where it goes on
abbrev pub cut_last : Bool → List Range → List Range
cut_last goes ranges = if goes then take (length ranges - 1) ranges else ranges

-- ranges with one place more, in the last of them where it stands right behind that
abbrev pub with_place : List Range → ℕ → ℕ → List Range
with_place [] place wait = one_place place wait ∷ []
with_place (r ∷ []) place wait = if r.last + 1 == place then longer r place wait ∷ [] else r ∷ one_place place wait ∷ []
with_place (r ∷ s ∷ rs) place wait = r ∷ with_place (s ∷ rs) place wait

-- ranges with the place of a number, where that has an outcome
abbrev pub with_settled : ℕ → List Range → ℕ → Settled → List Range
with_settled outcome ranges place s = if s.outcome == outcome then with_place ranges place s.wait else ranges

-- ranges with those of the places from a number on that have an outcome
abbrev pub with_ranges : ℕ → List Range → ℕ → List Settled → List Range
with_ranges outcome ranges place [] = ranges
with_ranges outcome ranges place (s ∷ ss) = with_ranges outcome (with_settled outcome ranges place s) (place + 1) ss

-- the ranges of the places that have an outcome
abbrev pub ranges_of : ℕ → List Settled → List Range
ranges_of outcome settled = with_ranges outcome [] 0 settled

-- places next to one another that have an outcome
pub record IsRangeOf (settled : List Settled) (outcome : ℕ) (range : Range) : Type 0 where
  pub order : range.first ≤ range.last
  pub within : range.last < length settled
  pub each : (i : ℕ) (s : Settled) → range.first ≤ i → i ≤ range.last → slice_get settled i ≡ Some s → s.outcome ≡ outcome
