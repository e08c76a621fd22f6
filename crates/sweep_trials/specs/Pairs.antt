-- Pairs of places that were tried, and what came of them.
use Rattle.std.specs.Prelude.{◌≡◌, ℕ, ◌+◌, ◌-◌, ◌<◌, ◌≤◌, Bool, false, List, [], ◌∷◌, ◌++◌, Some, count_by, if◌then◌else◌, length, map, slice_get, sum_by, vec_len}
use Rattle.mcal_base.specs.declared.directive.Directive.{Directive}
use Rattle.bench_sweep.specs.Outcomes.{AreDifferent}
use Rattle.bench_sweep.specs.Places.{places}
use Rattle.bench_sweep.specs.declared.groups.Settled.{Settled}
use Rattle.bench_sweep.specs.declared.groups.Tried.{Tried}
use Rattle.bench_sweep.specs.declared.outcomes.Outcome.{Outcome}
use Rattle.bench_sweep.specs.declared.places.BlockPlace.{BlockPlace}
use Rattle.sweep_trials.specs.Trials.{AreTried, IsInner, IsTriedAt}
use Rattle.sweep_trials.specs.declared.opened.Opened.{Opened}
use Rattle.sweep_trials.specs.declared.reactions.Following.{Following}
use Rattle.sweep_trials.specs.declared.seen.RunSeen.{RunSeen}
use Rattle.sweep_trials.specs.declared.sweeping.Moment.{Moment}
use Rattle.sweep_trials.specs.declared.swept.Swept.{Swept}

-- the block that begins at a first place, and what came of its own places, from the first one on
pub record Behind : Type 0 where
  pub inner : Opened
  pub tried : List Tried

-- The block that begins at the first place of a number was opened, with what is placed there, and what is placed a second time was
-- tried at its places, one after another.
pub record IsBehind (of_run : List Directive → RunSeen → Type 0) (following : Following) (placed second behind : List Directive) (o : Opened) (outcomes : List Outcome) (first : ℕ) (b : Behind) : Type 0 where
  pub opened : (p : BlockPlace) → slice_get (places o.block.items o.steps.items) first ≡ Some p → IsInner of_run following o placed p b.inner
  pub tried : AreTried of_run following second behind b.inner outcomes 0 b.tried

-- what is told of a pair: its first place, its second one, and its number
abbrev pub told_pair : (number first second outcome : ℕ) → Moment × Settled
told_pair number first second outcome = (record { number = number + second; first = first; second = Some second }, record { outcome = outcome; wait = 0 })

-- The pairs of a first place that are told of, from a second place on: those where neither of the two waits. The first pair has the number.
abbrev pub told_from : (number first second : ℕ) → List Tried → List (Moment × Settled)
told_from number first second [] = []
told_from number first second (t ∷ ts) = (if t.waits then [] else told_pair number first second t.outcome ∷ []) ++ told_from number first (second + 1) ts

-- those of all first places from one on
abbrev pub told_pairs : (number first : ℕ) → List Behind → List (Moment × Settled)
told_pairs number first [] = []
told_pairs number first (b ∷ bs) = told_from number first 0 b.tried ++ told_pairs (number + vec_len b.inner.all) (first + 1) bs

-- how many pairs there are where one of the two waits
abbrev pub waiting_pairs : List Behind → ℕ
waiting_pairs all = sum_by (λ b. count_by (λ t. t.waits) b.tried) all

-- how many pairs there are
abbrev pub count_pairs : List Behind → ℕ
count_pairs all = sum_by (λ b. vec_len b.inner.all) all

-- All pairs whose first place is one of so many were tried, but for those before a part, which are only counted. What is told is
-- what came of them.
pub record ArePairs (of_run : List Directive → RunSeen → Type 0) (following : Following) (placed second behind : List Directive) (o : Opened) (outcomes : List Outcome) (from : ℕ) (stops : Bool) (moments : List Moment) (settled : List Settled) (skipped : ℕ) (all : List Behind) : Type 0 where
  pub each : (i : ℕ) (b : Behind) → slice_get all i ≡ Some b → IsBehind of_run following placed second behind o outcomes i b
  pub ahead : (i : ℕ) (b : Behind) → slice_get all i ≡ Some b → i < from → b.tried ≡ []
  pub whole : (i : ℕ) (b : Behind) → slice_get all i ≡ Some b → from ≤ i → stops ≡ false → length b.tried ≡ vec_len b.inner.all
  pub moments_told : moments ≡ map (λ t. t.0) (told_pairs 0 0 all)
  pub settled_told : settled ≡ map (λ t. t.1) (told_pairs 0 0 all)
  pub skipped_told : skipped ≡ waiting_pairs all

-- the same up to the part's end, unless the sweep stops
pub record AreSweptPairs (of_run : List Directive → RunSeen → Type 0) (following : Following) (placed second behind : List Directive) (o : Opened) (outcomes : List Outcome) (from until : ℕ) (stops : Bool) (moments : List Moment) (settled : List Settled) (skipped : ℕ) : Type 0 where
  pub all : List Behind
  pub pairs : ArePairs of_run following placed second behind o outcomes from stops moments settled skipped all
  pub to_end : stops ≡ false → length all ≡ until

-- A pair of places was tried: the second one is a place of the block that begins at the first one.
pub record IsPairTried (of_run : List Directive → RunSeen → Type 0) (following : Following) (placed second behind : List Directive) (o : Opened) (outcomes : List Outcome) (first : ℕ) (place : Opened → ℕ) (outcome : ℕ) : Type 0 where
  pub inner : Opened
  pub opened : (p : BlockPlace) → slice_get (places o.block.items o.steps.items) first ≡ Some p → IsInner of_run following o placed p inner
  pub tried : IsTriedAt of_run following second behind inner outcomes (place inner) outcome

-- All pairs were tried whose first place is of a part, each once and in their order, and the outcomes at the first pair and at the
-- last are those of their runs.
pub record IsSweptTwice (of_run : List Directive → RunSeen → Type 0) (following : Following) (placed second behind : List Directive) (o : Opened) (from until : ℕ) (stops : Bool) (s : Swept) : Type 0 where
  pub differ : AreDifferent s.outcomes.items
  pub pairs : AreSweptPairs of_run following placed second behind o s.outcomes.items from until stops s.moments.items s.settled.items s.skipped
  pub before : IsPairTried of_run following placed second behind o s.outcomes.items 0 (λ inner. 0) s.before
  pub at_end : IsPairTried of_run following placed second behind o s.outcomes.items (vec_len o.all - 1) (λ inner. vec_len inner.all - 1) s.behind
