-- What was tried of a sweep, and what came of it.
use Rattle.std.specs.Prelude.{◌≡◌, ℕ, zero, suc, ◌+◌, ◌-◌, ◌*◌, ◌/◌, Bool, false, List, [], ◌∷◌, ◌++◌, Some, None, drop, length, min, nat_lt, slice_get, string_bytes, take, vec_len}
use Rattle.std.specs.List.{list_any}
use Rattle.mcal_base.specs.declared.directive.Directive.{Directive}
use Rattle.bench_sweep.specs.Groups.{settled}
use Rattle.bench_sweep.specs.Outcomes.{AreDifferent, Tells}
use Rattle.bench_sweep.specs.Placed.{block_on, block_up, put_in}
use Rattle.bench_sweep.specs.Places.{places}
use Rattle.bench_sweep.specs.Reports.{telling_of}
use Rattle.bench_sweep.specs.declared.groups.Tried.{Tried}
use Rattle.bench_sweep.specs.declared.outcomes.Outcome.{Outcome}
use Rattle.bench_sweep.specs.declared.places.BlockPlace.{BlockPlace}
use Rattle.sweep_trials.specs.Counts.{counts}
use Rattle.sweep_trials.specs.Grown.{IsSeen}
use Rattle.sweep_trials.specs.declared.followed.Followed.{Followed}
use Rattle.sweep_trials.specs.declared.opened.Opened.{Opened}
use Rattle.sweep_trials.specs.declared.reactions.Following.{Following}
use Rattle.sweep_trials.specs.declared.seen.RunSeen.{RunSeen}
use Rattle.sweep_trials.specs.declared.sweeping.Moment.{Moment}
use Rattle.sweep_trials.specs.declared.swept.Swept.{Swept}

-- A block was opened: it was run behind so many directives, with calls that follow notices, and each of its directives made
-- so many steps in that run. The steps of the run are kept, with their moves.
pub record IsOpened (of_run : List Directive → RunSeen → Type 0) (following : Following) (first : List Directive) (count : ℕ) (o : Opened) : Type 0 where
  pub found : Followed
  pub seen : IsSeen of_run following first found
  pub before : o.before.items ≡ take count found.directives.items
  pub block : o.block.items ≡ drop count found.directives.items
  pub steps : o.steps.items ≡ drop count (counts (vec_len found.directives) found.seen.steps.items)
  pub made : o.seen.items ≡ found.seen.steps.items
  pub moves : o.moves.items ≡ found.seen.moves.items
  pub named : vec_len o.moves ≡ vec_len o.seen

-- some directive of the block makes a step
abbrev pub has_steps : Opened → Bool
has_steps o = list_any (λ n. nat_lt 0 n) o.steps.items

-- the same behind what runs before the block, in which calls follow notices too
pub record IsBlock (of_run : List Directive → RunSeen → Type 0) (following : Following) (before block : List Directive) (o : Opened) : Type 0 where
  pub ahead : Followed
  pub seen : IsSeen of_run following before ahead
  pub opened : IsOpened of_run following (ahead.directives.items ++ block) (vec_len ahead.directives) o

-- the block that begins at a place of another, with something placed there
abbrev pub IsInner : (of_run : List Directive → RunSeen → Type 0) (following : Following) (o : Opened) (placed : List Directive) → BlockPlace → Opened → Type 0
IsInner of_run following o placed place inner =
    IsOpened of_run following (o.before.items ++ block_up o.block.items place ++ placed ++ block_on o.block.items o.steps.items place) (length (o.before.items ++ block_up o.block.items place)) inner

-- the outcome of a number is what a run of these directives told
pub record IsTrial (of_run : List Directive → RunSeen → Type 0) (following : Following) (outcomes : List Outcome) (first : List Directive) (number : ℕ) : Type 0 where
  pub found : Followed
  pub seen : IsSeen of_run following first found
  pub tells : Tells outcomes number (telling_of found.flat.lines.items (string_bytes found.seen.report))

-- the place of a number in an opened block was tried: the outcome is that of the run in which something is placed there
abbrev pub IsTriedAt : (of_run : List Directive → RunSeen → Type 0) (following : Following) (placed behind : List Directive) (o : Opened) (outcomes : List Outcome) → ℕ → ℕ → Type 0
IsTriedAt of_run following placed behind o outcomes number outcome = (p : BlockPlace) → slice_get (places o.block.items o.steps.items) number ≡ Some p →
    IsTrial of_run following outcomes (put_in o.before.items placed o.block.items behind o.steps.items p) outcome

-- the places from one on were tried, one after another
abbrev pub AreTried : (of_run : List Directive → RunSeen → Type 0) (following : Following) (placed behind : List Directive) (o : Opened) (outcomes : List Outcome) → ℕ → List Tried → Type 0
AreTried of_run following placed behind o outcomes from all = (i : ℕ) (t : Tried) → slice_get all i ≡ Some t → IsTriedAt of_run following placed behind o outcomes (from + i) t.outcome

-- outcomes keep their numbers, and stay different
pub record AreKept (before after : List Outcome) : Type 0 where
  pub numbers : (n : ℕ) (o : Outcome) → slice_get before n ≡ Some o → slice_get after n ≡ Some o
  pub differ : AreDifferent before → AreDifferent after

-- the first of so many places that is behind a part
abbrev pub part_end : ℕ → ℕ → ℕ → ℕ
part_end places part zero = 0
part_end places part (suc n) = min (places * part / (n + 1)) places

-- what is placed at each place of a part, in their order, and nowhere else
abbrev pub once_from : ℕ → ℕ → List Moment
once_from number zero = []
once_from number (suc n) = record { number = number; first = number; second = None } ∷ once_from (number + 1) n

-- The places of a part were tried, each once and in their order, and those behind it where what is placed waits: what is told
-- of each is what comes of it, and the outcomes at the first place and at the last are those of its runs.
pub record IsSweptOnce (of_run : List Directive → RunSeen → Type 0) (following : Following) (placed behind : List Directive) (o : Opened) (from until : ℕ) (stops : Bool) (s : Swept) : Type 0 where
  pub differ : AreDifferent s.outcomes.items
  pub tried : List Tried
  pub each : AreTried of_run following placed behind o s.outcomes.items from tried
  pub settled : s.settled.items ≡ take (until - from) (settled tried)
  pub moments : s.moments.items ≡ take (vec_len s.settled) (once_from from (until - from))
  pub all : stops ≡ false → vec_len s.settled ≡ until - from
  pub before : IsTriedAt of_run following placed behind o s.outcomes.items 0 s.before
  pub at_end : IsTriedAt of_run following placed behind o s.outcomes.items (vec_len o.all - 1) s.behind
