-- When a sweep comes to no end.
use Rattle.std.specs.Prelude.{◌≡◌, ℕ, ◌+◌, ◌-◌, ◌*◌, ◌^◌, ◌<◌, ◌≤◌, ◌++◌, ◌||◌, Bool, true, false, List, [], ◌∷◌, Some, length, max, min, nat_lt, slice_get, sum_by, vec_len}
use Rattle.mcal_base.specs.declared.directive.Directive.{Directive}
use Rattle.bench_sweep.specs.Flat.{numbered_from}
use Rattle.bench_sweep.specs.Placed.{block_on, block_up, put_in}
use Rattle.bench_sweep.specs.Places.{places}
use Rattle.bench_sweep.specs.declared.groups.Tried.{Tried}
use Rattle.bench_sweep.specs.declared.outcomes.Outcome.{Outcome}
use Rattle.bench_sweep.specs.declared.places.BlockPlace.{BlockPlace}
use Rattle.sweep_trials.specs.Grown.{AreGrown, IsSeen, most_followed}
use Rattle.sweep_trials.specs.Shown.{IsInnerAt, IsPairAt}
use Rattle.sweep_trials.specs.Trials.{AreTried}
use Rattle.sweep_trials.specs.declared.followed.Followed.{Followed}
use Rattle.sweep_trials.specs.declared.opened.Opened.{Opened}
use Rattle.sweep_trials.specs.declared.reactions.Following.{Following}
use Rattle.sweep_trials.specs.declared.seen.RunSeen.{RunSeen}
use Rattle.sweep_trials.specs.declared.stop.Stop.{Stop}
use Rattle.sweep_trials.specs.declared.stop.Stop.TheVariants as stops
use Rattle.sweep_trials.specs.declared.sweeping.Moment.{Moment}

-- a stop has its reason, unless memory was wanting
abbrev pub Unless : (Stop → Type 0) → Stop → Type 0
Unless Reason stops.NoMemory = Unit {0}
Unless Reason stop = Reason stop

-- so many directives may a run have, and so many steps may all runs take
abbrev pub most_directives : ℕ
most_directives = 1100000

abbrev pub most_in_all : ℕ
most_in_all = 100000000

-- Directives in which calls follow notices come to no end: there are too many of them, a run of them stops at a limit of its own, or
-- one notice more is to be followed than may be.
pub data StopsRun (of_run : List Directive → RunSeen → Type 0) (at_limit : List Directive → Stop → Type 0) (f : Following) (first : List Directive) : Stop → Type 0 where
  Long : (put : ℕ) (now : List Directive) → AreGrown of_run f first put now → put ≤ most_followed → most_directives < length now → StopsRun of_run at_limit f first stops.TooManyDirectives
  Limit : (put : ℕ) (now : List Directive) (stop : Stop) → AreGrown of_run f first put now → put ≤ most_followed → length now ≤ most_directives → at_limit (numbered_from 1 now) stop → StopsRun of_run at_limit f first stop
  Notices : (now : List Directive) → AreGrown of_run f first (most_followed + 1) now → StopsRun of_run at_limit f first stops.TooManyNotices

-- a block isn't opened: what runs before it comes to no end, or what runs up to its end
pub data StopsOpening (of_run : List Directive → RunSeen → Type 0) (at_limit : List Directive → Stop → Type 0) (f : Following) (before block : List Directive) (stop : Stop) : Type 0 where
  Before : StopsRun of_run at_limit f before stop → StopsOpening of_run at_limit f before block stop
  Block : (found : Followed) → IsSeen of_run f before found → StopsRun of_run at_limit f (found.directives.items ++ block) stop → StopsOpening of_run at_limit f before block stop

-- the run comes to no end in which something is placed at the place of a number
pub record StopsAt (of_run : List Directive → RunSeen → Type 0) (at_limit : List Directive → Stop → Type 0) (f : Following) (placed behind : List Directive) (o : Opened) (number : ℕ) (stop : Stop) : Type 0 where
  pub place : BlockPlace
  pub is : slice_get (places o.block.items o.steps.items) number ≡ Some place
  pub stops : StopsRun of_run at_limit f (put_in o.before.items placed o.block.items behind o.steps.items place) stop

-- the block comes to no end that begins at the place of a number, with what is placed there
pub record StopsInner (of_run : List Directive → RunSeen → Type 0) (at_limit : List Directive → Stop → Type 0) (f : Following) (placed : List Directive) (o : Opened) (number : ℕ) (stop : Stop) : Type 0 where
  pub place : BlockPlace
  pub is : slice_get (places o.block.items o.steps.items) number ≡ Some place
  pub stops : StopsRun of_run at_limit f (o.before.items ++ block_up o.block.items place ++ placed ++ block_on o.block.items o.steps.items place) stop

-- The place of a number isn't shown: there are fewer, or its run comes to no end. Places are counted from 0.
pub data StopsShown (of_run : List Directive → RunSeen → Type 0) (at_limit : List Directive → Stop → Type 0) (f : Following) (placed behind : List Directive) (o : Opened) (number : ℕ) : Stop → Type 0 where
  NoPlace : vec_len o.all ≤ number → StopsShown of_run at_limit f placed behind o number (stops.NoPlace (vec_len o.all))
  At : (stop : Stop) → StopsAt of_run at_limit f placed behind o number stop → StopsShown of_run at_limit f placed behind o number stop

-- The same of a pair: a block is opened at one first place after another, up to the one whose pairs have the number.
pub data StopsPair (of_run : List Directive → RunSeen → Type 0) (at_limit : List Directive → Stop → Type 0) (f : Following) (placed second behind : List Directive) (o : Opened) (number : ℕ) : Stop → Type 0 where
  NoPlace : (left : ℕ) → IsPairAt of_run f placed o number (vec_len o.all) left → StopsPair of_run at_limit f placed second behind o number (stops.NoPlace (number - left))
  Inner : (first left : ℕ) (stop : Stop) → IsPairAt of_run f placed o number first left → StopsInner of_run at_limit f placed o first stop → StopsPair of_run at_limit f placed second behind o number stop
  At : (first left : ℕ) (inner : Opened) (stop : Stop) → IsPairAt of_run f placed o number first left → IsInnerAt of_run f o placed first inner → StopsAt of_run at_limit f second behind inner left stop → StopsPair of_run at_limit f placed second behind o number stop

-- So many steps take the runs of all places of a block: each as many as that in which nothing is placed, and one at least.
abbrev pub steps_of : Opened → ℕ
steps_of o = vec_len o.all * max 1 (vec_len o.seen)

-- blocks that begin at the first places, one after another
abbrev pub AreInners : (of_run : List Directive → RunSeen → Type 0) (f : Following) (placed : List Directive) (o : Opened) → List Opened → Type 0
AreInners of_run f placed o inners = (i : ℕ) (inner : Opened) → slice_get inners i ≡ Some inner → IsInnerAt of_run f o placed i inner

-- the runs of all pairs of so many first places take so many steps, which are counted up to the largest number of 64 bits
pub record HaveSteps (of_run : List Directive → RunSeen → Type 0) (f : Following) (placed : List Directive) (o : Opened) (count steps : ℕ) : Type 0 where
  pub inners : List Opened
  pub each : AreInners of_run f placed o inners
  pub all : length inners ≡ count
  pub steps_are : steps ≡ min (sum_by steps_of inners) (2 ^ 64 - 1)

-- all runs of a sweep take no more steps than they may
pub record AreFew (of_run : List Directive → RunSeen → Type 0) (f : Following) (placed : List Directive) (o : Opened) : Type 0 where
  pub inners : List Opened
  pub each : AreInners of_run f placed o inners
  pub all : length inners ≡ vec_len o.all
  pub few : sum_by steps_of inners ≤ most_in_all

-- the last place that was tried is one where what is placed waits
abbrev pub ends_waiting : List Tried → Bool
ends_waiting [] = false
ends_waiting (t ∷ []) = t.waits
ends_waiting (t ∷ u ∷ ts) = ends_waiting (u ∷ ts)

-- A place is to be tried: it is the first or the last one, or the next of a part, or of those behind it where what is placed waits.
pub data IsToTry (of_run : List Directive → RunSeen → Type 0) (f : Following) (placed behind : List Directive) (o : Opened) (from until : ℕ) : ℕ → Type 0 where
  First : IsToTry of_run f placed behind o from until 0
  Last : IsToTry of_run f placed behind o from until (vec_len o.all - 1)
  Next : (outcomes : List Outcome) (tried : List Tried) → AreTried of_run f placed behind o outcomes from tried → (nat_lt (from + length tried) until || ends_waiting tried) ≡ true → IsToTry of_run f placed behind o from until (from + length tried)

-- the run of a place that is to be tried comes to no end
pub record StopsTrying (of_run : List Directive → RunSeen → Type 0) (at_limit : List Directive → Stop → Type 0) (f : Following) (placed behind : List Directive) (o : Opened) (from until : ℕ) (stop : Stop) : Type 0 where
  pub number : ℕ
  pub try : IsToTry of_run f placed behind o from until number
  pub stops : StopsAt of_run at_limit f placed behind o number stop

-- the same of a pair, or the block of its first place comes to no end
pub data StopsTryingPairs (of_run : List Directive → RunSeen → Type 0) (at_limit : List Directive → Stop → Type 0) (f : Following) (placed second behind : List Directive) (o : Opened) (stop : Stop) : Type 0 where
  Inner : (first : ℕ) → StopsInner of_run at_limit f placed o first stop → StopsTryingPairs of_run at_limit f placed second behind o stop
  At : (first : ℕ) (inner : Opened) → IsInnerAt of_run f o placed first inner → StopsTrying of_run at_limit f second behind inner 0 (vec_len inner.all) stop → StopsTryingPairs of_run at_limit f placed second behind o stop

-- A sweep isn't made: its runs would take too many steps in all, or one of them comes to no end.
pub data StopsOnce (of_run : List Directive → RunSeen → Type 0) (at_limit : List Directive → Stop → Type 0) (f : Following) (placed behind : List Directive) (o : Opened) (from until : ℕ) : Stop → Type 0 where
  InAll : most_in_all < steps_of o → StopsOnce of_run at_limit f placed behind o from until stops.TooManyInAll
  Trying : (stop : Stop) → steps_of o ≤ most_in_all → StopsTrying of_run at_limit f placed behind o from until stop → StopsOnce of_run at_limit f placed behind o from until stop

-- the same of pairs
pub data StopsTwice (of_run : List Directive → RunSeen → Type 0) (at_limit : List Directive → Stop → Type 0) (f : Following) (placed second behind : List Directive) (o : Opened) : Stop → Type 0 where
  InAll : (inners : List Opened) → AreInners of_run f placed o inners → most_in_all < sum_by steps_of inners → StopsTwice of_run at_limit f placed second behind o stops.TooManyInAll
  Inner : (first : ℕ) (stop : Stop) → StopsInner of_run at_limit f placed o first stop → StopsTwice of_run at_limit f placed second behind o stop
  Trying : (stop : Stop) → AreFew of_run f placed o → StopsTryingPairs of_run at_limit f placed second behind o stop → StopsTwice of_run at_limit f placed second behind o stop

-- The block of a pair doesn't open once more, for its name. A place that isn't there has the name of the last one.
pub record StopsName (of_run : List Directive → RunSeen → Type 0) (at_limit : List Directive → Stop → Type 0) (f : Following) (placed : List Directive) (o : Opened) (m : Moment) (stop : Stop) : Type 0 where
  pub second : ℕ
  pub pair : m.second ≡ Some second
  pub stops : StopsInner of_run at_limit f placed o (min m.first (vec_len o.all - 1)) stop

-- the same of one of the pairs that are told of
pub record StopsNaming (of_run : List Directive → RunSeen → Type 0) (at_limit : List Directive → Stop → Type 0) (f : Following) (placed : List Directive) (o : Opened) (moments : List Moment) (stop : Stop) : Type 0 where
  pub number : ℕ
  pub moment : Moment
  pub told : slice_get moments number ≡ Some moment
  pub name : StopsName of_run at_limit f placed o moment stop
