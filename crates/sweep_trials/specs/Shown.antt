-- The run of one place, by its number.
use Rattle.std.specs.Prelude.{◌≡◌, ℕ, ◌+◌, ◌<◌, List, Some, length, slice_get, sum_by, vec_len}
use Rattle.mcal_base.specs.declared.directive.Directive.{Directive}
use Rattle.bench_sweep.specs.Placed.{put_in}
use Rattle.bench_sweep.specs.Places.{places}
use Rattle.bench_sweep.specs.declared.places.BlockPlace.{BlockPlace}
use Rattle.sweep_trials.specs.Grown.{IsSeen}
use Rattle.sweep_trials.specs.Trials.{IsInner}
use Rattle.sweep_trials.specs.declared.followed.Followed.{Followed}
use Rattle.sweep_trials.specs.declared.opened.Opened.{Opened}
use Rattle.sweep_trials.specs.declared.reactions.Following.{Following}
use Rattle.sweep_trials.specs.declared.seen.RunSeen.{RunSeen}

-- the block that begins at the place of a number, with what is placed there
abbrev pub IsInnerAt : (of_run : List Directive → RunSeen → Type 0) (following : Following) (o : Opened) (placed : List Directive) → ℕ → Opened → Type 0
IsInnerAt of_run following o placed number inner = (p : BlockPlace) → slice_get (places o.block.items o.steps.items) number ≡ Some p → IsInner of_run following o placed p inner

-- Pairs are numbered one first place after another: so many pairs stand before the one of a first place and a second.
pub record IsPairAt (of_run : List Directive → RunSeen → Type 0) (following : Following) (placed : List Directive) (o : Opened) (number first second : ℕ) : Type 0 where
  pub before : List Opened
  pub each : (i : ℕ) (inner : Opened) → slice_get before i ≡ Some inner → IsInnerAt of_run following o placed i inner
  pub count : length before ≡ first
  pub numbered : number ≡ sum_by (λ inner. vec_len inner.all) before + second

-- what is seen of the run in which something is placed at the place of a number
abbrev pub IsSeenAt : (of_run : List Directive → RunSeen → Type 0) (following : Following) (placed behind : List Directive) (o : Opened) → ℕ → Followed → Type 0
IsSeenAt of_run following placed behind o number found = (p : BlockPlace) → slice_get (places o.block.items o.steps.items) number ≡ Some p → IsSeen of_run following (put_in o.before.items placed o.block.items behind o.steps.items p) found

-- the place of a number is there, and this is seen of its run
pub record IsPlaceSeen (of_run : List Directive → RunSeen → Type 0) (following : Following) (placed behind : List Directive) (o : Opened) (number : ℕ) (found : Followed) : Type 0 where
  pub there : number < vec_len o.all
  pub seen : IsSeenAt of_run following placed behind o number found

-- the same of the pair of a number: of its first place, and of its second one, of the block that begins there
pub record IsPairSeen (of_run : List Directive → RunSeen → Type 0) (following : Following) (placed second behind : List Directive) (o : Opened) (number : ℕ) (found : Followed) : Type 0 where
  pub first : ℕ
  pub left : ℕ
  pub there : first < vec_len o.all
  pub at : IsPairAt of_run following placed o number first left
  pub inner : Opened
  pub opened : IsInnerAt of_run following o placed first inner
  pub run : IsPlaceSeen of_run following second behind inner left found
