-- Directives in which calls were put behind notices.
use Rattle.std.specs.Prelude.{◌≡◌, ℕ, ◌+◌, ◌≤◌, List, ◌∷◌, ◌++◌}
use Rattle.mcal_base.specs.declared.directive.Directive.{Directive}
use Rattle.bench_sweep.specs.Flat.{lines_of, numbered_from}
use Rattle.bench_sweep.specs.Placed.{block_on, block_up}
use Rattle.bench_sweep.specs.Places.{at}
use Rattle.bench_sweep.specs.declared.places.Spot.TheVariants.{Step}
use Rattle.sweep_trials.specs.Follows.{AreAllFollowed, IsUnfollowed}
use Rattle.sweep_trials.specs.declared.followed.Followed.{Followed}
use Rattle.sweep_trials.specs.declared.reactions.Following.{Following}
use Rattle.sweep_trials.specs.declared.seen.RunSeen.{RunSeen}

-- directives that make so many steps each, with a call behind so many steps of one of them
abbrev pub with_call_behind : List Directive → List ℕ → (directive made : ℕ) → Directive → List Directive
with_call_behind directives steps directive made call = block_up directives (at directive (Step made)) ++ call ∷ block_on directives steps (at directive (Step made))

-- a call was put right behind a step whose notice none follows, in a run
pub record IsGrown (of_run : List Directive → RunSeen → Type 0) (f : Following) (before after : List Directive) : Type 0 where
  pub seen : RunSeen
  pub run : of_run (numbered_from 1 before) seen
  pub directive : ℕ
  pub made : ℕ
  pub number : ℕ
  pub steps : List ℕ
  pub unfollowed : IsUnfollowed f before seen.steps.items directive made number steps
  pub is : after ≡ with_call_behind before steps directive made unfollowed.reaction.directive

-- calls were put behind so many notices, one after another
pub data AreGrown (of_run : List Directive → RunSeen → Type 0) (f : Following) (first : List Directive) : ℕ → List Directive → Type 0 where
  Same : AreGrown of_run f first 0 first
  More : (n : ℕ) (now next : List Directive) → AreGrown of_run f first n now → IsGrown of_run f now next → AreGrown of_run f first (n + 1) next

-- so many notices may be followed in a run
abbrev pub most_followed : ℕ
most_followed = 1000

-- What was seen of directives in which calls follow notices: a run of their flat script, in which each notice that a call is to
-- follow is followed by one of its own, and no other call was put.
pub record IsSeen (of_run : List Directive → RunSeen → Type 0) (following : Following) (first : List Directive) (found : Followed) : Type 0 where
  pub put : ℕ
  pub few : put ≤ most_followed
  pub grown : AreGrown of_run following first put found.directives.items
  pub script : found.flat.script.items ≡ numbered_from 1 found.directives.items
  pub lines : found.flat.lines.items ≡ lines_of found.directives.items
  pub run : of_run found.flat.script.items found.seen
  pub followed : AreAllFollowed following found.directives.items found.seen.steps.items

-- without calls that follow notices the flat script is that of the directives that were given
abbrev pub IsPlain : (of_run : List Directive → RunSeen → Type 0) (first : List Directive) (found : Followed) → Type 0
IsPlain of_run first found = (found.flat.script.items ≡ numbered_from 1 first) × (found.flat.lines.items ≡ lines_of first) × of_run (numbered_from 1 first) found.seen
