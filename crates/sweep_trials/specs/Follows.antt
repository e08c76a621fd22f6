-- How calls stand behind the notices that they follow.
use Rattle.std.specs.Prelude.{◌≡◌, ℕ, ◌+◌, ◌<◌, ◌≤◌, ◌==◌, ◌&&◌, ◌||◌, ◌++◌, nat_lt, not, Bool, true, false, List, [], ◌∷◌, Option, Some, None, bytes_eq, length, slice_get, take}
use Rattle.std.specs.List.{list_any, position}
use Rattle.mcal_base.specs.Names.{notice_text}
use Rattle.mcal_base.specs.declared.directive.Directive.{Directive}
use Rattle.mcal_base.specs.declared.directive.Order.{Order}
use Rattle.mcal_base.specs.declared.directive.Order.TheVariants.{Call, Do}
use Rattle.mcal_base.specs.declared.notice.Notice.{Notice}
use Rattle.sweep_trials.specs.Counts.{counts, steps_on}
use Rattle.sweep_trials.specs.declared.reactions.Following.{Following}
use Rattle.sweep_trials.specs.declared.reactions.Reaction.{Reaction}
use Rattle.sweep_trials.specs.declared.seen.StepSeen.{StepSeen}

-- two notices are the same: of one callback and one object
abbrev pub is_same : Notice → Notice → Bool
is_same notice other = notice.id == other.id && bytes_eq (notice_text notice.kind) (notice_text other.kind)

-- which call follows a notice: the first of those for it
abbrev pub reaction_to : List Reaction → Notice → Option ℕ
reaction_to calls notice = position (λ r. is_same r.notice notice) calls

-- which call follows what a step gives
abbrev pub call_behind : List Reaction → Option Notice → Option ℕ
call_behind calls None = None
call_behind calls (Some notice) = reaction_to calls notice

-- a call is to follow what a step of a directive gives
pub record IsWanted (calls : List Reaction) (count : ℕ) (step : StepSeen) (directive reaction : ℕ) : Type 0 where
  pub line : step.line ≡ directive + 1
  pub within : directive < count
  pub call : call_behind calls step.notice ≡ Some reaction
  pub there : reaction < length calls

-- no call is to follow what a step gives, if it is one of so many directives
abbrev pub IsQuiet : List Reaction → ℕ → StepSeen → Type 0
IsQuiet calls count step = 0 < step.line → step.line ≤ count → call_behind calls step.notice ≡ None

-- a call stands on a line
abbrev pub is_call_line : List Reaction → ℕ → Bool
is_call_line calls line = list_any (λ r. r.directive.line == line) calls

-- what is from a line may stand between a notice and its call: what is placed, and the calls behind other notices
abbrev pub may_intrude : Following → ℕ → Bool
may_intrude f line = (nat_lt f.sweep line && nat_lt line f.over) || is_call_line f.calls.now line

-- begins a call
abbrev pub begins_call : Order → Bool
begins_call (Call level request) = true
begins_call (Do level request) = true
begins_call _ = false

-- begins the call from a line
abbrev pub is_call_from : ℕ → Directive → Bool
is_call_from line d = d.line == line && begins_call d.order

-- the directive at a place begins the call from a line, and follows no other notice
abbrev pub is_free_call : (line : ℕ) (taken : List ℕ) (at : ℕ) → Directive → Bool
is_free_call line taken at d = is_call_from line d && not (list_any (λ place. place == at) taken)

-- The call from a line stands right behind a directive: it is the first that follows no other notice, and nothing is between them but
-- what may.
pub record StandsBehind (f : Following) (directives : List Directive) (taken : List ℕ) (directive line at : ℕ) : Type 0 where
  pub call : Directive
  pub there : slice_get directives at ≡ Some call
  pub free : is_free_call line taken at call ≡ true
  pub behind : directive < at
  pub first : (k : ℕ) (d : Directive) → directive < k → k < at → slice_get directives k ≡ Some d → is_free_call line taken k d ≡ false
  pub between : (k : ℕ) (d : Directive) → directive < k → k < at → slice_get directives k ≡ Some d → may_intrude f d.line ≡ true

-- no call from a line stands right behind a directive
abbrev pub StandsAlone : Following → List Directive → List ℕ → ℕ → ℕ → Type 0
StandsAlone f directives taken directive line = (at : ℕ) → StandsBehind f directives taken directive line at → ⊥

-- A step, behind others, gives a notice that is followed by the call at a place: the step is the last one of its directive in the
-- whole run, and the call stands right behind that.
pub record IsFollowed (f : Following) (directives : List Directive) (whole before : List StepSeen) (taken : List ℕ) (step : StepSeen) (at : ℕ) : Type 0 where
  pub directive : ℕ
  pub number : ℕ
  pub reaction : Reaction
  pub wanted : IsWanted f.calls.now (length directives) step directive number
  pub is : slice_get f.calls.now number ≡ Some reaction
  pub last : steps_on step.line (before ++ step ∷ []) ≡ steps_on step.line whole
  pub stands : StandsBehind f directives taken directive reaction.directive.line at

-- Each notice among some steps of a run that a call is to follow is followed by one of its own: the calls are at these places.
pub data AreFollowed (f : Following) (directives : List Directive) (whole : List StepSeen) : List StepSeen → List ℕ → Type 0 where
  Start : AreFollowed f directives whole [] []
  Quiet : (before : List StepSeen) (taken : List ℕ) (step : StepSeen) → AreFollowed f directives whole before taken → IsQuiet f.calls.now (length directives) step → AreFollowed f directives whole (before ++ step ∷ []) taken
  Next : (before : List StepSeen) (taken : List ℕ) (step : StepSeen) (at : ℕ) → AreFollowed f directives whole before taken → IsFollowed f directives whole before taken step at → AreFollowed f directives whole (before ++ step ∷ []) (taken ++ at ∷ [])

-- A directive gives a notice with the last of so many of its steps.
pub record GivesAt (seen : List StepSeen) (directive made : ℕ) (notice : Notice) : Type 0 where
  pub number : ℕ
  pub step : StepSeen
  pub given : Notice
  pub is : slice_get seen number ≡ Some step
  pub line : step.line ≡ directive + 1
  pub gives : step.notice ≡ Some given
  pub same : is_same notice given ≡ true
  pub count : steps_on step.line (take (number + 1) seen) ≡ made

-- each notice of a run that a call is to follow is followed by one of its own
pub record AreAllFollowed (f : Following) (directives : List Directive) (seen : List StepSeen) : Type 0 where
  pub taken : List ℕ
  pub each : AreFollowed f directives seen seen taken

-- A notice of a run, which a directive gives with the last of so many of its steps, is the first that a call is to follow and doesn't.
-- The directives make so many steps each in the run.
pub record IsUnfollowed (f : Following) (directives : List Directive) (seen : List StepSeen) (directive made number : ℕ) (steps : List ℕ) : Type 0 where
  pub there : directive < length directives
  pub counted : steps ≡ counts (length directives) seen
  pub reaction : Reaction
  pub is : slice_get f.calls.now number ≡ Some reaction
  pub gives : GivesAt seen directive made reaction.notice
  pub taken : List ℕ
  pub followed : AreFollowed f directives seen (take gives.number seen) taken
  pub alone : (at : ℕ) → IsFollowed f directives seen (take gives.number seen) taken gives.step at → ⊥
