-- A run of a block, how many steps its directives make in it, and where it may be cut.
use Rattle.std.specs.Prelude.{◌≡◌, ◌⊎◌, ℕ, ◌<◌, ◌++◌, false, List, [], ◌∷◌, Some, slice_get}
use Rattle.mcal_base.specs.declared.config.whole.Config.{Config}
use Rattle.mcal_base.specs.declared.directive.Directive.{Directive}
use Rattle.mcal_base.specs.declared.directive.Request.{Request}
use Rattle.run_model.specs.declared.item.Stepped.{Stepped}
use Rattle.run_model.specs.Entry as entry
use Rattle.run_model.specs.Follows.{Follows, Gives, deeds_in}
use Rattle.run_model.specs.Frame.{resets_chip}
use Rattle.run_model.specs.Moment.{Moment, Setting, after_all}
use Rattle.run_model.specs.Stops.{steps_in}
use Rattle.mcal_drivers.specs.Setting.{SystemCall, SystemState, call_of, system_setting}
use Rattle.bench_sweep.specs.Placed.{block_up}
use Rattle.bench_sweep.specs.Places.{at, places}
use Rattle.bench_sweep.specs.declared.places.BlockPlace.{BlockPlace}
use Rattle.bench_sweep.specs.declared.places.Spot.TheVariants.{Begun, Behind}
use Rattle.sweep_laws.specs.Moments.{IsAmong}

-- a directive's items, among which there are so many steps, and then those of the others
pub record StepsThen {State Call : Type 0} (g : Setting State Call) (call_of : Request → Call) (m : Moment State Call) (d : Directive) (n : ℕ) (items : List entry.Entry) (Later : Moment State Call → List entry.Entry → Type 0) : Type 0 where
  pub first : List entry.Entry
  pub later : List entry.Entry
  pub is : items ≡ first ++ later
  pub gives : Gives g call_of m d.line d.order first
  pub made : steps_in first ≡ n
  pub rest : Later (after_all g m (deeds_in call_of d.order first)) later

-- the items are those of the directives, in their order, and each directive makes so many steps
abbrev pub Makes : {State Call : Type 0} → Setting State Call → (Request → Call) → Moment State Call → List Directive → List ℕ → List entry.Entry → Type 0
Makes g call_of m [] ns items = items ≡ []
Makes g call_of m (d ∷ ds) [] items = ⊥
Makes g call_of m (d ∷ ds) (n ∷ ns) items = StepsThen g call_of m d n items (λ m1 later. Makes g call_of m1 ds ns later)

-- the last of some items is a step, which doesn't reset the chip
pub record EndsByStep (items : List entry.Entry) : Type 0 where
  pub before : List entry.Entry
  pub last : entry.Entry
  pub is : items ≡ before ++ last ∷ []
  pub step : Stepped
  pub steps : last.said ≡ entry.Steps step
  pub goes_on : resets_chip step.made ≡ false

-- items are those of a block up to one of its places
pub record StopsAtPlace (config : Config) (m : Moment SystemState SystemCall) (block : List Directive) (steps : List ℕ) (items : List entry.Entry) : Type 0 where
  pub place : BlockPlace
  pub among : IsAmong (places block steps) place
  pub follows : Follows (system_setting config) call_of m (block_up block place) items

-- the last of some items is a beginning
pub record EndsByBeginning (items : List entry.Entry) : Type 0 where
  pub before : List entry.Entry
  pub last : entry.Entry
  pub is : items ≡ before ++ last ∷ []
  pub begins : last.said ≡ entry.Begins

-- items are those of a block up to the place behind a line that begins a frame and makes no step, or to that behind the
-- beginning of a frame that a line begins and steps
pub record StopsAtBeginning (config : Config) (m : Moment SystemState SystemCall) (block : List Directive) (steps : List ℕ) (items : List entry.Entry) : Type 0 where
  pub number : ℕ
  pub made : ℕ
  pub makes : slice_get steps number ≡ Some made
  pub how : (IsAmong (places block steps) (at number Behind) × Follows (system_setting config) call_of m (block_up block (at number Behind)) items)
      ⊎ ((0 < made → IsAmong (places block steps) (at number Begun)) × Follows (system_setting config) call_of m (block_up block (at number Begun)) items)
