-- A script that may be run.
use Rattle.std.specs.Prelude.{◌≡◌, ℕ, ◌+◌, ◌<◌, ◌≤◌, Bool, true, Some, List, [], ◌∷◌, length, sum_by}
use Rattle.chip_model.specs.Chip.{Chip, power_on, hung}
use Rattle.mcal_base.specs.declared.config.whole.Config.{Config}
use Rattle.mcal_base.specs.declared.directive.Directive.{Directive}
use Rattle.mcal_base.specs.declared.directive.Order.{Order}
use Rattle.mcal_base.specs.declared.directive.Order.TheVariants as orders
use Rattle.mcal_base.specs.declared.directive.Request.{Request}
use Rattle.mcal_base.specs.declared.service.Service.{Service}
use Rattle.run_model.specs.Entry.{Entry}
use Rattle.run_model.specs.Follows.{Follows}
use Rattle.run_model.specs.Legal.{IsLegal}
use Rattle.run_model.specs.Moment.{Setting, start_moment}
use Rattle.run_model.specs.Script.{deeds_of, beginnings_of}
use Rattle.run_model.specs.Stops.{FollowsToStop, steps_in}
use Rattle.script_runner.specs.Standing.{is_built, words_by, bounds_of}

-- the lines rise, from above this one
abbrev pub LinesRise : ℕ → List Directive → Type 0
LinesRise low [] = Unit {0}
LinesRise low (d ∷ ds) = (low < d.line) × LinesRise d.line ds

-- each directive is one that this stage obeys
abbrev pub AllBuilt : List Directive → Type 0
AllBuilt [] = Unit {0}
AllBuilt (d ∷ ds) = (is_built d.order ≡ true) × AllBuilt ds

-- the lines rise, each directive is built, and there are no more than an input can have
pub record IsScript (script : List Directive) : Type 0 where
  pub lines : LinesRise 0 script
  pub built : AllBuilt script
  pub few : length script ≤ 1100000

-- the service that an order asks for, where it asks for one, is one of these
abbrev pub is_offered : (Service → Bool) → Order → Bool
is_offered offered (orders.Call level r) = offered r.service
is_offered offered (orders.Do level r) = offered r.service
is_offered offered _ = true

-- each service that a script asks for is one of these
abbrev pub AllOffered : (Service → Bool) → List Directive → Type 0
AllOffered offered [] = Unit {0}
AllOffered offered (d ∷ ds) = (is_offered offered d.order ≡ true) × AllOffered offered ds

-- the words that a script brings
abbrev pub words_given : List Directive → ℕ
words_given script = sum_by (λ d. words_by d.order) script

-- the chip at power on for the run of a script, with room for those words on each serial unit, and so many devices
abbrev pub chip_for : (devices : ℕ) → Config → List Directive → Chip
chip_for devices config script = hung devices (power_on config (words_given script))

-- the most steps of all frames that a script's directives begin
abbrev pub script_bound : {State Call : Type 0} → Setting State Call → (Request → Call) → List Directive → ℕ
script_bound g call_of [] = 0
script_bound g call_of (x ∷ xs) = bounds_of g (beginnings_of call_of (Some x.order)) + script_bound g call_of xs

-- A journal is a run of a script from power on with this chip: it says what the directives ask for, one after another, and what happened is legal.
pub record IsRun {State Call : Type 0} (setting : Setting State Call) (first : Chip) (call_of : Request → Call) (script : List Directive) (journal : List Entry) : Type 0 where
  pub follows : Follows setting call_of (start_moment setting first) script journal
  pub legal : IsLegal setting (start_moment setting first) (deeds_of call_of script journal)

-- A journal is a run of a script, from power on with this chip, that stopped after so many steps: it says what the directives ask for up to there, where one more step is asked for, and what happened is legal.
pub record IsStopped {State Call : Type 0} (setting : Setting State Call) (first : Chip) (call_of : Request → Call) (most : ℕ) (script : List Directive) (journal : List Entry) : Type 0 where
  pub follows : FollowsToStop setting call_of (start_moment setting first) script journal
  pub legal : IsLegal setting (start_moment setting first) (deeds_of call_of script journal)
  pub steps : steps_in journal ≡ most
