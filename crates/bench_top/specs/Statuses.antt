-- When a bench file ends with which status, said of its bytes: the words are of a form, no fault is met, and memory is found.
use Rattle.std.specs.Prelude.{◌≡◌, ℕ, ◌<◌, ◌≤◌, ◌↔◌, ◌⊎◌, List, length, Bool, true, false, Some, None, Ok, Err}
use Rattle.mcal_base.specs.declared.config.whole.Config.{Config}
use Rattle.mcal_base.specs.declared.directive.Directive.{Directive}
use Rattle.run_model.specs.Entry.{Entry}
use Rattle.config_keys.specs.declared.fault.ConfigFault.{ConfigFault}
use Rattle.mcal_config.specs.Whole.{fault_of, record_of}
use Rattle.bench_script.specs.Lines.{file}
use Rattle.bench_script.specs.Script.{script}
use Rattle.bench_script.specs.declared.fault.ScriptFault.{ScriptFault}
use Rattle.bench_script.specs.declared.fault.ScriptFault.TheVariants.{Long}
use Rattle.bench_report.specs.Limit.{most_bytes}
use Rattle.bench_top.specs.Runs.{IsWholeRun, IsStoppedRun, report_of}
use Rattle.bench_top.specs.Tail.{is_traced}
use Rattle.bench_top.specs.declared.top.Outcome.{Outcome}
use Rattle.bench_top.specs.declared.words.Printing.{Printing}
use Rattle.bench_top.specs.declared.words.Task.{Task}
use Rattle.bench_top.specs.declared.words.Task.TheVariants.{Check, Run}

-- The bytes are not too many, and a separator stands between these two texts.
pub record HasParts (bytes front back : List ℕ) : Type 0 where
  pub few : length bytes ≤ 1048576
  pub parts : file bytes ≡ Some (front, back)

-- The first of them is this configuration.
pub record HasConfig (bytes back : List ℕ) (config : Config) : Type 0 where
  pub front : List ℕ
  pub parts : HasParts bytes front back
  pub faultless : fault_of front ≡ None
  pub recorded : record_of front ≡ Some config

-- And the second is a script.
pub record HasScript (bytes : List ℕ) (config : Config) (directives : List Directive) : Type 0 where
  pub back : List ℕ
  pub configured : HasConfig bytes back config
  pub read : script back ≡ Ok directives

-- one directive too many
abbrev pub is_long : ScriptFault → Bool
is_long (Long line) = true
is_long _ = false

-- Status 5 before any run: a limit on what comes in.
pub data IsTooLong (bytes : List ℕ) : Type 0 where
  Bytes : 1048576 < length bytes → IsTooLong bytes
  Directives : (back : List ℕ) (config : Config) (line : ℕ) → HasConfig bytes back config → script back ≡ Err (Long line) → IsTooLong bytes

-- Status 6: the configuration has a fault.
pub record IsConfigRefused (bytes : List ℕ) : Type 0 where
  pub front : List ℕ
  pub back : List ℕ
  pub fault : ConfigFault
  pub parts : HasParts bytes front back
  pub refused : fault_of front ≡ Some fault

-- Status 7: no separator, or a line that is refused.
pub data IsScriptRefused (bytes : List ℕ) : Type 0 where
  NoParts : length bytes ≤ 1048576 → file bytes ≡ None → IsScriptRefused bytes
  BadLine : (back : List ℕ) (config : Config) (fault : ScriptFault) → HasConfig bytes back config → script back ≡ Err fault →
      is_long fault ≡ false → IsScriptRefused bytes

-- Both parts are right: `check` ends with status 0.
pub record IsChecked (task : Task) (bytes : List ℕ) : Type 0 where
  pub config : Config
  pub directives : List Directive
  pub asked : task ≡ Check
  pub read : HasScript bytes config directives

-- Both parts are right, and a run is asked for.
pub record IsRunnable (task : Task) (bytes : List ℕ) (printing : Printing) (config : Config) (directives : List Directive) : Type 0 where
  pub asked : task ≡ Run printing
  pub read : HasScript bytes config directives

-- Status 5 of a run: it stopped where one more step than the most would be taken, or its report would be too long.
pub data IsRunTooLong (devices : ℕ) (task : Task) (bytes : List ℕ) (entries : List Entry) : Type 0 where
  Steps : (printing : Printing) (config : Config) (directives : List Directive) → IsRunnable task bytes printing config directives →
      IsStoppedRun devices config directives entries → IsRunTooLong devices task bytes entries
  Report : (printing : Printing) (config : Config) (directives : List Directive) → IsRunnable task bytes printing config directives →
      IsWholeRun devices config directives entries → most_bytes < length (report_of devices (is_traced printing) config directives entries) →
      IsRunTooLong devices task bytes entries

-- Status 0 of a run: it came to its end, and its report is no longer than it may be.
pub data IsRunDone (devices : ℕ) (task : Task) (bytes : List ℕ) (entries : List Entry) : Type 0 where
  Done : (printing : Printing) (config : Config) (directives : List Directive) → IsRunnable task bytes printing config directives →
      IsWholeRun devices config directives entries → length (report_of devices (is_traced printing) config directives entries) ≤ most_bytes →
      IsRunDone devices task bytes entries

-- The status that a file comes to, by its bytes and by the journal that its run left.
pub record IsDecided (devices : ℕ) (task : Task) (bytes : List ℕ) (outcome : Outcome) : Type 0 where
  pub done : (outcome.status ≡ 0) ↔ (IsChecked task bytes ⊎ IsRunDone devices task bytes outcome.journal.entries)
  pub too_long : (outcome.status ≡ 5) ↔ (IsTooLong bytes ⊎ IsRunTooLong devices task bytes outcome.journal.entries)
  pub configuration : (outcome.status ≡ 6) ↔ IsConfigRefused bytes
  pub script : (outcome.status ≡ 7) ↔ IsScriptRefused bytes
