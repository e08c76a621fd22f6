-- What the run of a script leaves: a run of all modules' machine over a configuration, from power on with the chip that
-- the configuration wires, that has room for the words that the script gives to come in, and on which so many devices hang.
use Rattle.std.specs.Prelude.{◌≡◌, ℕ, ◌<◌, ◌≤◌, Bool, false, List, [], Option, Some, None}
use Rattle.mcal_base.specs.declared.config.whole.Config.{Config}
use Rattle.mcal_base.specs.declared.directive.Directive.{Directive}
use Rattle.mcal_base.specs.declared.directive.Order.{Order}
use Rattle.mcal_base.specs.declared.directive.Order.TheVariants.{Show}
use Rattle.mcal_base.specs.declared.directive.Shown.{Shown}
use Rattle.run_model.specs.Entry.{Entry}
use Rattle.run_model.specs.Moment.{start_moment}
use Rattle.run_model.specs.Stops.{steps_in}
use Rattle.script_runner.specs.Scripts.{IsRun, IsStopped, chip_for}
use Rattle.bench_report.specs.Report.{report, report_lines, end_of}
use Rattle.bench_report.specs.Rows.{Row}
use Rattle.bench_report.specs.Showing.{shows_from}
use Rattle.bench_report.specs.Shown.{kept, texts_of}
use Rattle.mcal_system.specs.Runs.{most_steps, bound_of, SystemRun}
use Rattle.mcal_system.specs.Setting.{system_setting, call_of}
use Rattle.shown_rows.specs.Shows.{show_rows}

-- The whole script was run.
pub record IsWholeRun (devices : ℕ) (config : Config) (script : List Directive) (journal : List Entry) : Type 0 where
  pub run : IsRun (system_setting config) (chip_for devices config script) call_of script journal
  pub steps : steps_in journal ≤ most_steps

-- The run stopped where one more step than the most would have been taken, which needs frames whose bounds come to more.
pub record IsStoppedRun (devices : ℕ) (config : Config) (script : List Directive) (journal : List Entry) : Type 0 where
  pub run : IsStopped (system_setting config) (chip_for devices config script) call_of most_steps script journal
  pub bound : most_steps < bound_of config script

-- what an order shows, where it is a show
abbrev pub shown_by : Order → Option Shown
shown_by (Show what) = Some what
shown_by _ = None

-- the rows of each show of a run, as the machine's state is there
abbrev pub shows_of : (devices : ℕ) → Config → List Directive → List Entry → List (List Row)
shows_of devices config script journal =
    shows_from (system_setting config) call_of (show_rows config) script
    (start_moment (system_setting config) (chip_for devices config script)) journal

-- the report of a run
abbrev pub report_of : (devices : ℕ) → (traced : Bool) → Config → List Directive → List Entry → List ℕ
report_of devices traced config script journal = report traced script journal (shows_of devices config script journal)

-- the last line of that report
abbrev pub end_line_of : (devices : ℕ) → Config → List Directive → List Entry → List ℕ
end_line_of devices config script journal = end_of (report_lines false [] (shows_of devices config script journal) script journal)

-- what was shown is kept
abbrev pub IsShown : (devices : ℕ) → Config → List Directive → List Entry → Option (List (List ℕ)) → Type 0
IsShown devices config script journal shown = shown ≡ kept (texts_of journal (shows_of devices config script journal))

-- the same of a run under way
abbrev pub IsKept : SystemRun → Option (List (List ℕ)) → Type 0
IsKept run shown = IsShown run.devices run.config run.script run.journal.entries shown
