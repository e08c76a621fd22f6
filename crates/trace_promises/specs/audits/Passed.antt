-- What a call of the bench has printed of a run, what an audit of it says, and what a report is that an audit passes.
use Rattle.std.specs.Prelude.{◌≡◌, ℕ, ◌≤◌, List, length, Some}
use Rattle.config_facts.specs.Valid.{IsValid}
use Rattle.mcal_base.specs.declared.config.whole.Config.{Config}
use Rattle.mcal_base.specs.declared.directive.Directive.{Directive}
use Rattle.report_text.specs.declared.reading.verdict.Verdict.TheVariants.{Passed}
use Rattle.run_model.specs.Entry.{Entry}
use Rattle.bench_top.specs.Audited.{InputParts, verdict_text}
use Rattle.bench_top.specs.Calls.{Call, Writes}
use Rattle.bench_top.specs.Groups.{IsUndisturbed}
use Rattle.bench_top.specs.Promised.{KeepsPromises}
use Rattle.bench_top.specs.Verdicts.{IsRead, IsSystemReport}
use Rattle.bench_top.specs.declared.words.Form.{Form}
use Rattle.bench_top.specs.declared.words.Form.TheVariants.{Audit, File}
use Rattle.bench_top.specs.declared.words.Printing.TheVariants.{Traced}
use Rattle.bench_top.specs.declared.words.Task.TheVariants.{Run}
use Rattle.trace_promises.specs.audits.Input.{audit_input, lines_in}

-- ---- calls

-- A call of this form was given these bytes.
pub record IsGiven (call : Call) (form : Form) (bytes : List ℕ) : Type 0 where
  pub form_is : call.form ≡ Some form
  pub bytes_are : call.source.before ≡ Some bytes

-- A call ran this bench file with `--trace` and ended with status 0, and this text came behind what its sink had taken before.
pub record PrintsTrace (call : Call) (bench text : List ℕ) : Type 0 where
  pub given : IsGiven call (File (Run Traced)) bench
  pub ended : call.outcome.status ≡ 0
  pub taken : List ℕ
  pub told : call.sink.before ≡ Some taken
  pub wrote : Writes call.sink text

-- A call audits that text behind the bench file and the mark, with as many serial devices; it meets no fault and finds memory, and its input is no longer than it may be.
pub record AuditsTrace (run audit : Call) (bench text : List ℕ) : Type 0 where
  pub given : IsGiven audit Audit (audit_input bench text)
  pub devices : audit.devices ≡ run.devices
  pub few : length (audit_input bench text) ≤ 268435456
  pub undisturbed : IsUndisturbed audit

-- The text is passed, and it is said how many lines it has.
pub record PassesTrace (audit : Call) (text : List ℕ) : Type 0 where
  pub ended : audit.outcome.status ≡ 0
  pub says : Writes audit.sink (verdict_text (Passed (lines_in text)))

-- ---- reports

-- The report in an input is the trace of a legal run of all modules that follows the script before it: of one journal, which keeps what is promised of runs under a valid configuration.
pub record HasRun (devices : ℕ) (bytes : List ℕ) : Type 0 where
  pub parts : InputParts
  pub config : Config
  pub script : List Directive
  pub read : IsRead bytes parts config script
  pub journal : List Entry
  pub is : IsSystemReport devices config script parts.report journal
  pub only : (other : List Entry) → IsSystemReport devices config script parts.report other → other ≡ journal
  pub keeps : IsValid config → KeepsPromises devices config script journal

-- What status 0 of an audit says.
pub record IsPassedExactly (call : Call) (bytes : List ℕ) : Type 0 where
  -- the report is that of a run
  pub of_run : call.outcome.status ≡ 0 → HasRun call.devices bytes
  -- and each that is one is passed
  pub each_run : IsUndisturbed call → HasRun call.devices bytes → call.outcome.status ≡ 0
