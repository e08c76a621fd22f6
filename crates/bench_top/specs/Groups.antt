-- What is promised of each call of the bench, in groups; the contract has all of them.
use Rattle.std.specs.Prelude.{◌≡◌, ◌≢◌, ◌⊎◌, ℕ, ◌≤◌, List, [], length, Some, None}
use Rattle.std.specs.Option.{IfSome}
use Rattle.mcal_base.specs.declared.config.whole.Config.{Config}
use Rattle.mcal_base.specs.declared.directive.Directive.{Directive}
use Rattle.bench_report.specs.Limit.{most_bytes}
use Rattle.mcal_system.specs.Runs.{bound_of}
use Rattle.bench_top.specs.Calls.{Call, MeetsFault, Writes}
use Rattle.bench_top.specs.Judged.{Ending, Judgement, Prints, Runs, Generates, judged, usage, read_fault}
use Rattle.bench_top.specs.Outcomes.{Concludes, EndsOnSome, IsCutOff, IsEnded, Keeps, LeavesInput, LeavesRun, WritesFront}
use Rattle.bench_top.specs.Runs.{report_of}
use Rattle.bench_top.specs.Statuses.{IsDecided}
use Rattle.bench_top.specs.Verdicts.{IsAuditDecided}
use Rattle.bench_top.specs.Tail.{is_traced}
use Rattle.bench_top.specs.declared.words.Form.TheVariants.{File, Audit}
use Rattle.bench_top.specs.declared.words.Printing.{Printing}
use Rattle.bench_top.specs.declared.words.Task.{Task}

-- ---- where nothing failed

-- The status says that no fault was met and that memory was found.
pub record IsUndisturbed (call : Call) : Type 0 where
  pub source : call.outcome.status ≢ 2
  pub sink : call.outcome.status ≢ 3
  pub memory : call.outcome.status ≢ 4

-- The status, the journal and what is written are those of the definition.
pub record IsExact (call : Call) : Type 0 where
  -- on the bytes that the source tells
  pub on_bytes : IfSome call.source.before (λ bytes. IsEnded call.devices (judged call.form bytes) call.outcome call.sink)
  -- on some bytes, whatever it tells
  pub on_some : EndsOnSome call.devices call.form call.outcome call.sink
  -- 0, 5, 6 and 7 of a bench file come exactly for their causes
  pub statuses : IfSome call.source.before (λ bytes. (task : Task) →
      call.form ≡ Some (File task) → IsDecided call.devices task bytes call.outcome)
  -- and 0, 5, 6, 7 and 8 of an audit
  pub verdicts : call.form ≡ Some Audit → IfSome call.source.before (λ bytes. IsAuditDecided call.devices bytes call.outcome)

-- ---- words of no form

-- The words alone decide on status 1, and on the line that is printed then.
pub record TellsUsage (call : Call) : Type 0 where
  -- no other words have that status
  pub only : call.outcome.status ≡ 1 → call.form ≡ None
  -- they have it, and the line is written, unless a write fails
  pub status : call.form ≡ None → call.outcome.status ≢ 3 → call.outcome.status ≡ 1
  pub line : call.form ≡ None → call.outcome.status ≢ 3 → Writes call.sink usage.text
  -- and then a front of the line was written, and nothing ran
  pub front : call.form ≡ None → call.outcome.status ≡ 3 →
      WritesFront call.sink usage.text × (call.outcome.journal.entries ≡ [])

-- ---- faults of the source

-- Status 2: a read failed, the line that says so was written, and nothing ran.
pub record IsReadFault (call : Call) : Type 0 where
  pub fault : MeetsFault call.source
  pub line : Writes call.sink read_fault.text
  pub no_run : call.outcome.journal.entries ≡ []

pub record TellsReads (call : Call) : Type 0 where
  -- status 2 comes only where a read failed
  pub told : call.outcome.status ≡ 2 → IsReadFault call
  -- a read that failed is told by status 2, unless a write fails or memory is wanting
  pub only : call.source.faults_after ≢ call.source.faults_before → call.outcome.status ≢ 2 → call.outcome.status ≢ 3 →
      call.outcome.status ≡ 4
  -- and where a write fails then, a front of the line was written, and nothing ran
  pub front : call.outcome.status ≡ 3 → call.source.faults_after ≢ call.source.faults_before →
      WritesFront call.sink read_fault.text × (call.outcome.journal.entries ≡ [])
  -- the count of faults doesn't fall
  pub later : call.source.faults_before ≤ call.source.faults_after
  -- with status 0 all was read, or nothing where the bench was generated
  pub ended : call.outcome.status ≡ 0 → LeavesInput call.form call.source.before call.source.after

-- ---- faults of the sink

-- a front of the output that a judgement gives was written, or, where a read failed, of the line that says so
abbrev pub FrontOf : Call → Judgement → Type 0
FrontOf call judgement =
    IsCutOff call.devices judgement call.outcome call.sink
    ⊎ (MeetsFault call.source × IsCutOff call.devices (Prints read_fault) call.outcome call.sink)

-- the same of the output that some bytes give, whatever is known of those that came
pub record FrontOnSome (call : Call) : Type 0 where
  pub bytes : List ℕ
  pub front : FrontOf call (judged call.form bytes)
  pub keeps : Keeps call.devices (judged call.form bytes) call.outcome.journal.entries

-- Status 3: a write failed, and a front of the whole output was written.
pub record IsWriteFault (call : Call) : Type 0 where
  pub fault : MeetsFault call.sink
  pub on_bytes : IfSome call.source.before (λ bytes. FrontOf call (judged call.form bytes))
  pub on_some : FrontOnSome call

pub record TellsWrites (call : Call) : Type 0 where
  -- status 3 comes only where a write failed
  pub told : call.outcome.status ≡ 3 → IsWriteFault call
  -- and always where one did
  pub only : call.outcome.status ≢ 3 → call.sink.faults_after ≡ call.sink.faults_before

-- ---- want of memory

-- the journal where memory was wanting, as some bytes have it, whatever is known of those that came
pub record LeavesOnSome (call : Call) : Type 0 where
  pub bytes : List ℕ
  pub leaves : LeavesRun call.devices (judged call.form bytes) call.outcome.journal.entries
  pub keeps : Keeps call.devices (judged call.form bytes) call.outcome.journal.entries

-- Status 4: nothing was written, and the journal is empty, or that of the run.
pub record WantsMemory (call : Call) : Type 0 where
  pub nothing : Writes call.sink []
  pub on_bytes : IfSome call.source.before (λ bytes. LeavesRun call.devices (judged call.form bytes) call.outcome.journal.entries)
  pub on_some : LeavesOnSome call

-- ---- the journal

pub record KeepsJournal (call : Call) : Type 0 where
  -- only a run leaves one
  pub no_run : call.outcome.status ≢ 0 → call.outcome.status ≢ 3 → call.outcome.status ≢ 4 → call.outcome.status ≢ 5 →
      call.outcome.journal.entries ≡ []
  -- What is promised of a whole run: whole rounds, each for a request of its own, the standard's order, one end of each
  -- request with the result that the events say, what each frame has told, a watchdog's reset exactly where its time is
  -- over, and reads of channels, ports and groups of one moment.
  pub promises : IfSome call.source.before (λ bytes. Keeps call.devices (judged call.form bytes) call.outcome.journal.entries)

-- ---- completeness

-- No stream met a fault, and memory was found.
pub record IsSpared (call : Call) : Type 0 where
  pub source : MeetsFault call.source → ⊥
  pub sink : MeetsFault call.sink → ⊥
  pub memory : call.outcome.status ≢ 4

-- A file that isn't refused is done with as its words ask.
pub record IsComplete (call : Call) : Type 0 where
  -- it is run to its end and reported, where the bounds of its frames and the report are within their limits
  pub runs : IfSome call.source.before (λ bytes. (printing : Printing) (config : Config) (script : List Directive) →
      judged call.form bytes ≡ Runs printing config script → bound_of config script ≤ 1000000 →
      length (report_of call.devices (is_traced printing) config script call.outcome.journal.entries) ≤ most_bytes →
      call.outcome.status ≡ 0)
  -- and what is only to be printed is
  pub checks : IfSome call.source.before (λ bytes. (ending : Ending) →
      judged call.form bytes ≡ Prints ending → call.outcome.status ≡ ending.status)

-- ---- generated benches

-- It needs no input, whatever the source tells or does: it is run to its end, and two lines tell of it.
pub record RunsGenerated (call : Call) (seed count : ℕ) : Type 0 where
  -- the status, the journal and what is written, whatever fails as it writes
  pub concludes : Concludes call.devices (Generates seed count) call.outcome call.sink
  -- nothing is read, and no limit is met
  pub never_read : call.outcome.status ≢ 2
  pub never_long : call.outcome.status ≢ 5
  -- it comes to its end, unless a write fails or memory is wanting
  pub complete : (MeetsFault call.sink → ⊥) → call.outcome.status ≢ 4 → call.outcome.status ≡ 0
  -- the source is left as it was
  pub source : (call.source.after ≡ call.source.before) × (call.source.faults_after ≡ call.source.faults_before)
