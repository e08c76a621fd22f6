-- What a call of the bench leaves: its outcome, which is a status and a journal, and what it writes.
use Rattle.std.specs.Prelude.{◌≡◌, ◌≢◌, ◌⊎◌, ℕ, ◌≤◌, List, [], ◌++◌, length, take, Option, Some, if◌then◌else◌}
use Rattle.std.specs.Io.KnownBytes.{IsAtEnd}
use Rattle.run_model.specs.Entry.{Entry}
use Rattle.bench_report.specs.Limit.{is_too_long}
use Rattle.board_promises.specs.Promised.{KeepsPromises}
use Rattle.bench_generator.specs.Board.{board}
use Rattle.bench_generator.specs.Generated.{first_line, generated}
use Rattle.mcal_base.specs.declared.config.whole.Config.{Config}
use Rattle.mcal_base.specs.declared.directive.Directive.{Directive}
use Rattle.report_modules.specs.Judged.{IsVerdict}
use Rattle.report_text.specs.declared.reading.verdict.Verdict.{Verdict}
use Rattle.bench_top.specs.Calls.{Stream, MeetsFault, Writes}
use Rattle.bench_top.specs.Judged.{Ending, Judgement, Prints, Runs, Generates, Audits, judged, too_many_steps, too_long_report, verdict_ending}
use Rattle.bench_top.specs.Runs.{IsWholeRun, IsStoppedRun, report_of, end_line_of}
use Rattle.bench_top.specs.Tail.{is_traced, printed}
use Rattle.bench_top.specs.declared.top.Outcome.{Outcome}
use Rattle.bench_top.specs.declared.words.Form.{Form}
use Rattle.bench_top.specs.declared.words.Form.TheVariants.{Gen}
use Rattle.bench_top.specs.declared.words.Printing.{Printing}

-- the ending with a report: what is asked for of it is printed, unless the whole would be too long
abbrev pub reported : Printing → List ℕ → Ending
reported printing report =
    if is_too_long report then too_long_report else record { status = 0; text = printed printing report }

-- the ending with what is told of a generated bench: its first line, and the last line of the run's report
abbrev pub told_of_generated : (devices seed count : ℕ) → List Entry → Ending
told_of_generated devices seed count entries =
    record { status = 0; text = first_line seed count ++ end_line_of devices board (generated seed count) entries }

-- a report was judged, and it is said what it was found to be
pub record IsJudged (devices : ℕ) (config : Config) (script : List Directive) (report : List ℕ) (ending : Ending) : Type 0 where
  pub verdict : Verdict
  pub right : IsVerdict devices config script report verdict
  pub told : ending ≡ verdict_ending verdict

-- The ending and the journal where nothing failed. The journal is empty where nothing runs. A run is whole and is reported,
-- or stops at the limit of steps, which that of a generated bench doesn't meet.
abbrev pub Ends : (devices : ℕ) → Judgement → Ending → List Entry → Type 0
Ends devices (Prints printed) ending entries = (ending ≡ printed) × (entries ≡ [])
Ends devices (Runs printing config script) ending entries =
    (IsWholeRun devices config script entries × (ending ≡ reported printing (report_of devices (is_traced printing) config script entries)))
    ⊎ (IsStoppedRun devices config script entries × (ending ≡ too_many_steps))
Ends devices (Generates seed count) ending entries =
    IsWholeRun devices board (generated seed count) entries × (ending ≡ told_of_generated devices seed count entries)
Ends devices (Audits config script report) ending entries = IsJudged devices config script report ending × (entries ≡ [])

-- what is promised of whole runs holds of the journal, where a script was judged to run
abbrev pub Keeps : (devices : ℕ) → Judgement → List Entry → Type 0
Keeps devices (Prints ending) entries = Unit {0}
Keeps devices (Runs printing config script) entries = KeepsPromises devices config script entries
Keeps devices (Generates seed count) entries = KeepsPromises devices board (generated seed count) entries
Keeps devices (Audits config script report) entries = Unit {0}

-- the call ended as it was judged: with the status of the ending, and all of its text was written
pub record IsEnded (devices : ℕ) (judgement : Judgement) (outcome : Outcome) (sink : Stream) : Type 0 where
  pub ending : Ending
  pub ends : Ends devices judgement ending outcome.journal.entries
  pub status_is : outcome.status ≡ ending.status
  pub written : Writes sink ending.text

-- It ended as it is to end on some bytes, whatever is known of those that came, and the journal keeps what is promised of
-- their run.
pub record EndsOnSome (devices : ℕ) (form : Option Form) (outcome : Outcome) (sink : Stream) : Type 0 where
  pub bytes : List ℕ
  pub ended : IsEnded devices (judged form bytes) outcome sink
  pub keeps : Keeps devices (judged form bytes) outcome.journal.entries

-- a front of a text was written
pub record WritesFront (sink : Stream) (text : List ℕ) : Type 0 where
  pub count : ℕ
  pub within : count ≤ length text
  pub front : Writes sink (take count text)

-- a front of the text was written with which the call would have ended
pub record IsCutOff (devices : ℕ) (judgement : Judgement) (outcome : Outcome) (sink : Stream) : Type 0 where
  pub ending : Ending
  pub ends : Ends devices judgement ending outcome.journal.entries
  pub front : WritesFront sink ending.text

-- the journal where memory was wanting: none, or that of the run, which is whole or stopped at the limit of steps
abbrev pub LeavesRun : (devices : ℕ) → Judgement → List Entry → Type 0
LeavesRun devices (Prints printed) entries = entries ≡ []
LeavesRun devices (Runs printing config script) entries =
    (entries ≡ []) ⊎ (IsWholeRun devices config script entries ⊎ IsStoppedRun devices config script entries)
LeavesRun devices (Generates seed count) entries = (entries ≡ []) ⊎ IsWholeRun devices board (generated seed count) entries
LeavesRun devices (Audits config script report) entries = entries ≡ []

-- How a call that was judged so comes out, whatever fails as it writes: by status 3 for a fault of the sink and status 4 for
-- want of memory.
pub record Concludes (devices : ℕ) (judgement : Judgement) (outcome : Outcome) (sink : Stream) : Type 0 where
  pub known : outcome.status ≤ 8
  pub ends : outcome.status ≢ 3 → outcome.status ≢ 4 → IsEnded devices judgement outcome sink
  pub front : outcome.status ≡ 3 → IsCutOff devices judgement outcome sink
  pub keeps : Keeps devices judgement outcome.journal.entries
  pub nothing : outcome.status ≡ 4 → Writes sink []
  pub memory : outcome.status ≡ 4 → LeavesRun devices judgement outcome.journal.entries
  pub still : outcome.status ≢ 3 → sink.faults_after ≡ sink.faults_before
  pub fault : outcome.status ≡ 3 → MeetsFault sink

-- what a call leaves of its input that ended with status 0: nothing, or all of it where the bench was generated
abbrev pub LeavesInput : Option Form → (before after : Option (List ℕ)) → Type 0
LeavesInput (Some (Gen seed count)) before after = after ≡ before
LeavesInput form before after = IsAtEnd after
