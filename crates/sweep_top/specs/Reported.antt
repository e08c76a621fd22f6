-- What is seen of a sweep's run.
use Rattle.std.specs.Prelude.{◌≡◌, ◌⊎◌, ◌<◌, ◌++◌, ℕ, List, [], Option, Some, None, false, length, map, string_bytes}
use Rattle.std.specs.List.{filter_map}
use Rattle.irq_control.specs.declared.held.Held.{Held}
use Rattle.irq_control.specs.declared.held.Held.TheVariants.{Masked, Level, Reentry}
use Rattle.mcal_base.specs.declared.config.whole.Config.{Config}
use Rattle.mcal_base.specs.declared.directive.Directive.{Directive}
use Rattle.mcal_base.specs.declared.moves.Event.{Event}
use Rattle.mcal_base.specs.declared.moves.Move.{Move}
use Rattle.mcal_base.specs.declared.moves.Move.TheVariants.{Note}
use Rattle.mcal_base.specs.declared.notice.Notice.{Notice}
use Rattle.mcal_config.specs.Whole.{record_of}
use Rattle.run_model.specs.Entry.{Entry, Said, Stays, Steps}
use Rattle.run_model.specs.declared.item.Item.{Item}
use Rattle.run_model.specs.declared.item.What.{What}
use Rattle.run_model.specs.declared.item.What.TheVariants as whats
use Rattle.bench_report.specs.Lines.{event_text, incoming_text, move_text}
use Rattle.bench_report.specs.Limit.{most_bytes}
use Rattle.bench_top.specs.Runs.{IsStoppedRun, IsWholeRun, report_of}
use Rattle.script_runner.specs.Scripts.{IsScript}
use Rattle.sweep_trials.specs.declared.seen.RunSeen.{RunSeen}
use Rattle.sweep_trials.specs.declared.seen.StepSeen.{StepSeen}
use Rattle.sweep_trials.specs.declared.stop.Stop.{Stop}
use Rattle.sweep_trials.specs.declared.stop.Stop.TheVariants as stops

-- the notice that a move gives
abbrev pub notice_of : Move → Option Notice
notice_of (Note n) = Some n
notice_of _ = None

-- what is held there may begin later: what is masked, of too low a level or must not nest
abbrev pub may_wait : ℕ → Held → Option ℕ
may_wait line Masked = Some line
may_wait line Level = Some line
may_wait line Reentry = Some line
may_wait line _ = None

-- the step that an item of a journal is
abbrev pub step_said : ℕ → What → Option StepSeen
step_said line (whats.Stepped s) = Some (record { line = line; notice = notice_of s.made })
step_said line _ = None

abbrev pub step_on : Item → Option StepSeen
step_on i = step_said i.line i.what

-- the line of the directive that is held by an item, and waits
abbrev pub wait_said : ℕ → What → Option ℕ
wait_said line (whats.Held c) = may_wait line c
wait_said line _ = None

abbrev pub wait_on : Item → Option ℕ
wait_on i = wait_said i.line i.what

-- the same of the items of a run
abbrev pub step_in : ℕ → Said → Option StepSeen
step_in line (Steps s) = Some (record { line = line; notice = notice_of s.made })
step_in line _ = None

abbrev pub wait_in : ℕ → Said → Option ℕ
wait_in line (Stays c) = may_wait line c
wait_in line _ = None

-- the steps of a run, and the lines of the directives that were held in it, and wait
abbrev pub steps_of : List Entry → List StepSeen
steps_of journal = filter_map (λ e. step_in e.line e.said) journal

abbrev pub waiting_of : List Entry → List ℕ
waiting_of journal = filter_map (λ e. wait_in e.line e.said) journal

-- the move of a step with the value that it gave, its event, and the word that came in, as a trace prints them
abbrev pub made_text : Move → (value received : ℕ) → Option Event → List ℕ
made_text made value received event = move_text made value ++ (event_text event ++ incoming_text made received)

abbrev pub move_said : What → Option (List ℕ)
move_said (whats.Stepped s) = Some (made_text s.made s.value s.received s.event)
move_said _ = None

abbrev pub move_on : Item → Option (List ℕ)
move_on i = move_said i.what

abbrev pub move_in : Said → Option (List ℕ)
move_in (Steps s) = Some (made_text s.made s.value s.received s.event)
move_in _ = None

-- the moves of a run's steps
abbrev pub moves_of : List Entry → List (List ℕ)
moves_of journal = filter_map (λ e. move_in e.said) journal

-- this is seen of a script's whole run over a configuration, without devices: its report, its steps, what was held, and, where they were
-- asked for, the moves of the steps
pub record IsReportedOn (config : Config) (script : List Directive) (seen : RunSeen) : Type 0 where
  pub journal : List Entry
  pub run : IsWholeRun 0 config script journal
  pub report : string_bytes seen.report ≡ report_of 0 false config script journal
  pub steps : seen.steps.items ≡ steps_of journal
  pub waiting : seen.waiting.items ≡ waiting_of journal
  pub moves : (seen.moves.items ≡ []) ⊎ (map string_bytes seen.moves.items ≡ moves_of journal)

-- the same over the configuration of a text
pub record IsReported (configuration : List ℕ) (script : List Directive) (seen : RunSeen) : Type 0 where
  pub config : Config
  pub read : record_of configuration ≡ Some config
  pub on : IsReportedOn config script seen

-- A script's run over the configuration of a text stops at a limit of its own: it is no script that may be run, one more step than the
-- most would be taken, or its report would be too long.
pub data IsAtLimit (configuration : List ℕ) (script : List Directive) : Stop → Type 0 where
  NoScript : (IsScript script → ⊥) → IsAtLimit configuration script stops.TooManyDirectives
  LongRun : (config : Config) (journal : List Entry) → record_of configuration ≡ Some config → IsStoppedRun 0 config script journal → IsAtLimit configuration script stops.TooManySteps
  LongReport : (config : Config) (journal : List Entry) → record_of configuration ≡ Some config → IsWholeRun 0 config script journal → most_bytes < length (report_of 0 false config script journal) → IsAtLimit configuration script stops.TooLongReport
