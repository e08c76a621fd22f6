-- The journal of a run keeps what is promised of whole runs, however the call ends.
use Rattle.std.proofs.Common.{◌≡◌, ℕ, List, [], sym, subst}
use Rattle.mcal_base.specs.declared.config.whole.Config.{Config}
use Rattle.mcal_base.specs.declared.directive.Directive.{Directive}
use Rattle.run_model.specs.Entry.{Entry}
use Rattle.script_runner.specs.Scripts.{IsScript}
use Rattle.config_facts.specs.Valid.{IsValid}
use Rattle.mcal_system.specs.Runs.{most_steps}
use Rattle.board_promises.specs.Promised.{KeepsPromises}
use Rattle.board_promises.proofs.Kept.{followed_keeps, stopped_keeps as stop_keeps, nothing_kept}
use Rattle.bench_generator.specs.Board.{board}
use Rattle.bench_generator.specs.Generated.{generated}
use Rattle.bench_top.specs.Judged.{Judgement, Prints, Runs, Generates, Audits}
use Rattle.bench_top.specs.Outcomes.{Keeps}
use Rattle.bench_top.specs.Runs.{IsWholeRun, IsStoppedRun}

pub whole_keeps : (devices : ℕ) (config : Config) (script : List Directive) (entries : List Entry) → IsValid config → IsScript script → IsWholeRun devices config script entries → KeepsPromises devices config script entries
whole_keeps devices config script entries valid lines h = followed_keeps devices config script entries valid lines.lines h.run

pub stopped_keeps : (devices : ℕ) (config : Config) (script : List Directive) (entries : List Entry) → IsValid config → IsScript script → IsStoppedRun devices config script entries → KeepsPromises devices config script entries
stopped_keeps devices config script entries valid lines h = stop_keeps devices config script entries most_steps valid lines.lines h.run

keeps_at : (devices : ℕ) (config : Config) (script : List Directive) (entries : List Entry) → entries ≡ [] → KeepsPromises devices config script entries
keeps_at devices config script entries e = subst (λ (xs : List Entry). KeepsPromises devices config script xs) (sym e) (nothing_kept devices config script)

-- where nothing was run
pub empty_keeps : (devices : ℕ) (j : Judgement) (entries : List Entry) → entries ≡ [] → Keeps devices j entries
empty_keeps devices (Prints ending) entries e = tt
empty_keeps devices (Runs printing config script) entries e = keeps_at devices config script entries e
empty_keeps devices (Generates seed count) entries e = keeps_at devices board (generated seed count) entries e
empty_keeps devices (Audits config script report) entries e = tt
