-- The run of a bench file, and what is drawn of it.
use Rattle.std.specs.Prelude.{◌≡◌, ℕ, ◌≤◌, List, [], ◌∷◌, ◌++◌, length, true, Some, codes}
use Rattle.mcal_base.specs.declared.config.whole.Config.{Config}
use Rattle.mcal_base.specs.declared.directive.Directive.{Directive}
use Rattle.run_model.specs.Entry.{Entry}
use Rattle.bench_top.specs.Runs.{report_of, shows_of}
use Rattle.bench_top.specs.Statuses.{HasScript}
use Rattle.trace_drawing.specs.Judged.{judged}
use Rattle.trace_drawing.specs.Program.{printed}
use Rattle.trace_drawing.specs.declared.program.Form.{Form}
use Rattle.trace_promises.specs.traces.Drawn.{IsDrawn}

-- a text ends with a line feed
abbrev pub EndsLine : List ℕ → Type 0
EndsLine text = (front : List ℕ) × (text ≡ front ++ 10 ∷ [])

-- what `view` is given: a bench file, the mark of a report, and a report
abbrev pub input : List ℕ → List ℕ → List ℕ
input file report = file ++ (codes "===\n" ++ report)

-- The bench file is this configuration and this script. The trace of its run is read as what its lines tell, and drawn, and
-- its drawing shows each line and each directive (`IsDrawn`); and behind the file and the mark `view` writes that drawing with
-- status 0, in each form, where the file ends with a line feed and the input is no longer than it may be.
pub record IsViewed (devices : ℕ) (file : List ℕ) (entries : List Entry) : Type 0 where
  pub config : Config
  pub script : List Directive
  pub read : HasScript file config script
  pub drawn : IsDrawn script entries (shows_of devices config script entries)
  pub viewed : (form : Form) → EndsLine file → length (input file (report_of devices true config script entries)) ≤ 268435456 →
      judged (Some form) (input file (report_of devices true config script entries)) ≡ record { status = 0; text = printed form drawn.drawing }
