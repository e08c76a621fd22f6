-- What an audit is given, and what is promised of its answer.
use Rattle.std.specs.Prelude.{◌≡◌, ℕ, ◌<◌, ◌≤◌, Bool, List}
use Rattle.bench_report.specs.Numbers.{Each}
use Rattle.bench_report.specs.Showing.{Showing}
use Rattle.chip_model.specs.Chip.{Chip, incoming_at, now_of, source_length}
use Rattle.mcal_base.specs.declared.directive.Directive.{Directive}
use Rattle.mcal_base.specs.declared.directive.Request.{Request}
use Rattle.mcal_base.specs.declared.service.Service.{Service}
use Rattle.run_model.specs.Entry.{Entry}
use Rattle.run_model.specs.Moment.{Setting, start_moment}
use Rattle.run_model.specs.World.{world_start}
use Rattle.script_runner.specs.Scripts.{LinesRise}
use Rattle.audit_base.specs.Outside.{IsWorld}
use Rattle.audit_base.specs.declared.outside.Outside.{Outside}
use Rattle.report_text.specs.reading.Audits.{IsReportOf}
use Rattle.report_text.specs.reading.Fits.{DirectiveFits}
use Rattle.report_text.specs.reading.Reading.{read_report}
use Rattle.report_text.specs.declared.reading.verdict.Verdict.{Verdict}
use Rattle.report_text.specs.declared.reading.verdict.Verdict.TheVariants.{Passed, Fault}
use Rattle.report_audit.specs.Obeying.{CanObeyAll}

-- ---- what it is given

-- The chip is at power on: no time has gone by, and there is room for so many words on each serial unit, and for those of a fill.
pub record IsFresh (chip : Chip) (given : ℕ) : Type 0 where
  pub osc : chip.clock.osc ≡ 0
  pub time : now_of chip ≡ 0
  pub room : (u : ℕ) → u < 2 → given ≤ (incoming_at chip u).room
  pub sources : (c : ℕ) → source_length chip c ≤ 64

-- The modules are at power on, under a configuration, and can be told what happens.
pub record ArePoweredOn {Parts Table State Call : Type 0} (setting : Table → Setting State Call) (table : Parts → Table) (stands : Parts → State → Type 0) (fits : Parts → Outside → Type 0) (within : Parts → Type 0) (t : Table) (parts : Parts) (outside : Outside) : Type 0 where
  pub kept_of : table parts ≡ t
  pub state : stands parts (setting t).first
  pub world : (devices : ℕ) → IsWorld outside (world_start devices)
  pub can_tell : fits parts outside
  pub in_limits : within parts

-- The lines of a script rise and have 32 bits, and each directive can be obeyed.
pub record CanAudit (has_service : Service → Bool) (script : List Directive) : Type 0 where
  pub lines : LinesRise 0 script
  pub fits : Each DirectiveFits script
  pub can : CanObeyAll has_service script

-- ---- what is promised

-- The journal that the report tells is a run of the script, of which it is the traced report; and no other is.
pub record IsAudited {State Call : Type 0} (g : Setting State Call) (call_of : Request → Call) (showing : Showing State) (first : Chip) (script : List Directive) (text : List ℕ) : Type 0 where
  pub is : IsReportOf g call_of showing first script text (read_report g call_of (start_moment g first) script text)
  pub only : (journal : List Entry) → IsReportOf g call_of showing first script text journal → journal ≡ read_report g call_of (start_moment g first) script text

-- it is passed
abbrev pub IsPassed : Verdict → Type 0
IsPassed (Passed lines) = Unit {0}
IsPassed (Fault line) = ⊥
