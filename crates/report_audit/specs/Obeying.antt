-- What a checker is given of a directive, and what it answers of its block.
use Rattle.std.specs.Prelude.{◌≡◌, ℕ, ◌+◌, ◌<◌, Bool, true, false, List, [], ◌∷◌, length}
use Rattle.bench_report.specs.Showing.{Showing}
use Rattle.mcal_base.specs.declared.directive.Directive.{Directive}
use Rattle.mcal_base.specs.declared.directive.Order.{Order}
use Rattle.mcal_base.specs.declared.directive.Request.{Request}
use Rattle.mcal_base.specs.declared.service.Service.{Service}
use Rattle.run_model.specs.Moment.{Setting}
use Rattle.script_runner.specs.Scripts.{is_offered}
use Rattle.script_runner.specs.Standing.{is_built}
use Rattle.trace_reader.specs.Reading.{parts_of}
use Rattle.report_text.specs.reading.Blocks.{AuditState, IsBlock, place_after, own_lines, behind, text_of, block_lines}
use Rattle.report_text.specs.reading.Audits.{Audits}
use Rattle.report_text.specs.declared.reading.verdict.Verdict.{Verdict}
use Rattle.report_text.specs.declared.reading.verdict.Verdict.TheVariants.{Passed, Fault}
use Rattle.report_text.specs.declared.ending.Ending.{Ending}
use Rattle.report_text.specs.declared.ending.Ending.TheVariants.{Alone, Followed, Missing}
use Rattle.report_text.specs.Unread.{Unread}
use Rattle.report_auditor.specs.Auditing.{Auditing, NamesThere, Stands}
use Rattle.bench_report.specs.Lines.{Line}
use Rattle.bench_report.specs.Numbers.{Each, EntryFits}
use Rattle.run_model.specs.Entry.{Entry}
use Rattle.run_model.specs.Follows.{Gives, deeds_in}
use Rattle.run_model.specs.Legal.{IsLegal, IsServed}
use Rattle.mcal_base.specs.declared.directive.Order.TheVariants as orders
use Rattle.report_auditor.specs.Seeing.{Agreeing}

-- The lines are those of legal items of a directive, as a journal holds them, which lead there.
pub record PrintsItems {State Call : Type 0} (g : Setting State Call) (call_of : Request → Call) (showing : Showing State) (p : AuditState State Call) (d : Directive) (lines : List Line) (there : AuditState State Call) : Type 0 where
  pub items : List Entry
  pub fits : Each EntryFits items
  pub gives : Gives g call_of p.moment d.line d.order items
  pub legal : IsLegal g p.moment (deeds_in call_of d.order items)
  pub prints : block_lines g call_of showing p d items ≡ lines
  pub leads : place_after g call_of showing p d items ≡ there

-- the line of a handler is one of a mask
abbrev pub HandlesLine : Order → Type 0
HandlesLine (orders.Enter line) = line < 64
HandlesLine (orders.Serve line) = line < 64
HandlesLine order = Unit {0}

-- A pin, an input or a unit that an order names is there; a fill of no channel's array is held.
abbrev pub NamesKnown : Order → Type 0
NamesKnown (orders.Fill channel words) = Unit {0}
NamesKnown order = NamesThere order

-- A directive can be obeyed: what it names is there, and the service that it asks for.
pub record CanObey (has_service : Service → Bool) (d : Directive) : Type 0 where
  pub built : is_built d.order ≡ true
  pub there : NamesKnown d.order
  pub handles : HandlesLine d.order
  pub offered : is_offered has_service d.order ≡ true

abbrev pub CanObeyAll : (has_service : Service → Bool) → List Directive → Type 0
CanObeyAll has_service [] = Unit {0}
CanObeyAll has_service (d ∷ ds) = CanObey has_service d × CanObeyAll has_service ds

-- The block of a directive is that of legal items, and was taken; what is kept stands for the place behind them.
pub record BlockTaken {State Call : Type 0} (g : Setting State Call) (call_of : Request → Call) (showing : Showing State) (p : AuditState State Call) (d : Directive) (Stands : AuditState State Call → Type 0) (before after : Unread) : Type 0 where
  pub block : IsBlock g call_of showing p d (text_of (own_lines d.line (parts_of before.left)))
  pub stands : Stands (place_after g call_of showing p d block.items)
  pub left : parts_of after.left ≡ behind d.line (parts_of before.left)
  pub read : after.read ≡ before.read + length (own_lines d.line (parts_of before.left))

-- so it is, or it is that of none
abbrev pub BlockRight : {State Call : Type 0} → Setting State Call → (Request → Call) → Showing State → AuditState State Call → Directive → (Stands : AuditState State Call → Type 0) → (before after : Unread) → (right : Bool) → Type 0
BlockRight g call_of showing p d Stands before after true = BlockTaken g call_of showing p d Stands before after
BlockRight g call_of showing p d Stands before after false = IsBlock g call_of showing p d (text_of (own_lines d.line (parts_of before.left))) → ⊥

-- ---- the last line

-- what is left where the last line must come decides: it is there alone, or more stands behind it, or it isn't there
abbrev pub verdict_at : (last : ℕ) → Ending → Verdict
verdict_at last Alone = Passed last
verdict_at last Followed = Fault (last + 1)
verdict_at last Missing = Fault last

-- ---- from a moment on

-- What is kept stands for a place.
pub record StandsSomewhere {Parts Table State Call : Type 0} (agrees : Agreeing Table State) (setting : Table → Setting State Call) (table : Parts → Table) (stands : Parts → State → Type 0) (t : Table) (a : Auditing Parts Call) : Type 0 where
  pub place : AuditState State Call
  pub kept : Stands agrees setting table stands t a place

-- and the moment there is served
pub record StandsServed {Parts Table State Call : Type 0} (agrees : Agreeing Table State) (setting : Table → Setting State Call) (table : Parts → Table) (stands : Parts → State → Type 0) (t : Table) (a : Auditing Parts Call) : Type 0 where
  pub place : AuditState State Call
  pub kept : Stands agrees setting table stands t a place
  pub served : IsServed (setting t) place.moment

-- An audit has come to a place: it answers of all what it answers from here on.
pub record ComesTo {State Call : Type 0} (g : Setting State Call) (call_of : Request → Call) (showing : Showing State) (Stands : AuditState State Call → Type 0) (first : AuditState State Call) (script : List Directive) (whole : Unread) (left : List Directive) (now : Unread) : Type 0 where
  pub place : AuditState State Call
  pub stands : Stands place
  pub served : IsServed g place.moment
  pub on : (verdict : Verdict) → Audits g call_of showing place left (now.read + 1) (parts_of now.left) verdict → Audits g call_of showing first script (whole.read + 1) (parts_of whole.left) verdict
