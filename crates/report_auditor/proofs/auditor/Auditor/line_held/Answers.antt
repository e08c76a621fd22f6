-- The frames hold it as those of the run do.
use Rattle.std.proofs.Common.{sym, ◌∙◌}
use Rattle.report_auditor.proofs.HeldLaws.{line_free, line_held_is}
use Rattle.report_auditor.proofs.auditor.Auditor.line_held.Goals as goal

pub returns-clause-free : goal.returns-clause-free
returns-clause-free g c none = rw (← c.self.view_is) (line_free c.self.inside.frames c.masked.result c.level-level.result c.pending-pending.result (sym c.line_held.ensures ∙ none))

pub returns-clause-held : goal.returns-clause-held
returns-clause-held g c t p stands =
    let s = rw (← c.self.view_is) at stands in
    c.line_held.ensures ∙ line_held_is g.P.Whole.agrees g.P.Subject.setting g.P.Part.table g.P.Part.stands t _ p s c.args.line c.level-level.result c.masked.result c.pending-pending.result c.masked.ensures c.level-level.ensures c.pending-pending.ensures
