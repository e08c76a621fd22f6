-- The frames hold it as those of the run do.
use Rattle.std.proofs.Common.{sym, ◌∙◌}
use Rattle.report_auditor.proofs.HeldLaws.{call_free, call_held_is}
use Rattle.report_auditor.proofs.auditor.Auditor.call_held.Goals as goal

pub returns-clause-free : goal.returns-clause-free
returns-clause-free g c none = rw (← c.self.view_is) (call_free c.self.inside.frames c.masked.result c.class-class.result c.args.level (sym c.call_held.ensures ∙ none))

pub returns-clause-held : goal.returns-clause-held
returns-clause-held g c t p stands =
    let s = rw (← c.self.view_is) at stands in
    c.call_held.ensures ∙ call_held_is g.P.Whole.agrees g.P.Subject.setting g.P.Part.table g.P.Part.stands t _ p s c.args.call.now c.args.level c.masked.result c.class-class.result c.masked.ensures c.class-class.ensures
