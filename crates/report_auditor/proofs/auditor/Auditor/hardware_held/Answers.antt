-- A fill is held by its array, and a device is dropped where there is one.
use Rattle.std.proofs.Common.{sym, ◌∙◌}
use Rattle.report_auditor.proofs.HeldLaws.{fill_below, fill_held, none_filled, other_held, other_is}
use Rattle.report_auditor.proofs.auditor.Auditor.hardware_held.Goals as goal

pub returns-in-Some-clause-held : goal.returns-in-Some-clause-held
returns-in-Some-clause-held g c t p stands = c.fill_held.ensures.held t p stands ∙ sym (fill_held (g.P.Subject.setting t) p.moment c.args.order.now c.in-Some.channel (sym c.filled.ensures ∙ c.in-Some.is))

pub returns-in-None-clause-held : goal.returns-in-None-clause-held
returns-in-None-clause-held g c t p stands =
    let s = rw (← c.self.view_is) at stands in
    c.other_cause.ensures ∙ (other_is g.P.Whole.agrees g.P.Subject.setting g.P.Part.table g.P.Part.stands t _ p s c.args.order.now ∙ sym (other_held (g.P.Subject.setting t) p.moment c.args.order.now (sym c.filled.ensures ∙ c.in-None.is)))

pub returns-in-Some-clause-filled : goal.returns-in-Some-clause-filled
returns-in-Some-clause-filled g c none n words is = fill_below c.args.order.now c.in-Some.channel n words (sym c.filled.ensures ∙ c.in-Some.is) is (c.fill_held.ensures.there none)

pub returns-in-None-clause-filled : goal.returns-in-None-clause-filled
returns-in-None-clause-filled g c none n words is = absurd (none_filled c.args.order.now n words (sym c.filled.ensures ∙ c.in-None.is) is)
