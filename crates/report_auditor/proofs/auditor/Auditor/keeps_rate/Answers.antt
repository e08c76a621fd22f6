-- The rates are compared.
use Rattle.std.proofs.Common.{◌≡◌, ◌==◌, sym, ◌∙◌}
use Rattle.std.proofs.lemmas.Bool.{OnTrue_from}
use Rattle.mcal_base.specs.facts.Numbers.{eq_is}
use Rattle.report_auditor.proofs.ServedParts.{rate_by}
use Rattle.report_auditor.proofs.auditor.Auditor.keeps_rate.Goals as goal

pub returns-clause-right : goal.returns-clause-right
returns-clause-right g c t p stands =
    let s = rw (← c.self.view_is) at stands in
    rate_by g.P.Whole.agrees g.P.Subject.setting g.P.Part.table g.P.Part.stands g.P.Part.member g.met.P.Subject.member_is t _ p s c.rate-shown.result c.rate-asked.result c.rate-shown.ensures (c.rate-asked.ensures.is p.moment.state s.state)

pub returns-clause-rate : goal.returns-clause-rate
returns-clause-rate g c = rw (← c.self.view_is) (OnTrue_from (c.rate-shown.result == c.rate-asked.result) (c.self.inside.bus.clock.rate ≡ g.P.Part.ticks c.self.inside.parts) (λ e. sym c.rate-shown.ensures ∙ (eq_is c.rate-shown.result c.rate-asked.result e ∙ c.rate-asked.ensures.ticks)))
