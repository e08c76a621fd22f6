-- The time that is left is that of the machine of the run.
use Rattle.std.proofs.Common.{sym, ◌∙◌, ap}
use Rattle.run_model.specs.Follows.{ends_within}
use Rattle.report_auditor.proofs.ServedParts.{as_run}
use Rattle.report_steps.proofs.series.ends_within.Goals as goal

pub returns-in-Some : goal.returns-in-Some
returns-in-Some g c t p stands =
    let s = rw (← c.auditor.view_is) at stands in
    ap (ends_within c.args.ticks) (sym c.in-Some.is ∙ as_run g.P.Whole.agrees g.P.Subject.setting g.P.Part.table g.P.Part.stands g.P.Part.member g.met.P.Subject.member_is t _ p s (λ mac. mac.expires p.moment.world p.moment.state) c.expires.result (c.expires.ensures p.moment.world p.moment.state s.world s.state))

pub returns-in-None : goal.returns-in-None
returns-in-None g c t p stands =
    let s = rw (← c.auditor.view_is) at stands in
    ap (ends_within c.args.ticks) (sym c.in-None.is ∙ as_run g.P.Whole.agrees g.P.Subject.setting g.P.Part.table g.P.Part.stands g.P.Part.member g.met.P.Subject.member_is t _ p s (λ mac. mac.expires p.moment.world p.moment.state) c.expires.result (c.expires.ensures p.moment.world p.moment.state s.world s.state))
