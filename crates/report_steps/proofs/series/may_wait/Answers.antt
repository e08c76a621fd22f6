-- A move waits for its unit.
use Rattle.std.proofs.Common.{sym, ◌∙◌}
use Rattle.report_steps.proofs.AwaitLaws.{by_unit, no_unit}
use Rattle.report_steps.proofs.series.may_wait.Goals as goal

pub returns-in-Some : goal.returns-in-Some
returns-in-Some g c t p stands = by_unit (g.P.Subject.setting t) p.moment c.args.made.now c.in-Some.unit (sym c.unit_of.ensures ∙ c.in-Some.is) c.waits_on.result (c.waits_on.ensures t p stands)

pub returns-in-None : goal.returns-in-None
returns-in-None g c t p stands = no_unit (g.P.Subject.setting t) p.moment c.args.made.now (sym c.unit_of.ensures ∙ c.in-None.is)
