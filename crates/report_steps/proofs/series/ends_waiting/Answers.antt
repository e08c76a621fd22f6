-- One of the two units is waited for.
use Rattle.report_auditor.proofs.ServedParts.{fails}
use Rattle.report_steps.proofs.AwaitLaws.{first_of_two, of_two}
use Rattle.report_steps.proofs.series.ends_waiting.Goals as goal

pub returns-then-ends_in_a_wait-clause-ends : goal.returns-then-ends_in_a_wait-clause-ends
returns-then-ends_in_a_wait-clause-ends g c t p stands = first_of_two (g.P.Subject.setting t) p.moment ((c.ends_in_a_wait.ensures.ends t p stands).says c.if-ends_in_a_wait.true)

pub returns-clause-ends : goal.returns-clause-ends
returns-clause-ends g c t p stands =
    of_two (g.P.Subject.setting t) p.moment c.ends_in_a_wait-2.result (λ h. fails c.ends_in_a_wait.result (c.ends_in_a_wait.ensures.ends t p stands) c.if-ends_in_a_wait.false h) (c.ends_in_a_wait-2.ensures.ends t p stands)
