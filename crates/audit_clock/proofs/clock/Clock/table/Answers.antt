use Rattle.audit_clock.proofs.clock.Clock.table.Goals as goal

pub returns-clause-short : goal.returns-clause-short
returns-clause-short c = c.table.ensures.short
