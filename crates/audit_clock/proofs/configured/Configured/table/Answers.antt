use Rattle.audit_clock.proofs.configured.Configured.table.Goals as goal

pub returns-clause-short : goal.returns-clause-short
returns-clause-short c = c.args.self.now.short
