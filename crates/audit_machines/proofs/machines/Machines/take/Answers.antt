use Rattle.audit_machines.proofs.machines.Machines.take.Goals as goal

pub returns-in-Ok-clause-takes : goal.returns-in-Ok-clause-takes
returns-in-Ok-clause-takes g c = c.in-Ok.ensures.takes
