use Rattle.audit_machines.proofs.hosted.HostedPart.reset.Goals as goal

pub returns-clause-comes : goal.returns-clause-comes
returns-clause-comes g c w s stands = c.reset.ensures.comes w s stands
