use Rattle.audit_machines.proofs.hosted.HostedPart.moved.Goals as goal

pub returns-clause-comes : goal.returns-clause-comes
returns-clause-comes g c w s at stands = c.moved.ensures.comes w s at stands
