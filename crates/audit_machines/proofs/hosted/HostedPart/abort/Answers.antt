use Rattle.audit_machines.proofs.hosted.HostedPart.abort.Goals as goal

pub returns-clause-follows : goal.returns-clause-follows
returns-clause-follows g c w s at stands = c.abort.ensures.follows w s at stands
