use Rattle.audit_machines.proofs.hosted.HostedPart.serve.Goals as goal

pub returns-clause-follows : goal.returns-clause-follows
returns-clause-follows g c w s at stands = c.serve.ensures.follows w s at stands
