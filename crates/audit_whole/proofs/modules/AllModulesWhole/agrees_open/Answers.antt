use Rattle.audit_whole.proofs.modules.AllModulesWhole.agrees_open.Goals as goal

pub returns : goal.returns
returns c w s fits is stands = c.agrees_open.ensures w s is stands
