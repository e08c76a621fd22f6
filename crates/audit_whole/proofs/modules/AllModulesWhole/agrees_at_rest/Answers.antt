use Rattle.audit_whole.proofs.modules.AllModulesWhole.agrees_at_rest.Goals as goal

pub agrees_at_rest-requires : goal.agrees_at_rest-requires
agrees_at_rest-requires c = c.requires.room

pub returns : goal.returns
returns c w s fits is stands = c.agrees_at_rest.ensures w s stands
