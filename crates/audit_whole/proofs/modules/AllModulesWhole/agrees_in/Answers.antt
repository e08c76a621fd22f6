use Rattle.audit_whole.proofs.modules.AllModulesWhole.agrees_in.Goals as goal

pub agrees_in-requires : goal.agrees_in-requires
agrees_in-requires c = c.requires.room

pub returns : goal.returns
returns c w s fits is stands = c.agrees_in.ensures w s is stands
