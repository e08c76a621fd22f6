use Rattle.audit_whole.proofs.modules.AllModulesWhole.agrees_at.Goals as goal

pub agrees_at-requires : goal.agrees_at-requires
agrees_at-requires c = c.requires.room
