use Rattle.audit_whole.proofs.modules.AllModulesWhole.shown.Goals as goal

pub shown_text-requires : goal.shown_text-requires
shown_text-requires c = record { valid = rw c.new-rest.ensures c.requires.valid }

pub returns : goal.returns
returns c w s is stands =
    let shown = rw c.new-rest.ensures at (c.shown_text.ensures w s) in
    shown (is, stands, c.requires.table, c.sizes_fit.ensures s.1.0.1 stands.1.0.1 c.if-not-sizes_fit.false)
