use Rattle.audit_whole.proofs.at_rest.AtRestAllModulesShownBoard.stamps.Goals as goal

pub returns-clause-size : goal.returns-clause-size
returns-clause-size c w s h =
    let k = rw (← c.self.view_is) at h in
    c.shown_stamps.ensures.size s.1.0.1 k.1.1.0.1 (k.3 c.args.channel c.requires.there)

pub returns-clause-few : goal.returns-clause-few
returns-clause-few c = rw (← c.self.view_is) c.shown_stamps.ensures.few
