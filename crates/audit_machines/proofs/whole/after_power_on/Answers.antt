use Rattle.audit_machines.proofs.whole.after_power_on.Goals as goal

pub returns-clause-fits : goal.returns-clause-fits
returns-clause-fits g c = c.in_ok-host.ensures.fits c.in_ok-outside.outside (c.requires.fits c.in_ok-outside.outside)
