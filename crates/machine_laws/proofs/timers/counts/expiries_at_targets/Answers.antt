use Rattle.machine_laws.proofs.CountLaws.{reached, expires_where_reached, turns_over, expires_where_zero}
use Rattle.machine_laws.proofs.timers.counts.expiries_at_targets.Goals as goal

pub returns-clause-one_shot : goal.returns-clause-one_shot
returns-clause-one_shot _ start target prescaler time some counts =
    (reached start target prescaler time counts, expires_where_reached start target prescaler time some counts)

pub returns-clause-continuous : goal.returns-clause-continuous
returns-clause-continuous _ = turns_over

pub returns-clause-alone : goal.returns-clause-alone
returns-clause-alone _ = expires_where_zero
