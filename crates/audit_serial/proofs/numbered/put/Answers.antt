use Rattle.audit_serial.proofs.Terms.{}
use Rattle.audit_serial.proofs.numbered.put.Goals as goal

pub returns : goal.returns
returns g c = c.in_ok-grow.ensures.sets c.args.item
