use Rattle.audit_serial.proofs.Terms.{ap, get_or-map, is_of, pending_as, sym, ◌∙◌}
use Rattle.audit_serial.proofs.queue.is_of_at.Goals as goal

pub returns : goal.returns
returns c d = c.is_of.ensures ∙ ap (is_of c.args.sequence) (sym (get_or-map pending_as c.args.entries.now c.args.place _ d c.requires))
