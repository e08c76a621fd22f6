use Rattle.audit_serial.proofs.Terms.{AllByRecursion, ap, IsWithin, map, pending_as, QueueKept, subst, sym, within_removed, without, ◌∙◌}
use Rattle.audit_serial.proofs.queue.Queue.remove.Goals as goal

pub invariant_of-self : goal.invariant_of-self
invariant_of-self c =
    (c.self.invariant.0, subst (λ ps. AllByRecursion (IsWithin c.self.inside.events) ps) (sym c.remove_all.ensures) (within_removed c.self.inside.events c.args.sequence (map pending_as c.self.inside.entries.items) c.self.invariant.1))

pub returns : goal.returns
returns c =
    let v : QueueKept = record { entries = map pending_as c.self.inside.entries.items; requests = c.self.inside.requests; events = c.self.inside.events } in
    ap (λ ps. record v { entries = ps }) c.remove_all.ensures ∙ ap (λ (k : QueueKept). record k { entries = without c.args.sequence k.entries }) c.self.view_is
