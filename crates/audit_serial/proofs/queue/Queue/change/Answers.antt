use Rattle.audit_serial.proofs.Terms.{AllByRecursion, ap, arith, change_as, changed, IsWithin, map, pending_as, QueueKept, subst, sym, within_changed, ◌+◌, ◌∙◌}
use Rattle.audit_serial.proofs.queue.Queue.change.Goals as goal

pub change_all-requires : goal.change_all-requires
change_all-requires c = record { within = c.self.invariant.1; room = omega (arith, ap (λ (k : QueueKept). k.events) c.self.view_is, c.requires) }

pub invariant_of-self : goal.invariant_of-self
invariant_of-self c =
    (omega (arith, c.self.invariant.0), subst (λ ps. AllByRecursion (IsWithin (c.self.inside.events + 1)) ps) (sym c.change_all.ensures) (within_changed c.self.inside.events c.args.sequence c.args.change (map pending_as c.self.inside.entries.items) c.self.invariant.1))

pub returns : goal.returns
returns c =
    let v : QueueKept = record { entries = map pending_as c.self.inside.entries.items; requests = c.self.inside.requests; events = c.self.inside.events } in
    ap (λ ps. record v { entries = ps; events = v.events + 1 }) c.change_all.ensures
    ∙ ap (λ (k : QueueKept). record k { entries = changed c.args.sequence (change_as c.args.change) k.entries; events = k.events + 1 }) c.self.view_is
