use Rattle.audit_serial.proofs.Terms.{[], AllByRecursion, ap, arith, IsWithin, job_result, map, map_push, pending_as, QueueKept, requested, subst, sym, within_pushed, ◌++◌, ◌+◌, ◌∙◌, ◌∷◌}
use Rattle.audit_serial.proofs.queue.Queue.request.Goals as goal

pub invariant_of-self-2 : goal.invariant_of-self-2
invariant_of-self-2 c =
    let e = c.self.inside.events in (
      omega (arith, c.self.invariant.0),
      subst (λ es. AllByRecursion (IsWithin (e + 1)) (map pending_as es)) (sym c.in_ok-push.ensures.items)
          (subst (λ ps. AllByRecursion (IsWithin (e + 1)) ps) (sym (map_push pending_as c.self.inside.entries.items c.requested-entry.result))
          (within_pushed e (map pending_as c.self.inside.entries.items) (pending_as c.requested-entry.result) c.requested-entry.ensures.next c.self.invariant.1)),
    )

pub returns : goal.returns
returns c =
    let n = c.self.inside.requests + 1 in
    let e = c.self.inside.events + 1 in
    let es = map pending_as c.self.inside.entries.items in
    let rs = c.args.results.now in
    ap (λ ps. record { entries = ps; requests = n; events = e })
    (ap (map pending_as) c.in_ok-push.ensures.items ∙ (map_push pending_as c.self.inside.entries.items c.requested-entry.result ∙ ap (λ p. es ++ p ∷ []) c.requested-entry.ensures.is))
    ∙ ap (λ (k : QueueKept). record {
      entries = k.entries ++ requested c.args.sequence (k.requests + 1) (map (job_result rs) c.args.jobs.now) ∷ [];
      requests = k.requests + 1;
      events = k.events + 1;
    }) c.self.view_is
