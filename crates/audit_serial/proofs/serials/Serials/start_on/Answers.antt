use Rattle.audit_serial.proofs.Terms.{ap, arith, cond, IfOk-weaker, next_at, QueueKept, sent_at, sent_by, sent_word, Some, start_by, state_of, sym, ◌∙◌}
use Rattle.audit_serial.proofs.serials.Serials.start_on.Goals as goal

pub returns-then-is_sync-clause-is : goal.returns-then-is_sync-clause-is
returns-then-is_sync-clause-is c w time =
    let m = c.args.self.now in
    let d = m.configured.table in
    let s = state_of m in
    let u = c.args.unit in
    let n = c.args.received in
    IfOk-weaker c.send_on.result _ _ (λ b e.
    e
    ∙ (ap (λ o. sent_word d w s u n o) c.sent_by.ensures
    ∙ sym (ap (λ b. cond b (sent_at d w s (Some u) n (sent_by c.args.by)) (start_by d w s (Some u) n (next_at d s (Some u)))) (sym c.is_sync.ensures ∙ c.if-is_sync.true)))) (c.send_on.ensures.is w time)

pub returns-else-is_sync-clause-is : goal.returns-else-is_sync-clause-is
returns-else-is_sync-clause-is c w time =
    let m = c.args.self.now in
    let d = m.configured.table in
    let s = state_of m in
    let u = c.args.unit in
    let n = c.args.received in
    IfOk-weaker c.start_next.result _ _ (λ b e.
    e ∙ sym (ap (λ b. cond b (sent_at d w s (Some u) n (sent_by c.args.by)) (start_by d w s (Some u) n (next_at d s (Some u)))) (sym c.is_sync.ensures ∙ c.if-is_sync.false))) (c.start_next.ensures.is w time)

pub returns-then-is_sync-clause-events : goal.returns-then-is_sync-clause-events
returns-then-is_sync-clause-events c =
    IfOk-weaker c.send_on.result _ _ (λ b e. let same = ap (λ (q : QueueKept). q.events) e in omega (arith, same)) c.send_on.ensures.queue
