use Rattle.audit_serial.proofs.Terms.{ap, carried_at, carried_for, carried_there, Carrying, ends_later, ends_now, ends_unsent, IfOk-weaker, is_off, is_sync_sequence, not, option_map, sent, Some, state_of, sym, true, unit_of_sequence, ◌||◌, ◌∙◌}
use Rattle.audit_serial.proofs.serials.Serials.end_sending.Goals as goal

pub returns-then-may-clause-is : goal.returns-then-may-clause-is
returns-then-may-clause-is c w time =
    let m = c.args.self.now in
    let d = m.configured.table in
    let s = state_of m in
    let q = c.args.sequence in
    let known = sym c.may_end.ensures ∙ (c.in-Some.is ∙ ap (λ b. Some b) c.if-may.true) in
    let here = carried_there d c.args.now q (is_off s.mode || not (is_sync_sequence d q)) (carried_at s (unit_of_sequence d q)) true known in
    IfOk-weaker c.end_carried.result _ _ (λ b e.
    e ∙ (ap (λ o. option_map (λ (x : Carrying). sent d s (unit_of_sequence d q) x x.run.transfer.failed) o) (sym here) ∙ ends_now d w s q c.args.now time (carried_for d s q) known)) c.end_carried.ensures.is

pub returns-else-may-clause-is : goal.returns-else-may-clause-is
returns-else-may-clause-is c w time =
    let m = c.args.self.now in
    let known = sym c.may_end.ensures ∙ (c.in-Some.is ∙ ap (λ b. Some b) c.if-may.false) in
    ends_later m.configured.table w (state_of m) c.args.sequence c.args.now time (carried_for m.configured.table (state_of m) c.args.sequence) known

pub returns-in-None-clause-is : goal.returns-in-None-clause-is
returns-in-None-clause-is c w time =
    let m = c.args.self.now in
    let known = sym c.may_end.ensures ∙ c.in-None.is in
    c.not_sent.ensures ∙ ends_unsent m.configured.table w (state_of m) c.args.sequence c.args.now time (carried_for m.configured.table (state_of m) c.args.sequence) known
