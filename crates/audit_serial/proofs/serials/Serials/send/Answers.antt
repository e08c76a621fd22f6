use Rattle.audit_serial.proofs.Terms.{ap, carried_at, carried_for, carried_here, Carrying, goes_first, goes_further, goes_nowhere, goes_on, IfOk-weaker, is_off, is_sync_sequence, may_go_on_at, not, option_map, sends_from, SendsOn, sent_on, Some, state_of, subst, sym, true, unit_of_sequence, ◌||◌, ◌∙◌}
use Rattle.audit_serial.proofs.serials.Serials.send.Goals as goal

pub send_next-requires : goal.send_next-requires
send_next-requires c =
    let m = c.args.self.now in
    let d = m.configured.table in
    let s = state_of m in
    let q = c.args.sequence in
    let known = sym c.may_go_on.ensures ∙ (c.in-Some.is ∙ ap (λ b. Some b) c.if-may.true) in
    let here = carried_here (is_off s.mode || not (is_sync_sequence d q)) (carried_at s (unit_of_sequence d q)) (λ x. may_go_on_at d c.args.now x q) true known in
    subst (λ u. SendsOn d (carried_at s u)) c.requires (subst (λ o. SendsOn d o) here (sends_from d c.args.now q (carried_for d s q) known))

pub returns-then-may-clause-is : goal.returns-then-may-clause-is
returns-then-may-clause-is c w time =
    let m = c.args.self.now in
    let d = m.configured.table in
    let s = state_of m in
    let q = c.args.sequence in
    let u = c.args.unit in
    let n = c.args.received in
    let known = sym c.may_go_on.ensures ∙ (c.in-Some.is ∙ ap (λ b. Some b) c.if-may.true) in
    let here = carried_here (is_off s.mode || not (is_sync_sequence d q)) (carried_at s (unit_of_sequence d q)) (λ x. may_go_on_at d c.args.now x q) true known in
    let same = sym (here ∙ ap (carried_at s) c.requires) in
    IfOk-weaker c.send_next.result _ _ (λ b e.
    e ∙ (ap (λ o. option_map (λ (x : Carrying). sent_on d w s u n x (goes_on x.run)) o) same ∙ goes_further d w s u n q c.args.now time (carried_for d s q) known)) (c.send_next.ensures.is w time)

pub returns-else-may-clause-is : goal.returns-else-may-clause-is
returns-else-may-clause-is c w time =
    let m = c.args.self.now in
    let known = sym c.may_go_on.ensures ∙ (c.in-Some.is ∙ ap (λ b. Some b) c.if-may.false) in
    goes_nowhere m.configured.table w (state_of m) c.args.unit c.args.received c.args.sequence c.args.now time (carried_for m.configured.table (state_of m) c.args.sequence) known

pub returns-in-None-clause-is : goal.returns-in-None-clause-is
returns-in-None-clause-is c w time =
    let m = c.args.self.now in
    let known = sym c.may_go_on.ensures ∙ c.in-None.is in
    IfOk-weaker c.send_first.result _ _ (λ b e.
    e ∙ goes_first m.configured.table w (state_of m) c.args.unit c.args.received c.args.sequence c.args.now time (carried_for m.configured.table (state_of m) c.args.sequence) known) (c.send_first.ensures.is w time)
