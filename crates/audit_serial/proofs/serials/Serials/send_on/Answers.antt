use Rattle.audit_serial.proofs.Terms.{ap, carried_for, cond, eq_from, eq_other, IfOk-weaker, None, sent_from, sent_word, state_of, sym, unit_of_sequence, ◌∙◌}
use Rattle.audit_serial.proofs.serials.Serials.send_on.Goals as goal

pub send-requires : goal.send-requires
send-requires c = sym c.unit_of-own.ensures ∙ c.if-own-unit.true

pub returns-then-own-unit-clause-is : goal.returns-then-own-unit-clause-is
returns-then-own-unit-clause-is c w time =
    let m = c.args.self.now in
    let d = m.configured.table in
    let s = state_of m in
    let q = c.in-Some.sequence in
    let same = eq_from (unit_of_sequence d q) c.args.unit (sym c.unit_of-own.ensures ∙ c.if-own-unit.true) in
    let there = ap (λ o. sent_word d w s c.args.unit c.args.received o) c.in-Some.is in
    IfOk-weaker c.send.result _ _ (λ b e.
    e ∙ (sym (ap (λ x. cond x (sent_from d w s c.args.unit c.args.received q (carried_for d s q)) None) same) ∙ sym there)) (c.send.ensures.is w time)

pub returns-else-own-unit-clause-is : goal.returns-else-own-unit-clause-is
returns-else-own-unit-clause-is c w time =
    let m = c.args.self.now in
    let d = m.configured.table in
    let s = state_of m in
    let q = c.in-Some.sequence in
    let other = eq_other (unit_of_sequence d q) c.args.unit (λ e. c.if-own-unit.false (c.unit_of-own.ensures ∙ e)) in
    sym (ap (λ o. sent_word d w s c.args.unit c.args.received o) c.in-Some.is ∙ ap (λ x. cond x (sent_from d w s c.args.unit c.args.received q (carried_for d s q)) None) other)
