use Rattle.audit_serial.proofs.Terms.{ap, begun, carries_on, IfOk-weaker, JobWord, pending_as, received_with, SpiState, state_by, state_of, stored, stored_as, stored_in, sym, word_of, ◌∙◌}
use Rattle.audit_serial.proofs.serials.Serials.send_same.Goals as goal

pub returns-clause-is : goal.returns-clause-is
returns-clause-is c w time =
    let m = c.args.self.now in
    let d = m.configured.table in
    let s = state_of m in
    let run = c.args.run in
    let x = word_of run in
    let u = c.args.unit in
    let n = c.args.received in
    let p = pending_as c.args.entry in
    let stored_now =
    ap (λ cs. state_by m.mode cs m.job_results.items m.sequence_results.items m.queue m.units)
    (c.in_ok-store.ensures ∙ (ap (λ (y : JobWord). stored_in m.channels y y.goes c.incoming.result) c.word.ensures ∙ ap (λ v. stored_in m.channels x x.goes v) c.incoming.ensures))
    ∙ sym (stored_as s x x.goes run.transfer.incoming) in
    let next = c.in_ok-go_on.ensures ∙ ap (λ t. begun t n p.sequence run.words (received_with run)) (sym time) in
    IfOk-weaker c.carry_on.result _ _ (λ b e.
    e
    ∙ (ap (λ (t : SpiState). carries_on d t u n p c.go_on.new.self) stored_now
    ∙ ap (λ r. carries_on d (stored s x x.goes run.transfer.incoming) u n p r) next)) c.carry_on.ensures.is
