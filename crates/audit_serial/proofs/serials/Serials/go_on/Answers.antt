use Rattle.audit_serial.proofs.Terms.{ap, begins_on, begun, find, IfOk-weaker, is_of, JobWord, option_map, pending_as, pending_of, received_with, SpiState, state_by, state_of, stored, stored_as, stored_in, sym, word_of, ◌∙◌}
use Rattle.audit_serial.proofs.serials.Serials.go_on.Goals as goal

pub returns-clause-is : goal.returns-clause-is
returns-clause-is c w time =
    let m = c.args.self.now in
    let d = m.configured.table in
    let s = state_of m in
    let run = c.args.run in
    let x = word_of run in
    let u = c.args.unit in
    let n = c.args.received in
    let stored_now =
    ap (λ cs. state_by m.mode cs m.job_results.items m.sequence_results.items m.queue m.units)
    (c.in_ok-store.ensures ∙ (ap (λ (y : JobWord). stored_in m.channels y y.goes c.incoming.result) c.word.ensures ∙ ap (λ v. stored_in m.channels x x.goes v) c.incoming.ensures))
    ∙ sym (stored_as s x x.goes run.transfer.incoming) in
    let entry = c.find-entry.ensures ∙ ap (λ q. find (is_of q) s.pending) c.sequence-sequence.ensures in
    let next =
    c.in_ok-go_on.ensures
    ∙ (ap (λ q. begun c.args.now n q run.words (received_with run)) c.sequence-sequence.ensures
    ∙ ap (λ t. begun t n run.sequence run.words (received_with run)) (sym time)) in
    IfOk-weaker c.begin_word.result _ _ (λ b e.
    e
    ∙ (ap (λ (t : SpiState). begins_on d t u n (option_map pending_as c.find-entry.result) c.go_on.new.self) stored_now
    ∙ (ap (λ o. begins_on d (stored s x x.goes run.transfer.incoming) u n o c.go_on.new.self) entry
    ∙ ap (λ r. begins_on d (stored s x x.goes run.transfer.incoming) u n (pending_of s run) r) next))) c.begin_word.ensures.is
