use Rattle.audit_serial.proofs.Terms.{after_last, after_last_as, ap, IfOk-weaker, state_by, state_of, sym, ◌∙◌}
use Rattle.audit_serial.proofs.serials.Serials.take_last.Goals as goal

pub returns-then-failed-clause-state : goal.returns-then-failed-clause-state
returns-then-failed-clause-state c = sym (ap (after_last (state_of c.args.self.now) c.args.run) c.if-failed.true)

pub returns-else-failed-clause-state : goal.returns-else-failed-clause-state
returns-else-failed-clause-state c =
    let m = c.args.self.now in
    IfOk-weaker c.take_last.result _ _ (λ _ e.
    ap (λ cs. state_by m.mode cs m.job_results.items m.sequence_results.items m.queue m.units) e
    ∙ (sym (after_last_as (state_of m) c.args.run) ∙ sym (ap (after_last (state_of m) c.args.run) c.if-failed.false))) c.take_last.ensures
