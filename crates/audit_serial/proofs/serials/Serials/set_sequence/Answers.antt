use Rattle.audit_serial.proofs.Terms.{ap, IfOk-weaker, state_by}
use Rattle.audit_serial.proofs.serials.Serials.set_sequence.Goals as goal

pub returns-clause-state : goal.returns-clause-state
returns-clause-state c =
    let m = c.args.self.now in
    IfOk-weaker c.set_item.result _ _ (λ _ e. ap (λ qs. state_by m.mode m.channels m.job_results.items qs m.queue m.units) e) c.set_item.ensures
