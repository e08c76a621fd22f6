use Rattle.audit_serial.proofs.Terms.{ap, carried_at, faulted_carrying, faulted_run, IfOk-weaker, outcome, run_at, Some, SpiState, state_by, state_of, sym, tells_nothing, with_carried, with_run, ◌∙◌}
use Rattle.audit_serial.proofs.serials.Serials.fault.Goals as goal

pub returns-clause-is : goal.returns-clause-is
returns-clause-is c w time =
    let m = c.args.self.now in
    let s = state_of m in
    let u = c.args.unit in
    IfOk-weaker c.fault.result _ _ (λ b e.
    ap (λ (t : SpiState). Some (outcome t tells_nothing))
    (ap (λ us. state_by m.mode m.channels m.job_results.items m.sequence_results.items m.queue us) e
    ∙ ap (λ t. with_carried (with_run s u (faulted_run t (run_at s u))) u (faulted_carrying t (carried_at s u))) (sym time))) c.fault.ensures
