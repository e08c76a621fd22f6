use Rattle.audit_serial.proofs.Terms.{ap, came, goes_on, IfOk-weaker, is_some, served, served_free, served_freed, Some, SpiState, state_by, state_of, sym, ◌∙◌}
use Rattle.audit_serial.proofs.serials.Serials.serve_unit.Goals as goal

pub returns-in-Some-clause-is : goal.returns-in-Some-clause-is
returns-in-Some-clause-is c w time =
    let m = c.args.self.now in
    let d = m.configured.table in
    let u = c.args.unit in
    let run = c.in-Some.run' in
    let goes = goes_on run in
    let freed = ap (λ us. state_by m.mode m.channels m.job_results.items m.sequence_results.items m.queue us) (c.take_run.ensures.is (ap is_some c.in-Some.is)) in
    let known = sym c.take_run.ensures.was ∙ c.in-Some.is in
    IfOk-weaker c.serve_run.result _ _ (λ x e.
    e
    ∙ (ap (λ (t : SpiState). served_free d w t u c.args.received run goes) freed
    ∙ (sym (served_freed d w (state_of m) u c.args.received run goes) ∙ ap (λ o. served d w (state_of m) (Some u) c.args.received o) (sym known)))) (c.serve_run.ensures.is w time)

pub returns-in-None-clause-is : goal.returns-in-None-clause-is
returns-in-None-clause-is c w time =
    let m = c.args.self.now in
    let kept = ap (λ us. came (state_by m.mode m.channels m.job_results.items m.sequence_results.items m.queue us) c.nothing.result) (c.take_run.ensures.none c.in-None.is) in
    let known = sym c.take_run.ensures.was ∙ c.in-None.is in
    kept ∙ (c.nothing.ensures (state_of m) ∙ ap (λ o. served m.configured.table w (state_of m) (Some c.args.unit) c.args.received o) (sym known))
