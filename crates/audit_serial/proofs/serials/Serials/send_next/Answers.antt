use Rattle.audit_serial.proofs.Terms.{ap, Carrying, goes_on, is_some, None, option_map, pending_as, Run, SendsOn, sent_freed, sent_on, Some, SpiState, state_by, state_of, subst, sym, with_carried, ◌∙◌}
use Rattle.audit_serial.proofs.serials.Serials.send_next.Goals as goal

pub send_taken-requires : goal.send_taken-requires
send_taken-requires c =
    let d = c.args.self.now.configured.table in
    let known = sym c.take_carried.ensures.was ∙ c.in-Some.is in
    let x = c.in-Some.carrying in
    subst (λ (r : Run). SendsOn d (Some (record { entry = pending_as c.entry-entry.result; run = r }))) (sym c.run.ensures)
    (subst (λ p. SendsOn d (Some (record { entry = p; run = x.run }))) (sym c.entry-entry.ensures) (subst (λ o. SendsOn d o) known c.requires))

pub returns-in_ok-begun-in-Some-clause-is : goal.returns-in_ok-begun-in-Some-clause-is
returns-in_ok-begun-in-Some-clause-is c w time =
    let m = c.args.self.now in
    let d = m.configured.table in
    let s = state_of m in
    let u = c.args.unit in
    let n = c.args.received in
    let x = c.in-Some.carrying in
    let p = pending_as c.entry-entry.result in
    let known = sym c.take_carried.ensures.was ∙ c.in-Some.is in
    let freed = ap (λ us. state_by m.mode m.channels m.job_results.items m.sequence_results.items m.queue us) (c.take_carried.ensures.is (ap is_some c.in-Some.is)) in
    ap (λ o. Some o)
    (c.in_ok-begun-in-Some.ensures.is w time
    ∙ (ap (λ (t : SpiState). sent_on d w t u n (record { entry = p; run = c.run.result }) (goes_on c.run.result)) freed
    ∙ (ap (λ (r : Run). sent_on d w (with_carried s u None) u n (record { entry = p; run = r }) (goes_on r)) c.run.ensures
    ∙ (ap (λ e. sent_on d w (with_carried s u None) u n (record { entry = e; run = x.run }) (goes_on x.run)) c.entry-entry.ensures
    ∙ sym (sent_freed d w s u n x (goes_on x.run))))))
    ∙ ap (λ o. option_map (λ (y : Carrying). sent_on d w s u n y (goes_on y.run)) o) (sym known)

pub returns-in-None-clause-is : goal.returns-in-None-clause-is
returns-in-None-clause-is c w time =
    let m = c.args.self.now in
    let known = sym c.take_carried.ensures.was ∙ c.in-None.is in
    ap (λ o. option_map (λ (y : Carrying). sent_on m.configured.table w (state_of m) c.args.unit c.args.received y (goes_on y.run)) o) (sym known)

pub returns-in-None-clause-unchanged : goal.returns-in-None-clause-unchanged
returns-in-None-clause-unchanged c none = let m = c.args.self.now in ap (λ us. record m { units = us }) (c.take_carried.ensures.none c.in-None.is)
