use Rattle.audit_serial.proofs.Terms.{ap, carried_at, Carrying, is_some, None, option_map, pending_as, Run, sent, sent_free, sequence_freed, Some, SpiState, SpiTable, state_by, state_of, sym, unit_of_sequence, with_carried, ◌∙◌}
use Rattle.audit_serial.proofs.serials.Serials.end_carried.Goals as goal

pub returns-in_ok-told-in-Some-clause-is : goal.returns-in_ok-told-in-Some-clause-is
returns-in_ok-told-in-Some-clause-is c =
    let m = c.args.self.now in
    let d = m.configured.table in
    let s = state_of m in
    let u = unit_of_sequence d c.args.sequence in
    let unit = c.unit_of-unit.ensures ∙ ap (λ (t : SpiTable). unit_of_sequence t c.args.sequence) c.table.ensures in
    let x = c.in-Some.carrying in
    let p = pending_as c.entry-entry.result in
    let taken = c.take_carried.ensures in
    let known = ap (carried_at s) (sym unit) ∙ (sym taken.was ∙ c.in-Some.is) in
    let freed =
    ap (λ us. state_by m.mode m.channels m.job_results.items m.sequence_results.items m.queue us) (taken.is (ap is_some c.in-Some.is))
    ∙ ap (λ k. with_carried s k None) unit in
    ap (λ o. Some o)
    (c.in_ok-told-in-Some.ensures.is
    ∙ (ap (λ (t : SpiState). sent_free d t (record { entry = p; run = c.run.result }) c.run.result.transfer.failed) freed
    ∙ (ap (λ (r : Run). sent_free d (with_carried s u None) (record { entry = p; run = r }) r.transfer.failed) c.run.ensures
    ∙ (ap (λ e. sent_free d (with_carried s u None) (record { entry = e; run = x.run }) x.run.transfer.failed) c.entry-entry.ensures
    ∙ sym (sequence_freed d s u x x.run.transfer.failed)))))
    ∙ ap (λ o. option_map (λ (y : Carrying). sent d s u y y.run.transfer.failed) o) (sym known)

pub returns-in-None-clause-is : goal.returns-in-None-clause-is
returns-in-None-clause-is c =
    let m = c.args.self.now in
    let d = m.configured.table in
    let s = state_of m in
    let u = unit_of_sequence d c.args.sequence in
    let unit = c.unit_of-unit.ensures ∙ ap (λ (t : SpiTable). unit_of_sequence t c.args.sequence) c.table.ensures in
    let known = ap (carried_at s) (sym unit) ∙ (sym c.take_carried.ensures.was ∙ c.in-None.is) in
    ap (λ o. option_map (λ (y : Carrying). sent d s u y y.run.transfer.failed) o) (sym known)

pub returns-in-None-clause-unchanged : goal.returns-in-None-clause-unchanged
returns-in-None-clause-unchanged c none = let m = c.args.self.now in ap (λ us. record m { units = us }) (c.take_carried.ensures.none c.in-None.is)
