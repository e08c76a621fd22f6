use Rattle.audit_serial.proofs.Terms.{ap, begins, begun_of, carries_on, Carrying, JobWord, None, outcome_with, pending_as, shown_on, Some, SpiState, state_by, state_of, tells_nothing, with_item, word_of, ◌∙◌}
use Rattle.audit_serial.proofs.serials.Serials.carry_on.Goals as goal

pub returns-clause-is : goal.returns-clause-is
returns-clause-is c =
    let m = c.args.self.now in
    let d = m.configured.table in
    let s = state_of m in
    let u = c.args.unit in
    let n = c.args.received in
    let p = pending_as c.args.entry in
    let r = c.args.run in
    let new = c.new.ensures in
    let units =
    ap (λ us. state_by m.mode m.channels m.job_results.items m.sequence_results.items m.queue us)
    (c.in_ok-put_carried.ensures
    ∙ ap (λ (x : Carrying). record m.units { carried = with_item None m.units.carried u (Some x); wires = shown_on m.units.wires u n (word_of x.run) }) new) in
    let word =
    c.begun-begun.ensures
    ∙ (ap (λ (x : JobWord). record { unit = u; word = x.sent; width = x.width; device = c.device_of.result }) c.word.ensures
    ∙ ap (λ o. record { unit = u; word = (word_of r).sent; width = (word_of r).width; device = o }) c.device_of.ensures) in
    ap (λ (t : SpiState). outcome_with t tells_nothing (Some (begun_of c.begun-begun.result))) units
    ∙ ap (λ b. record (carries_on d s u n p r) { begins = Some b }) word
