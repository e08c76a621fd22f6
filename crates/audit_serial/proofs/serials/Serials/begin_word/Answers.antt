use Rattle.audit_serial.proofs.Terms.{ap, begun_of, JobWord, outcome_with, Some, SpiState, state_by, state_of, tells_nothing, with_word, word_of, ◌∙◌}
use Rattle.audit_serial.proofs.serials.Serials.begin_word.Goals as goal

pub returns-clause-is : goal.returns-clause-is
returns-clause-is c =
    let m = c.args.self.now in
    let s = state_of m in
    let u = c.args.unit in
    let n = c.args.received in
    let units = ap (λ us. state_by m.mode m.channels m.job_results.items m.sequence_results.items m.queue us) c.in_ok-put_run.ensures in
    let word =
    c.begun-begun.ensures
    ∙ (ap (λ (x : JobWord). record { unit = u; word = x.sent; width = x.width; device = c.device_of.result }) c.word.ensures
    ∙ ap (λ o. record { unit = u; word = (word_of c.args.run).sent; width = (word_of c.args.run).width; device = o }) c.device_of.ensures) in
    ap (λ (t : SpiState). outcome_with t tells_nothing (Some (begun_of c.begun-begun.result))) units
    ∙ ap (λ b. outcome_with (with_word s u n c.args.run) tells_nothing (Some b)) word
