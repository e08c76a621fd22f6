use Rattle.audit_serial.proofs.Terms.{ap, at, outcome, set_up_as, Some, SpiState, state_by, state_of, untouched, with_item, ◌∙◌}
use Rattle.audit_serial.proofs.serials.Serials.set_up.Goals as goal

pub returns-clause-is : goal.returns-clause-is
returns-clause-is c =
    let m = c.args.self.now in
    let s = state_of m in
    let after = ap (λ cs. state_by m.mode cs m.job_results.items m.sequence_results.items m.queue m.units) c.in_ok-set_up.ensures in
    ap (λ (t : SpiState). outcome t c.answers.result) after
    ∙ ap (λ t. outcome (record s { channels = with_item untouched m.channels c.args.number (record (at m.channels c.args.number) { set_up = Some (set_up_as c.args.set_up) }) }) t) c.answers.ensures
