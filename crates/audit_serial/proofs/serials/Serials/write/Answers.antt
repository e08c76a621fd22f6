use Rattle.audit_serial.proofs.Terms.{ap, at, channel_of, outcome, SpiState, state_by, state_of, untouched, with_item, written_from, ◌∙◌, ◌≡◌}
use Rattle.audit_serial.proofs.serials.Serials.write.Goals as goal

pub returns-clause-is : goal.returns-clause-is
returns-clause-is c =
    let m = c.args.self.now in
    let d = m.configured.table in
    let s = state_of m in
    let n = c.args.number in
    let after : state_of (record m { channels = c.write.new.self }) ≡ record s { channels = with_item untouched m.channels n (written_from c.args.pointer (channel_of d n) (at m.channels n)) } =
    ap (λ cs. state_by m.mode cs m.job_results.items m.sequence_results.items m.queue m.units)
    (c.in_ok-write.ensures ∙ ap (λ k. with_item untouched m.channels n (written_from c.args.pointer k (at m.channels n))) c.channel-channel.ensures) in
    ap (λ (t : SpiState). outcome t c.answers.result) after
    ∙ ap (λ t. outcome (record s { channels = with_item untouched m.channels n (written_from c.args.pointer (channel_of d n) (at m.channels n)) }) t) c.answers.ensures
