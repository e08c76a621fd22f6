use Rattle.audit_serial.proofs.Terms.{ap, at, channel_of, filled, IfOk-weaker, outcome, Some, SpiState, state_by, sym, tells_nothing, untouched, with_item, ◌∙◌}
use Rattle.audit_serial.proofs.serials.Serials.fill.Goals as goal

pub returns-clause-is : goal.returns-clause-is
returns-clause-is c w ws same =
    let m = c.args.self.now in
    let d = m.configured.table in
    let n = c.args.channel in
    IfOk-weaker c.fill.result _ _ (λ b e.
    ap (λ (t : SpiState). Some (outcome t tells_nothing))
    (ap (λ cs. state_by m.mode cs m.job_results.items m.sequence_results.items m.queue m.units)
    (e
    ∙ (ap (λ k. with_item untouched m.channels n (filled c.args.words.now k (at m.channels n))) c.channel-found.ensures
    ∙ ap (λ xs. with_item untouched m.channels n (filled xs (channel_of d n) (at m.channels n))) (sym same))))) c.fill.ensures
