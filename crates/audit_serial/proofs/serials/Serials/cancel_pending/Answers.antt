use Rattle.audit_serial.proofs.Terms.{ap, cancelled_by, cancels, changed, ended, gives, outcome, pending_as, SpiSeqCanceled, SpiState, state_by, state_of, sym, ◌∙◌}
use Rattle.audit_serial.proofs.serials.Serials.cancel_pending.Goals as goal

pub returns-then-is_running-clause-is : goal.returns-then-is_running-clause-is
returns-then-is_running-clause-is c =
    let m = c.args.self.now in
    let d = m.configured.table in
    let s = state_of m in
    let p = pending_as c.args.entry in
    ap (λ q. outcome (state_by m.mode m.channels m.job_results.items m.sequence_results.items q m.units) c.nothing.result) c.change.ensures
    ∙ (ap (λ t. outcome (record s { pending = changed p.sequence cancels s.pending }) t) c.nothing.ensures
    ∙ sym (ap (cancelled_by d s p) (sym c.is_running.ensures ∙ c.if-is_running.true)))

pub returns-in_ok-end-clause-is : goal.returns-in_ok-end-clause-is
returns-in_ok-end-clause-is c =
    let m = c.args.self.now in
    let d = m.configured.table in
    let s = state_of m in
    let p = pending_as c.args.entry in
    let told = c.with_notices.ensures ∙ ap gives (c.both_notices.ensures ∙ c.sequence_notice-notice.ensures) in
    ap (λ (t : SpiState). outcome t c.with_notices.result) c.in_ok-end.ensures.state
    ∙ (ap (λ t. outcome (ended d s p p.next SpiSeqCanceled) t) told ∙ sym (ap (cancelled_by d s p) (sym c.is_running.ensures ∙ c.if-is_running.false)))
