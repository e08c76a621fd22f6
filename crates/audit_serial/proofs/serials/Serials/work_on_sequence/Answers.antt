use Rattle.audit_serial.proofs.Terms.{accepted, ap, IfOk-weaker, outcome, sequence_work, SpiState, state_of, sym, ◌∙◌}
use Rattle.audit_serial.proofs.serials.Serials.work_on_sequence.Goals as goal

pub returns-in_ok-accept-in-AsyncTransmit-clause-is : goal.returns-in_ok-accept-in-AsyncTransmit-clause-is
returns-in_ok-accept-in-AsyncTransmit-clause-is c =
    let m = c.args.self.now in
    let d = m.configured.table in
    let s = state_of m in
    let q = c.args.sequence in
    ap (λ (t : SpiState). outcome t c.answers.result) c.in_ok-accept-in-AsyncTransmit.ensures.state
    ∙ (ap (λ t. outcome (accepted d s q) t) c.answers.ensures ∙ sym (ap (sequence_work d s q) c.in-AsyncTransmit.is))

pub returns-in-Cancel-clause-is : goal.returns-in-Cancel-clause-is
returns-in-Cancel-clause-is c =
    let m = c.args.self.now in
    let d = m.configured.table in
    let s = state_of m in
    IfOk-weaker c.cancel.result _ _ (λ told e. e ∙ sym (ap (sequence_work d s c.args.sequence) c.in-Cancel.is)) c.cancel.ensures.is

pub returns-in-SyncTransmit-clause-is : goal.returns-in-SyncTransmit-clause-is
returns-in-SyncTransmit-clause-is c =
    let m = c.args.self.now in
    let d = m.configured.table in
    let s = state_of m in
    ap (λ t. outcome s t) c.nothing.ensures ∙ sym (ap (sequence_work d s c.args.sequence) c.in-SyncTransmit.is)
