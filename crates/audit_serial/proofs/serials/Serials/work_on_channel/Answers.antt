use Rattle.audit_serial.proofs.Terms.{answers, ap, channel_of, channel_work, IfOk-weaker, outcome, state_of, sym, ◌∙◌}
use Rattle.audit_serial.proofs.serials.Serials.work_on_channel.Goals as goal

pub returns-in-WriteIb-clause-is : goal.returns-in-WriteIb-clause-is
returns-in-WriteIb-clause-is c =
    let m = c.args.self.now in
    let d = m.configured.table in
    let s = state_of m in
    IfOk-weaker c.write.result _ _ (λ told e. e ∙ sym (ap (channel_work (channel_of d c.args.number) s c.args.number) c.in-WriteIb.is)) c.write.ensures.is

pub returns-in-ReadIb-clause-is : goal.returns-in-ReadIb-clause-is
returns-in-ReadIb-clause-is c =
    let m = c.args.self.now in
    let d = m.configured.table in
    let s = state_of m in
    ap (λ t. outcome s t) (c.with_answer.ensures ∙ ap answers c.read.ensures) ∙ sym (ap (channel_work (channel_of d c.args.number) s c.args.number) c.in-ReadIb.is)

pub returns-in-SetupEb-clause-is : goal.returns-in-SetupEb-clause-is
returns-in-SetupEb-clause-is c =
    let m = c.args.self.now in
    let d = m.configured.table in
    let s = state_of m in
    IfOk-weaker c.set_up.result _ _ (λ told e. e ∙ sym (ap (channel_work (channel_of d c.args.number) s c.args.number) c.in-SetupEb.is)) c.set_up.ensures.is
