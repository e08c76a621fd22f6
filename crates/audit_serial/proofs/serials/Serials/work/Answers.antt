use Rattle.audit_serial.proofs.Terms.{answers, ap, IfOk-weaker, initial, is_busy, named, outcome, SpiState, state_of, sym, unless_busy, work, ◌∙◌}
use Rattle.audit_serial.proofs.serials.Serials.work.Goals as goal

pub returns-in_ok-initialise-in-Init-clause-is : goal.returns-in_ok-initialise-in-Init-clause-is
returns-in_ok-initialise-in-Init-clause-is c =
    let m = c.args.self.now in
    let d = m.configured.table in
    let s = state_of m in
    ap (λ (t : SpiState). outcome t c.nothing.result) c.in_ok-initialise-in-Init.ensures.state
    ∙ (ap (λ t. outcome (initial d s) t) c.nothing.ensures ∙ sym (ap (work d s) c.in-Init.is))

pub returns-in-DeInit-clause-is : goal.returns-in-DeInit-clause-is
returns-in-DeInit-clause-is c =
    let m = c.args.self.now in
    let d = m.configured.table in
    let s = state_of m in
    c.switch.ensures.is ∙ sym (ap (work d s) c.in-DeInit.is)

pub returns-in-SetAsyncMode-clause-is : goal.returns-in-SetAsyncMode-clause-is
returns-in-SetAsyncMode-clause-is c =
    let m = c.args.self.now in
    let d = m.configured.table in
    let s = state_of m in
    c.switch-in-SetAsyncMode.ensures.is
    ∙ (ap (λ x. unless_busy (is_busy s) s (record s { mode = x })) c.of.ensures ∙ sym (ap (work d s) c.in-SetAsyncMode.is))

pub returns-in-MainFunctionHandling-clause-is : goal.returns-in-MainFunctionHandling-clause-is
returns-in-MainFunctionHandling-clause-is c =
    let m = c.args.self.now in
    let d = m.configured.table in
    let s = state_of m in
    ap (λ t. outcome s t) c.nothing-in-MainFunctionHandling.ensures ∙ sym (ap (work d s) c.in-MainFunctionHandling.is)

pub returns-in-Channel-clause-is : goal.returns-in-Channel-clause-is
returns-in-Channel-clause-is c =
    let m = c.args.self.now in
    let d = m.configured.table in
    let s = state_of m in
    IfOk-weaker c.work_on_channel.result _ _ (λ told e. e ∙ sym (ap (work d s) c.in-Channel.is)) c.work_on_channel.ensures.is

pub returns-in-Sequence-clause-is : goal.returns-in-Sequence-clause-is
returns-in-Sequence-clause-is c =
    let m = c.args.self.now in
    let d = m.configured.table in
    let s = state_of m in
    IfOk-weaker c.work_on_sequence.result _ _ (λ told e. e ∙ sym (ap (work d s) c.in-Sequence.is)) c.work_on_sequence.ensures.is

pub returns-in-Get-clause-is : goal.returns-in-Get-clause-is
returns-in-Get-clause-is c =
    let m = c.args.self.now in
    let d = m.configured.table in
    let s = state_of m in
    ap (λ t. outcome s t) (c.answers.ensures ∙ ap (λ n. answers (named n)) c.query.ensures) ∙ sym (ap (work d s) c.in-Get.is)
