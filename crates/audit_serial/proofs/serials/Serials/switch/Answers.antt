use Rattle.audit_serial.proofs.Terms.{ap, mode_as, outcome, state_of, sym, unless_busy, ◌∙◌}
use Rattle.audit_serial.proofs.serials.Serials.switch.Goals as goal

pub returns-then-is_busy-clause-is : goal.returns-then-is_busy-clause-is
returns-then-is_busy-clause-is c =
    let m = c.args.self.now in
    let s = state_of m in
    ap (λ t. outcome s t) c.answers.ensures ∙ sym (ap (λ b. unless_busy b s (record s { mode = mode_as c.args.mode })) (sym c.is_busy.ensures ∙ c.if-is_busy.true))

pub returns-else-is_busy-clause-is : goal.returns-else-is_busy-clause-is
returns-else-is_busy-clause-is c =
    let m = c.args.self.now in
    let s = state_of m in
    ap (λ t. outcome (record s { mode = mode_as c.args.mode }) t) c.answers-else-is_busy.ensures ∙ sym (ap (λ b. unless_busy b s (record s { mode = mode_as c.args.mode })) (sym c.is_busy.ensures ∙ c.if-is_busy.false))
