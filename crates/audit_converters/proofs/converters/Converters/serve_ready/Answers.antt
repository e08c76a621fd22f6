use Rattle.audit_converters.proofs.Terms.{ComesIf, cond, None, outcome, ready_done, round_at, served_if, served_round, served_trigger, Some, StandsFor, subst, sym, tells_nothing, ◌-◌, ◌∙◌}
use Rattle.audit_converters.proofs.converters.Converters.serve_ready.Goals as goal

pub returns-then-is_unit_line-clause-is : goal.returns-then-is_unit_line-clause-is
returns-then-is_unit_line-clause-is c w s at took h ready =
    let d = c.args.self.now.table in
    let l = c.args.line in
    let N = c.serve_unit.new.self in
    let line = sym c.is_unit_line.ensures ∙ c.if-is_unit_line.true in
    let round = served_round d w s (l - 24) (round_at s (l - 24)) in
    subst (λ b. ComesIf (StandsFor N) c.serve_unit.result (Some (cond b round (outcome (served_trigger d s (l - 28)) tells_nothing)))) (sym line)
    (subst (λ b. ComesIf (StandsFor N) c.serve_unit.result (cond b (Some round) None)) (ready_done d w s l line ready)
    (subst (λ u. ComesIf (StandsFor N) c.serve_unit.result (served_if d w s u)) c.saturating_sub.ensures (c.serve_unit.ensures.is w s at took h)))

pub returns-else-is_unit_line-clause-is : goal.returns-else-is_unit_line-clause-is
returns-else-is_unit_line-clause-is c w s at took h ready =
    let d = c.args.self.now.table in
    let l = c.args.line in
    let N = c.serve_trigger.new.self in
    let line = sym c.is_unit_line.ensures ∙ c.if-is_unit_line.false in
    let round = served_round d w s (l - 24) (round_at s (l - 24)) in
    subst (λ b. ComesIf (StandsFor N) (Some c.serve_trigger.result) (Some (cond b round (outcome (served_trigger d s (l - 28)) tells_nothing)))) (sym line)
    (subst (λ i. ComesIf (StandsFor N) (Some c.serve_trigger.result) (Some (outcome (served_trigger d s i) tells_nothing))) c.saturating_sub-else-is_unit_line.ensures (c.serve_trigger.ensures.is s h))
