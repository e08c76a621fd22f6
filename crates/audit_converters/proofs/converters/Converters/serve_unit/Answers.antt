use Rattle.audit_converters.proofs.Terms.{ap, ComesIf, cond, ConvertersKept, finish_of, group_of, is_done, nat_le, None, option_map, round_as, served_round, Some, StandsFor, subst, sym, ◌∙◌}
use Rattle.audit_converters.proofs.converters.Converters.serve_unit.Goals as goal

pub serve_round-requires-clause-finished : goal.serve_round-requires-clause-finished
serve_round-requires-clause-finished c =
    let r = c.in-Some.round in
    sym (sym c.if-is_finished.true ∙ (c.is_finished.ensures ∙ ap (λ (k : ConvertersKept). nat_le (finish_of (group_of k.table r.group) (round_as r)) c.args.now) c.self.view_is))

pub returns-then-is_finished-clause-is : goal.returns-then-is_finished-clause-is
returns-then-is_finished-clause-is c w s at took h =
    let v = subst (λ (k : ConvertersKept). StandsFor k s) (sym c.self.view_is) h in
    let d = c.args.self.now.table in
    let r = c.in-Some.round in
    let N = c.serve_round.new.self in
    let known = ap (λ o. option_map round_as o) (sym c.in-Some.is) ∙ c.round.ensures s v.groups in
    let done = sym c.if-is_finished.true ∙ (c.is_finished.ensures ∙ (ap (λ (k : ConvertersKept). nat_le (finish_of (group_of k.table r.group) (round_as r)) c.args.now) c.self.view_is ∙ ap (nat_le (finish_of (group_of d r.group) (round_as r))) (sym at))) in
    subst (λ o. ComesIf (StandsFor N) (Some c.serve_round.result) (cond (is_done d w o) (Some (served_round d w s c.args.unit o)) None)) known
    (subst (λ b. ComesIf (StandsFor N) (Some c.serve_round.result) (cond b (Some (served_round d w s c.args.unit (Some (round_as r)))) None)) done (c.serve_round.ensures.is w s took h))

pub returns-else-is_finished-clause-is : goal.returns-else-is_finished-clause-is
returns-else-is_finished-clause-is c w s at took h =
    let v = subst (λ (k : ConvertersKept). StandsFor k s) (sym c.self.view_is) h in
    let d = c.args.self.now.table in
    let r = c.in-Some.round in
    let known = ap (λ o. option_map round_as o) (sym c.in-Some.is) ∙ c.round.ensures s v.groups in
    let done = sym c.if-is_finished.false ∙ (c.is_finished.ensures ∙ (ap (λ (k : ConvertersKept). nat_le (finish_of (group_of k.table r.group) (round_as r)) c.args.now) c.self.view_is ∙ ap (nat_le (finish_of (group_of d r.group) (round_as r))) (sym at))) in
    subst (λ o. ComesIf (StandsFor c.args.self.now) None (cond (is_done d w o) (Some (served_round d w s c.args.unit o)) None)) known
    (subst (λ b. ComesIf (StandsFor c.args.self.now) None (cond b (Some (served_round d w s c.args.unit (Some (round_as r)))) None)) done tt)

pub returns-in-None-clause-is : goal.returns-in-None-clause-is
returns-in-None-clause-is c w s at took h =
    let v = subst (λ (k : ConvertersKept). StandsFor k s) (sym c.self.view_is) h in
    let d = c.args.self.now.table in
    let known = ap (λ o. option_map round_as o) (sym c.in-None.is) ∙ c.round.ensures s v.groups in
    subst (λ o. ComesIf (StandsFor c.args.self.now) None (cond (is_done d w o) (Some (served_round d w s c.args.unit o)) None)) known tt
