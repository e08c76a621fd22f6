use Rattle.audit_converters.proofs.Terms.{ap, finish_of, group_of, is_done, nat_le, option_map, round_as, sym, ◌∙◌}
use Rattle.audit_converters.proofs.groups.Groups.is_done.Goals as goal

pub returns-in-Some : goal.returns-in-Some
returns-in-Some c w s at h =
    let d = c.args.table.now in
    let r = c.in-Some.round in
    c.is_finished.ensures
    ∙ (ap (nat_le (finish_of (group_of d r.group) (round_as r))) (sym at)
    ∙ ap (is_done d w) (ap (λ o. option_map round_as o) (sym c.in-Some.is) ∙ c.round.ensures s h))

pub returns-in-None : goal.returns-in-None
returns-in-None c w s at h = ap (is_done c.args.table.now w) (ap (λ o. option_map round_as o) (sym c.in-None.is) ∙ c.round.ensures s h)
