use Rattle.audit_converters.proofs.Terms.{ap, finish_of, group_of, is_finished, nat_le, not, round_as, sym, ◌&&◌, ◌∙◌}
use Rattle.audit_converters.proofs.groups.Groups.is_abortable.Goals as goal

pub returns : goal.returns
returns c w s at h =
    let r = round_as c.args.round in
    let k = group_of c.args.table.now c.args.round.group in
    c.both.ensures
    ∙ (ap (λ b. not b && c.is_outranked-outranked.result) (c.is_finished-finished.ensures ∙ ap (nat_le (finish_of k r)) (sym at))
    ∙ ap (λ b. not (is_finished w k r) && b) (c.is_outranked-outranked.ensures s h))
