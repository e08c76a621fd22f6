use Rattle.audit_converters.proofs.Terms.{ap, ends_with_stream, group_as, group_at, group_of, GroupKept, status_as, status_read, ◌∙◌}
use Rattle.audit_converters.proofs.groups.Groups.read_from.Goals as goal

pub returns-clause-is : goal.returns-clause-is
returns-clause-is c s h =
    let x = group_at s c.args.group in
    let ends = ends_with_stream (group_of c.args.table.now c.args.group) in
    c.set.ensures.is s (record x { status = status_read ends x.status }) h
    (ap (λ st. record (group_as c.at-found.result) { status = st }) (c.read-status.ensures ∙ ap (λ b. status_read b (status_as c.at-found.result.status)) c.ends_with_stream.ensures)
    ∙ ap (λ (y : GroupKept). record y { status = status_read ends y.status }) (c.at-found.ensures.is s h))
