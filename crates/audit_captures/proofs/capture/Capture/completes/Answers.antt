use Rattle.std.proofs.Common.{ap, sym, ◌∙◌, is_some}
use Rattle.audit_captures.specs.Stands.{edge_of, value_as, told_after}
use Rattle.audit_captures.proofs.ChannelLaws.{complete-step, some_map}
use Rattle.audit_captures.proofs.capture.Capture.completes.Goals as goal

pub returns : goal.returns
returns c es f =
    let k = c.args.channel in
    c.is_some.ensures ∙ (sym (some_map value_as c.told_after.result) ∙ (ap (λ o. is_some o) c.told_after.ensures ∙ (ap (λ s. is_some (told_after k.measured k (edge_of c.args.edge) s)) f.seen ∙ complete-step k.measured k es (edge_of c.args.edge))))
