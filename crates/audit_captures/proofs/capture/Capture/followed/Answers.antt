use Rattle.std.proofs.Common.{ap, ◌∙◌}
use Rattle.std.specs.Prelude.{option_map}
use Rattle.std.specs.Option.{option_or}
use Rattle.audit_captures.specs.Stands.{edge_of, value_as}
use Rattle.audit_captures.proofs.ChannelLaws.{follow-more}
use Rattle.audit_captures.proofs.capture.Capture.followed.Goals as goal

pub returns-clause-follows : goal.returns-clause-follows
returns-clause-follows c es f =
    follow-more c.args.channel c.args.self.served c.args.self.seen c.seen_after.result c.args.self.value c.newer.result es (edge_of c.args.edge) f c.seen_after.ensures
    (c.newer.ensures ∙ ap (λ o. option_or o (option_map value_as c.args.self.value)) c.told_after-told.ensures)
