use Rattle.audit_converters.proofs.Terms.{ap, nat_le, ◌*◌, ◌+◌, ◌∙◌}
use Rattle.audit_converters.proofs.rounds.is_finished.Goals as goal

pub returns : goal.returns
returns c = c.has_passed.ensures ∙ ap (λ n. nat_le (c.args.round.start + 4 * n) c.args.now) c.left-rest.ensures.is
