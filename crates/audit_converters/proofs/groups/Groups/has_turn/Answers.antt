use Rattle.audit_converters.proofs.Terms.{ap, group_at, GroupKept, is_round_of, is_some, round_at, ◌||◌, ◌∙◌}
use Rattle.audit_converters.proofs.groups.Groups.has_turn.Goals as goal

pub returns : goal.returns
returns c s h =
    let g = c.args.group in
    c.either.ensures
    ∙ (ap (λ b. b || c.is_round_of-second.result) c.either-earlier.ensures
    ∙ (ap (λ b. b || c.is_round_of-first.result || c.is_round_of-second.result) (c.waits-waits.ensures ∙ ap (λ (x : GroupKept). is_some x.waiting) (c.at.ensures.is s h))
    ∙ (ap (λ b. is_some (group_at s g).waiting || b || c.is_round_of-second.result) (c.is_round_of-first.ensures ∙ ap (is_round_of g) (c.round.ensures s h))
    ∙ ap (λ b. is_some (group_at s g).waiting || is_round_of g (round_at s 0) || b) (c.is_round_of-second.ensures ∙ ap (is_round_of g) (c.round-2.ensures s h)))))
