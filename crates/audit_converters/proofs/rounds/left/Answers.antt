use Rattle.audit_converters.proofs.Terms.{ap, inputs_left, length, length-drop, round_as, subst, sym, ◌-◌, ◌∙◌, ◌≡◌}
use Rattle.audit_converters.proofs.rounds.left.Goals as goal

pub returns-in-Some-clause-is : goal.returns-in-Some-clause-is
returns-in-Some-clause-is c =
    let r = round_as c.args.round in
    let k = c.in-Some.found.now in
    subst (λ o. c.saturating_sub.result ≡ length (inputs_left o r)) c.in-Some.ensures
    (c.saturating_sub.ensures
    ∙ (ap (λ n. n - c.len-kept.result) c.len-inputs.ensures.count
    ∙ (ap (λ n. length k.inputs - n) c.len-kept.ensures.is
    ∙ sym (length-drop (length r.request.kept) k.inputs))))
