use Rattle.audit_converters.proofs.Terms.{ap, arith, length, length-take, listed, sym, take, take_all, take_more, [], ◌++◌, ◌∙◌, ◌∷◌}
use Rattle.audit_converters.proofs.values.Values.words.Goals as goal

pub push-requires : goal.push-requires
push-requires c = omega (arith, ap length c.loop-place.invariant, length-take c.loop-place.place (listed c.args.self), c.loop-place-test.true, c.len-place-end.ensures.within)

pub loop-place-preserved : goal.loop-place-preserved
loop-place-preserved c =
    let n = c.loop-place.place in
    let vs = listed c.args.self in
    c.push.ensures
    ∙ (ap (λ xs. xs ++ c.at.result ∷ []) c.loop-place.invariant
    ∙ (ap (λ v. take n vs ++ v ∷ []) c.at.ensures ∙ sym (take_more vs n 0 (omega (arith, c.loop-place-test.true, c.len-place-end.ensures.is)))))

pub returns : goal.returns
returns c = c.loop-place.invariant ∙ take_all c.loop-place.place (listed c.args.self) (omega (arith, c.loop-place-test.false, c.len-place-end.ensures.is))
