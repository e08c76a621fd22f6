use Rattle.audit_serial.proofs.Terms.{[], ap, arith, replicate, replicate_more, ◌++◌, ◌∙◌, ◌∷◌, ◌≡◌}
use Rattle.audit_serial.proofs.buffers.refill.Goals as goal

pub loop-place-init : goal.loop-place-init
loop-place-init c = c.clear.ensures.items

pub loop-place-preserved : goal.loop-place-preserved
loop-place-preserved c = c.in_ok-push.ensures.items ∙ (ap (λ xs. xs ++ c.args.value ∷ []) c.loop-place.invariant ∙ replicate_more c.loop-place._place c.args.value)

pub returns : goal.returns
returns c = let all : c.loop-place._place ≡ c.args.count = omega (arith, c.loop-place-test.false) in c.loop-place.invariant ∙ ap (λ n. replicate n c.args.value) all
