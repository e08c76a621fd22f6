use Rattle.audit_serial.proofs.Terms.{[], ap, arith, first_items, first_more, ◌++◌, ◌∙◌, ◌∷◌, ◌≡◌}
use Rattle.audit_serial.proofs.buffers.first_words.Goals as goal

pub loop-place-init : goal.loop-place-init
loop-place-init c = c.new-words.ensures.items

pub loop-place-preserved : goal.loop-place-preserved
loop-place-preserved c =
    let k = c.loop-place.place in
    c.in_ok-push.ensures.items
    ∙ (ap (λ xs. xs ++ c.item.result ∷ []) c.loop-place.invariant
    ∙ (ap (λ x. first_items 0 k c.args.from.now ++ x ∷ []) c.item.ensures ∙ first_more 0 c.args.from.now k))

pub returns : goal.returns
returns c = let all : c.loop-place.place ≡ c.args.count = omega (arith, c.loop-place-test.false) in c.loop-place.invariant ∙ ap (λ n. first_items 0 n c.args.from.now) all
