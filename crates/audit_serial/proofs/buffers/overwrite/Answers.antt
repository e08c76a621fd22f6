use Rattle.audit_serial.proofs.Terms.{ap, arith, drop, length, over_next, refl, slice_index_or, take, take_all, with_item, ◌++◌, ◌∙◌, ◌≡◌}
use Rattle.audit_serial.proofs.buffers.overwrite.Goals as goal

pub loop-place-init : goal.loop-place-init
loop-place-init c = refl

pub loop-place-preserved : goal.loop-place-preserved
loop-place-preserved c =
    let k = c.loop-place.place in
    let by = c.args.by.now in
    c.in_ok-set_item.ensures
    ∙ (ap (λ xs. with_item 0 xs k (slice_index_or by k 0)) c.loop-place.invariant ∙ over_next 0 k by c.args.words.now.items 0 (omega arith))

pub returns : goal.returns
returns c =
    let by = c.args.by.now in
    let all : c.loop-place.place ≡ length by = omega arith in
    c.loop-place.invariant ∙ (ap (λ n. take n by ++ drop n c.args.words.now.items) all ∙ ap (λ xs. xs ++ drop (length by) c.args.words.now.items) (take_all (length by) by (omega arith)))
