use Rattle.audit_serial.proofs.Terms.{[], ap, arith, ChannelState, first_items, first_length, first_more, length, length_by, slice_index_or, ◌++◌, ◌∙◌, ◌∷◌, ◌≡◌}
use Rattle.audit_serial.proofs.buffers.Buffers.readable.Goals as goal

pub loop-place-init : goal.loop-place-init
loop-place-init c = c.new-words.ensures

pub push-requires : goal.push-requires
push-requires c =
    omega (arith, ap length c.loop-place.invariant, first_length 0 c.loop-place.place c.self.inside.received.items, c.loop-place-test.true, c.length_by-place-end.ensures, c.requires)

pub loop-place-preserved : goal.loop-place-preserved
loop-place-preserved c =
    let k = c.loop-place.place in
    let xs = c.self.inside.received.items in
    c.push.ensures
    ∙ (ap (λ ws. ws ++ c.item.result ∷ []) c.loop-place.invariant
    ∙ (ap (λ x. first_items 0 k xs ++ x ∷ []) (c.item.ensures ∙ ap (λ ws. slice_index_or ws k 0) c.deref.ensures.value) ∙ first_more 0 xs k))

pub returns : goal.returns
returns c =
    let xs = c.self.inside.received.items in
    let all : c.loop-place.place ≡ length_by c.args.channel = omega (arith, c.loop-place-test.false, c.length_by-place-end.ensures) in
    c.loop-place.invariant ∙ (ap (λ n. first_items 0 n xs) all ∙ ap (λ (x : ChannelState). first_items 0 (length_by c.args.channel) x.received) c.self.view_is)
