use Rattle.audit_serial.proofs.Terms.{ap, at, ChannelState, filled, get_or_read, IfOk-weaker, untouched, with_item, ◌∙◌}
use Rattle.audit_serial.proofs.channels.Channels.fill.Goals as goal

pub returns : goal.returns
returns c =
    let n = c.args.number in
    let xs = c.self.inside.items.items in
    let grown = c.in_ok-grow.ensures in
    let here = get_or_read c.grow.new.items.items n c.index_mut.result.now grown.there c.index_mut.ensures.value untouched ∙ grown.same in
    IfOk-weaker c.fill.result _ _ (λ _ e. grown.sets c.fill.new.self ∙ (ap (with_item untouched xs n) (e ∙ ap (λ (x : ChannelState). filled c.args.words.now c.args.channel x) here) ∙ ap (λ zs. with_item untouched zs n ((λ (x : ChannelState). filled c.args.words.now c.args.channel x) (at zs n))) c.self.view_is)) c.fill.ensures
