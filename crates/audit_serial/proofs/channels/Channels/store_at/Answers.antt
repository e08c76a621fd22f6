use Rattle.audit_serial.proofs.Terms.{ap, at, ChannelState, get_or_read, IfOk-weaker, untouched, with_item, ◌∙◌}
use Rattle.audit_serial.proofs.channels.Channels.store_at.Goals as goal

pub returns : goal.returns
returns c =
    let n = c.args.word.channel in
    let xs = c.self.inside.items.items in
    let grown = c.in_ok-grow.ensures in
    let here = get_or_read c.grow.new.items.items n c.index_mut.result.now grown.there c.index_mut.ensures.value untouched ∙ grown.same in
    IfOk-weaker c.store.result _ _ (λ _ e. grown.sets c.store.new.self ∙ (ap (with_item untouched xs n) (e ∙ ap (λ (x : ChannelState). record x { destination = with_item 0 x.destination c.args.word.place c.args.value }) here) ∙ ap (λ zs. with_item untouched zs n ((λ (x : ChannelState). record x { destination = with_item 0 x.destination c.args.word.place c.args.value }) (at zs n))) c.self.view_is)) c.store.ensures
