use Rattle.audit_serial.proofs.Terms.{ap, at, ChannelState, get_or_read, set_up_as, Some, untouched, with_item, ◌∙◌}
use Rattle.audit_serial.proofs.channels.Channels.set_up.Goals as goal

pub returns : goal.returns
returns c =
    let n = c.args.number in
    let xs = c.self.inside.items.items in
    let grown = c.in_ok-grow.ensures in
    let here = get_or_read c.grow.new.items.items n c.index_mut.result.now grown.there c.index_mut.ensures.value untouched ∙ grown.same in
    grown.sets c.set_up.new.self ∙ (ap (with_item untouched xs n) (c.set_up.ensures ∙ ap (λ (x : ChannelState). record x { set_up = Some (set_up_as c.args.set_up) }) here) ∙ ap (λ zs. with_item untouched zs n ((λ (x : ChannelState). record x { set_up = Some (set_up_as c.args.set_up) }) (at zs n))) c.self.view_is)
