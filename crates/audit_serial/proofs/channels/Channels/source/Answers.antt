use Rattle.audit_serial.proofs.Terms.{ap, arith, at, ChannelState, get_or_past, get_or_read, slice_index_or, sym, untouched, ◌∙◌}
use Rattle.audit_serial.proofs.channels.Channels.source.Goals as goal

pub returns-then-channel-len : goal.returns-then-channel-len
returns-then-channel-len c =
    let xs = c.self.inside.items.items in
    let n = c.args.number in
    c.source.ensures
    ∙ (ap (λ (x : ChannelState). slice_index_or x.source c.args.place 0) (get_or_read xs n c.index.result.now (omega (arith, c.self.inside.items.ok.0)) c.index.ensures untouched)
    ∙ ap (λ zs. slice_index_or (at zs n).source c.args.place 0) c.self.view_is)

pub returns-else-channel-len : goal.returns-else-channel-len
returns-else-channel-len c =
    let xs = c.self.inside.items.items in
    let n = c.args.number in
    sym (ap (λ (x : ChannelState). slice_index_or x.source c.args.place 0) (get_or_past xs n untouched (omega (arith, c.self.inside.items.ok.0))))
    ∙ ap (λ zs. slice_index_or (at zs n).source c.args.place 0) c.self.view_is
