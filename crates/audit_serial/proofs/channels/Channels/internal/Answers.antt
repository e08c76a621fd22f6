use Rattle.audit_serial.proofs.Terms.{ap, arith, at, ChannelState, get_or_past, get_or_read, if◌then◌else◌, no_word_there, slice_index_or, sym, untouched, ℕ, ◌∙◌}
use Rattle.audit_serial.proofs.channels.Channels.internal.Goals as goal

pub returns-then-channel-len : goal.returns-then-channel-len
returns-then-channel-len c =
    let xs = c.self.inside.items.items in
    let n = c.args.number in
    let see : ChannelState → ℕ = λ x. slice_index_or (if c.args.received then x.received else x.written) c.args.place 0 in
    c.internal.ensures
    ∙ (ap see (get_or_read xs n c.index.result.now (omega (arith, c.self.inside.items.ok.0)) c.index.ensures untouched) ∙ ap (λ zs. see (at zs n)) c.self.view_is)

pub returns-else-channel-len : goal.returns-else-channel-len
returns-else-channel-len c =
    let xs = c.self.inside.items.items in
    let n = c.args.number in
    let see : ChannelState → ℕ = λ x. slice_index_or (if c.args.received then x.received else x.written) c.args.place 0 in
    no_word_there c.args.received c.args.place
    ∙ (sym (ap see (get_or_past xs n untouched (omega (arith, c.self.inside.items.ok.0)))) ∙ ap (λ zs. see (at zs n)) c.self.view_is)
