use Rattle.audit_serial.proofs.Terms.{ap, arith, at, ChannelState, first_items, get_or_past, get_or_read, length_by, List, sym, untouched, ℕ, ◌∙◌}
use Rattle.audit_serial.proofs.channels.Channels.readable.Goals as goal

pub returns-then-place-len : goal.returns-then-place-len
returns-then-place-len c =
    let xs = c.self.inside.items.items in
    let n = c.args.number in
    let see : ChannelState → List ℕ = λ x. first_items 0 (length_by c.args.channel) x.received in
    c.readable.ensures
    ∙ (ap see (get_or_read xs n c.index.result.now (omega (arith, c.self.inside.items.ok.0)) c.index.ensures untouched) ∙ ap (λ zs. see (at zs n)) c.self.view_is)

pub returns-else-place-len : goal.returns-else-place-len
returns-else-place-len c =
    let xs = c.self.inside.items.items in
    let n = c.args.number in
    let see : ChannelState → List ℕ = λ x. first_items 0 (length_by c.args.channel) x.received in
    c.readable-else-place-len.ensures
    ∙ (ap see c.new-untouched.ensures
    ∙ (sym (ap see (get_or_past xs n untouched (omega (arith, c.self.inside.items.ok.0)))) ∙ ap (λ zs. see (at zs n)) c.self.view_is))
