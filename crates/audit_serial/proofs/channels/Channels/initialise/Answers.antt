use Rattle.audit_serial.proofs.Terms.{ap, arith, changed_from, changed_left, changed_length, changed_next, changed_to, channel_of, ChannelState, enumerate_from, first_items, get_or_read, initialised, length, map, slice_index_or, slice_set, take_first, untouched, ℕ, ◌<◌, ◌∙◌, ◌≡◌}
use Rattle.audit_serial.proofs.channels.Channels.initialise.Goals as goal

pub loop-number-preserved : goal.loop-number-preserved
loop-number-preserved c =
    let k = c.loop-number.number in
    let zs = c.truncate.new.self.items in
    let size : length zs ≡ 16 = omega (arith, c.in_ok-grow.ensures.there, c.truncate.ensures.len, c.truncate.new.self.ok.0, c.grow.new.items.ok.0) in
    let f : ℕ → ChannelState → ChannelState = λ i. initialised (channel_of c.args.table.now i) in
    let ys = c.loop-number.self-inside.items.items in
    let small : k < length zs = omega (arith, size, c.loop-number-test.true) in
    let there : k < length ys = omega (arith, small, ap length c.loop-number.invariant, changed_length f k zs) in
    let here = get_or_read ys k c.index_mut.result.now there c.index_mut.ensures.value untouched ∙ (ap (λ ws. slice_index_or ws k untouched) c.loop-number.invariant ∙ changed_left f k zs untouched) in
    ap (slice_set ys k) (c.in_ok-initialise.ensures ∙ (ap (λ o. initialised o c.index_mut.result.now) c.channel.ensures ∙ ap (f k) here))
    ∙ (ap (λ ws. slice_set ws k (f k (slice_index_or zs k untouched))) c.loop-number.invariant ∙ changed_next f k zs untouched small)

pub returns : goal.returns
returns c =
    let k = c.loop-number.number in
    let zs = c.truncate.new.self.items in
    let size : length zs ≡ 16 = omega (arith, c.in_ok-grow.ensures.there, c.truncate.ensures.len, c.truncate.new.self.ok.0, c.grow.new.items.ok.0) in
    let f : ℕ → ChannelState → ChannelState = λ i. initialised (channel_of c.args.table.now i) in
    let all : k ≡ 16 = omega (arith, c.loop-number-test.false) in
    let grown = c.in_ok-grow.ensures in
    let firsts = c.truncate.ensures.items ∙ (take_first untouched 16 c.grow.new.items.items (omega (arith, grown.there)) ∙ (grown.firsts 16 ∙ ap (first_items untouched 16) c.self.view_is)) in
    c.loop-number.invariant
    ∙ (ap (λ n. changed_to f n zs) all
    ∙ (changed_from f 16 zs (omega (arith, size)) ∙ ap (λ ws. map (λ p. f p.0 p.1) (enumerate_from 0 ws)) firsts))
