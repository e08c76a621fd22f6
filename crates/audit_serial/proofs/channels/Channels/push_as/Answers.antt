use Rattle.audit_serial.proofs.Terms.{ap, arith, at, channel_words, ChannelState, get_or_past, get_or_read, IfOk-weaker, JobWord, List, map, Some, sym, untouched, word_as, ◌++◌, ◌∙◌}
use Rattle.audit_serial.proofs.channels.Channels.push_as.Goals as goal

pub returns-then-place-len : goal.returns-then-place-len
returns-then-place-len c =
    let xs = c.self.inside.items.items in
    let n = c.args.number in
    let see : ChannelState → List JobWord = λ x. map word_as c.args.words.now.items ++ channel_words n (Some c.args.channel) x in
    IfOk-weaker c.push_to.result _ _ (λ _ e.
    e ∙ (ap see (get_or_read xs n c.index.result.now (omega (arith, c.self.inside.items.ok.0)) c.index.ensures untouched) ∙ ap (λ zs. see (at zs n)) c.self.view_is)) c.push_to.ensures

pub returns-else-place-len : goal.returns-else-place-len
returns-else-place-len c =
    let xs = c.self.inside.items.items in
    let n = c.args.number in
    let see : ChannelState → List JobWord = λ x. map word_as c.args.words.now.items ++ channel_words n (Some c.args.channel) x in
    IfOk-weaker c.push_to-else-place-len.result _ _ (λ _ e.
    e
    ∙ (ap see c.new-untouched.ensures
    ∙ (sym (ap see (get_or_past xs n untouched (omega (arith, c.self.inside.items.ok.0)))) ∙ ap (λ zs. see (at zs n)) c.self.view_is))) c.push_to-else-place-len.ensures
