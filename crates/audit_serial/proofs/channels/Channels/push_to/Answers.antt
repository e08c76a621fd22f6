use Rattle.audit_serial.proofs.Terms.{ap, append-nil, at, channel_words, IfOk-weaker, map, sym, word_as, ◌++◌, ◌∙◌}
use Rattle.audit_serial.proofs.channels.Channels.push_to.Goals as goal

pub returns-in-Some : goal.returns-in-Some
returns-in-Some c =
    IfOk-weaker c.push_as.result _ _ (λ _ e. e ∙ sym (ap (λ k. map word_as c.args.words.now.items ++ channel_words c.args.number k (at c.args.self.now c.args.number)) c.in-Some.is)) c.push_as.ensures

pub returns-in-None : goal.returns-in-None
returns-in-None c =
    sym (ap (λ k. map word_as c.args.words.now.items ++ channel_words c.args.number k (at c.args.self.now c.args.number)) c.in-None.is ∙ append-nil (map word_as c.args.words.now.items))
