use Rattle.audit_serial.proofs.Terms.{ap, goes_as, IfOk-weaker, kept_in, sym, word_as, ◌∙◌}
use Rattle.audit_serial.proofs.channels.Channels.keep.Goals as goal

pub returns-in-ToChannel : goal.returns-in-ToChannel
returns-in-ToChannel c =
    IfOk-weaker c.keep_at.result _ _ (λ _ e. e ∙ sym (ap (λ g. kept_in c.args.self.now (word_as c.args.word) (goes_as g) c.args.value) c.in-ToChannel.is)) c.keep_at.ensures
