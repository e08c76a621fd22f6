use Rattle.audit_serial.proofs.Terms.{ap, goes_as, IfOk-weaker, stored_in, sym, word_as, ◌∙◌}
use Rattle.audit_serial.proofs.channels.Channels.store.Goals as goal

pub returns-in-ToDestination : goal.returns-in-ToDestination
returns-in-ToDestination c =
    IfOk-weaker c.store_at.result _ _ (λ _ e. e ∙ sym (ap (λ g. stored_in c.args.self.now (word_as c.args.word) (goes_as g) c.args.value) c.in-ToDestination.is)) c.store_at.ensures
