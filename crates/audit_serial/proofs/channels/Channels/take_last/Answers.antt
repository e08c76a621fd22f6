use Rattle.audit_serial.proofs.Terms.{ap, IfOk-weaker, JobWord, kept_all, map, Run, stored_in, word_as, word_of, ◌∙◌}
use Rattle.audit_serial.proofs.channels.Channels.take_last.Goals as goal

pub returns : goal.returns
returns c =
    let xs = c.args.self.now in
    let run = c.args.run in
    let x = word_of run in
    let taken = c.in_ok-take_in.ensures in
    let words = c.words.ensures ∙ ap (λ (r : Run). r.words) taken in
    let values = c.received.ensures ∙ ap (λ (r : Run). r.received) taken in
    let first = c.in_ok-store.ensures ∙ (ap (λ (y : JobWord). stored_in xs y y.goes c.incoming.result) c.word.ensures ∙ ap (λ v. stored_in xs x x.goes v) c.incoming.ensures) in
    IfOk-weaker c.keep_all.result _ _ (λ _ e.
    e
    ∙ (ap (λ zs. kept_all zs (map word_as c.words.result.now) c.received.result.now) first
    ∙ (ap (λ ws. kept_all (stored_in xs x x.goes run.transfer.incoming) ws c.received.result.now) words
    ∙ ap (λ vs. kept_all (stored_in xs x x.goes run.transfer.incoming) run.words vs) values))) c.keep_all.ensures
