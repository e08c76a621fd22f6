use Rattle.std.proofs.Common.{◌++◌, ap, arith, length-append}
use Rattle.run_model.proofs.Lists.{entries-more, all_fit_more}
use Rattle.run_model.proofs.journal.Journal.keep.Goals as goal

pub invariant_of-self : goal.invariant_of-self
invariant_of-self c = rw c.keep.ensures.words (all_fit_more _ _ _ (omega (arith, length-append c.self.inside.words.words c.args.words.now)) c.self.invariant)

pub returns-clause-words : goal.returns-clause-words
returns-clause-words c = rw (c.keep.ensures.words, ← c.self.view_is) (ap (λ es. record { entries = es; room = c.self.inside.items.room; words = c.self.inside.words.words ++ c.args.words.now; words_room = c.self.inside.words.room }) (entries-more _ _ _ c.self.invariant))
