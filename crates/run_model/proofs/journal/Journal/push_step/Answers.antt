use Rattle.std.proofs.Common.{append-nil}
use Rattle.run_model.proofs.Lists.{entries-append, length-entries, all_fit_append}
use Rattle.run_model.proofs.journal.Journal.push_step.Goals as goal

pub push_step-requires : goal.push_step-requires
push_step-requires c = rw length-entries at (rw (← c.self.view_is) at c.requires.room)

pub invariant_of-self : goal.invariant_of-self
invariant_of-self c = rw c.push_step.ensures (all_fit_append _ _ _ c.self.invariant (rw (← c.self.view_is) at c.requires.fits, tt))

pub returns : goal.returns
returns c = rw (c.push_step.ensures, ← c.self.view_is, entries-append, append-nil)
