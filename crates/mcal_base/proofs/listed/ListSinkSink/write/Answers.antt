use Rattle.mcal_base.proofs.listed.ListSinkSink.write.Goals as goal

pub invariant_of-self : goal.invariant_of-self
invariant_of-self c = let i = c.self.invariant in (i.0, i.1, i.2, rw c.deref.ensures.value at (c.counts_as_failing.ensures.within c.self.inside.full) i.3, i.4)
