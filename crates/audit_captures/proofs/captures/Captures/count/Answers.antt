use Rattle.audit_captures.proofs.ChannelLaws.{within-more}
use Rattle.audit_captures.proofs.captures.Captures.count.Goals as goal

pub invariant_of-self : goal.invariant_of-self
invariant_of-self c = let i = c.self.invariant in (i.0, i.1, within-more c.self.inside.servings c.self.inside.channels i.2)
