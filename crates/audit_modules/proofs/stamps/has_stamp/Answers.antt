use Rattle.audit_modules.proofs.Below.{same_words}
use Rattle.audit_modules.proofs.stamps.has_stamp.Goals as goal

pub returns : goal.returns
returns c s h = same_words c.word.result c.stamp.result _ _ c.word.ensures (c.stamp.ensures s h)
