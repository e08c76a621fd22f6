use Rattle.audit_modules.proofs.Below.{same_words}
use Rattle.audit_modules.proofs.ram.has_word.Goals as goal

pub returns : goal.returns
returns c s h = same_words c.ram.result c.ram-2.result _ _ c.ram.ensures (c.ram-2.ensures s h)
