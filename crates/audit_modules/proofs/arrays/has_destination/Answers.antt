use Rattle.audit_modules.proofs.Below.{same_words}
use Rattle.audit_modules.proofs.arrays.has_destination.Goals as goal

pub returns : goal.returns
returns c = same_words c.word.result c.destination.result _ _ c.word.ensures c.destination.ensures
