use Rattle.audit_modules.proofs.Below.{same_words}
use Rattle.audit_modules.proofs.arrays.has_source.Goals as goal

pub returns : goal.returns
returns c = same_words c.word.result c.source.result _ _ c.word.ensures c.source.ensures
