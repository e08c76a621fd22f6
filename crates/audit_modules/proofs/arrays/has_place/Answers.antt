use Rattle.audit_frames.proofs.Deciding.{no, worded}
use Rattle.audit_modules.proofs.Below.{fails}
use Rattle.audit_modules.proofs.arrays.has_place.Goals as goal

pub returns-then-not-has_source : goal.returns-then-not-has_source
returns-then-not-has_source c = no (λ x. fails c.has_source.result c.has_source.ensures c.if-not-has_source.true x.0)

pub returns : goal.returns
returns c = worded (λ y. (c.has_source.ensures.says c.if-not-has_source.false, y)) (λ x. x.1) c.has_destination.ensures
