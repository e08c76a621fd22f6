use Rattle.std.proofs.Common.{inl, inr, refl}
use Rattle.sweep_top.proofs.top.status_of.Goals as goal

pub returns-then-has_neither-clause-told : goal.returns-then-has_neither-clause-told
returns-then-has_neither-clause-told c = inr refl

pub returns-else-has_neither-clause-told : goal.returns-else-has_neither-clause-told
returns-else-has_neither-clause-told c = inl refl
