use Rattle.std.proofs.Common.{refl}
use Rattle.sweep_laws.proofs.Ordered.{among_begun, among_behind, among_stepped, in_order}
use Rattle.sweep_laws.proofs.laws.places_are_all.Goals as goal

pub returns-clause-first : goal.returns-clause-first
returns-clause-first c = λ block steps. refl

pub returns-clause-behind : goal.returns-clause-behind
returns-clause-behind c = among_behind

pub returns-clause-begun : goal.returns-clause-begun
returns-clause-begun c = among_begun

pub returns-clause-stepped : goal.returns-clause-stepped
returns-clause-stepped c = among_stepped

pub returns-clause-order : goal.returns-clause-order
returns-clause-order c = in_order
