use Rattle.mcal_base.proofs.Owners.{own_range, users_range, listed, apart}
use Rattle.mcal_base.proofs.layout.whose_words.Goals as goal

pub returns-clause-own : goal.returns-clause-own
returns-clause-own c = own_range

pub returns-clause-users : goal.returns-clause-users
returns-clause-users c = users_range

pub returns-clause-places : goal.returns-clause-places
returns-clause-places c = listed

pub returns-clause-apart : goal.returns-clause-apart
returns-clause-apart c = apart
