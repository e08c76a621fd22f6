use Rattle.module_machines.proofs.of_icu.StampLaws.{acts_same, moved_same}
use Rattle.module_machines.proofs.icu.laws.stamps_stay.Goals as goal

pub returns-clause-acts : goal.returns-clause-acts
returns-clause-acts c d s call channel place lt = acts_same d s call channel place lt

pub returns-clause-moves : goal.returns-clause-moves
returns-clause-moves c d w s order channel place lt = moved_same d w s order channel place lt
