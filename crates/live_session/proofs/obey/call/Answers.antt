use Rattle.live_session.proofs.Beginning.{begun_where}
use Rattle.live_session.proofs.obey.call.Goals as goal

pub returns-clause-begins : goal.returns-clause-begins
returns-clause-begins g c = λ there. begun_where c.begin.result _ _ c.begin-begun.result _ _ _ _ _ _ _ _ _ c.begin-begun.ensures.cause c.begin-begun.ensures.goes c.begin-begun.ensures.beside c.begin.ensures.live c.begin.ensures.told c.begin.ensures.frames
