use Rattle.live_session.proofs.Beginning.{begun_where}
use Rattle.live_session.proofs.obey.enter.Goals as goal

pub returns : goal.returns
returns g c = begun_where c.begin.result _ _ c.enter-begun.result _ _ _ _ _ _ _ _ _ c.enter-begun.ensures.cause c.enter-begun.ensures.goes c.enter-begun.ensures.beside c.begin.ensures.live c.begin.ensures.told c.begin.ensures.frames
