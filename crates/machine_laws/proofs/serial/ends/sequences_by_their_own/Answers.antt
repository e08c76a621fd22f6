use Rattle.machine_laws.proofs.Sequels.{happens_comes}
use Rattle.machine_laws.proofs.serial.ends.sequences_by_their_own.Goals as goal

pub returns : goal.returns
returns _ d w s h out q p made kept plain there = happens_comes d s q p there plain w h out made kept
