-- There are eight frames where so many are counted.
use Rattle.audit_frames.proofs.StackLaws.{full}
use Rattle.audit_frames.proofs.frames.Frames.is_full.Goals as goal

pub returns : goal.returns
returns c = full c.args.self.now c.depth.result c.depth.ensures
