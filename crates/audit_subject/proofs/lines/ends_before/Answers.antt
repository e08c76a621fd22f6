-- What is left of a mask behind a shift is its lines from there on.
use Rattle.mcal_base.proofs.BitLaws.{has_bit-above}
use Rattle.audit_subject.proofs.LineMasks.{below_shift}
use Rattle.audit_subject.proofs.lines.ends_before.Goals as goal

pub returns : goal.returns
returns c none l from = has_bit-above c.args.asked c.args.line l (below_shift c.args.asked c.args.line none) from
