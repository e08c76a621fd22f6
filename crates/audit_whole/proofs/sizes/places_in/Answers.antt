use Rattle.std.proofs.Common.{false, true}
use Rattle.audit_whole.proofs.SizeLaws.{places_as}
use Rattle.audit_whole.proofs.sizes.places_in.Goals as goal

pub returns-then-is_configured : goal.returns-then-is_configured
returns-then-is_configured c = places_as c.args.channels.now c.args.number c.is_configured.result true c.is_configured.ensures c.if-is_configured.true

pub returns : goal.returns
returns c = places_as c.args.channels.now c.args.number c.is_configured.result false c.is_configured.ensures c.if-is_configured.false
