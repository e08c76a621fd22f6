use Rattle.mcal_config.proofs.Trees.{bare_seen}
use Rattle.mcal_config.proofs.whole.is_bare.Goals as goal

pub returns : goal.returns
returns c = bare_seen c.is_empty.result c.args.table.now.entries c.is_empty.ensures.0 c.is_empty.ensures.1
