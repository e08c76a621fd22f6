use Rattle.std.proofs.Common.{◌∙◌}
use Rattle.spi_driver.specs.laws.bookkeeping.Joined.{joined_uses}
use Rattle.spi_driver.proofs.frames.SpiDriverModule.source_use.Goals as goal

pub returns-then-has_channel-clause-used : goal.returns-then-has_channel-clause-used
returns-then-has_channel-clause-used c w ps s fits out h = c.uses.ensures ∙ joined_uses c.args.self.now.table fits c.args.bus.now w ps s out h c.args.channel
