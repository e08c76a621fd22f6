use Rattle.std.proofs.Common.{◌∙◌}
use Rattle.spi_driver.specs.laws.words.WordsToState.{told_internal}
use Rattle.spi_driver.proofs.driver.SpiDriver.internal.Goals as goal

pub returns : goal.returns
returns c w s k fits known internal lt h = c.word_told.ensures ∙ told_internal c.args.self.now.table fits c.args.bus.now w s h c.args.channel k known internal c.args.received c.args.index lt
