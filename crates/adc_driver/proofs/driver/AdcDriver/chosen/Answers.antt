use Rattle.std.proofs.Common.{◌∙◌}
use Rattle.adc_driver.specs.laws.words.WordsToState.{told_chosen}
use Rattle.adc_driver.proofs.driver.AdcDriver.chosen.Goals as goal

pub returns : goal.returns
returns c w s fits h = c.chosen_told.ensures ∙ told_chosen c.args.self.now.table fits c.args.bus.now w s h c.args.group
