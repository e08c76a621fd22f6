-- What clears an object is what clears the place that it is cut to.
use Rattle.std.proofs.Common.{ap, ◌∙◌}
use Rattle.adc_groups.specs.laws.services.InitSteps.{clear_at}
use Rattle.adc_groups.proofs.service.module.SetupObjects.at.Goals as goal

pub returns : goal.returns
returns c = c.clear_at.ensures ∙ ap (λ n. clear_at c.args.self.now.table n) c.few.ensures
