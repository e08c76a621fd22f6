use Rattle.std.proofs.Common.{◌∙◌, ap, sym}
use Rattle.chip_model.specs.Chip.{is_masked}
use Rattle.step_runner.specs.Kept.{fill_by}
use Rattle.step_runner.proofs.Fills.{fill-cause, fill-fits}
use Rattle.step_runner.proofs.run.fill_held.Goals as goal

pub returns-clause-cause : goal.returns-clause-cause
returns-clause-cause g c first h words fits st =
    c.fill_cause.ensures
    ∙ (ap (λ m. fill_by c.source_use-used.result m c.is_read.result) c.masked.ensures
    ∙ (ap (λ r. fill_by c.source_use-used.result (is_masked c.args.bus.now) r) c.is_read.ensures
    ∙ fill-cause (g.M.Module.spec c.args.driver.now) first h c.args.channel words c.args.bus.now c.args.stack.now.frames c.source_use-used.result c.source_use-used.ensures.there (λ w ps s out r. c.source_use-used.ensures.used w ps s fits out r) st))

pub returns-clause-free : goal.returns-clause-free
returns-clause-free g c first h words fits st none = fill-fits (g.M.Module.spec c.args.driver.now) first h c.args.channel words c.args.bus.now c.args.stack.now.frames c.source_use-used.result c.source_use-used.ensures.few st
    (sym (ap (λ r. fill_by c.source_use-used.result (is_masked c.args.bus.now) r) c.is_read.ensures)
    ∙ (sym (ap (λ m. fill_by c.source_use-used.result m c.is_read.result) c.masked.ensures)
    ∙ (sym c.fill_cause.ensures ∙ none)))
