use Rattle.std.proofs.Common.{◌≡◌, ◌∙◌, ap}
use Rattle.std.specs.Prelude.{min}
use Rattle.chip_model.specs.Chip.{power_on, hung}
use Rattle.step_runner.proofs.PowerOn.{first-power_on}
use Rattle.script_runner.specs.Scripts.{chip_for, script_bound, words_given}
use Rattle.script_runner.proofs.UnderWay.{begins}
use Rattle.script_runner.proofs.engine.Engine.new.Goals as goal

pub invariant_of-result : goal.invariant_of-result
invariant_of-result g c =
    let least : c.min-most.result ≡ min c.args.limit (script_bound (g.M.Module.spec c.args.driver).setting (g.M.Caller.call_of c.args.driver) c.args.script.now) = cc (c.min-most.ensures, c.from.ensures, c.sizes_of-asked.ensures.steps) in
    begins (g.M.Module.spec c.args.driver) (g.M.Caller.call_of c.args.driver) (g.M.Caller.has_service c.args.driver) c.args.config c.args.script.now c.args.devices c.args.limit c.min-most.result c.hang.new.self c.in_ok-stack.stack c.in_ok-journal.journal
    c.requires.fits c.requires.script c.requires.offered c.requires.limit least
    (c.hang.ensures ∙ ap (λ b. hung c.args.devices b) (c.in_ok-bus.ensures ∙ ap (λ n. power_on c.args.config n) c.sizes_of-asked.ensures.words))
    c.in_ok-stack.ensures.empty c.in_ok-journal.ensures
    (c.in_ok-stack.ensures.stands c.args.driver (chip_for c.args.devices c.args.config c.args.script.now) c.requires.fits (first-power_on c.args.config (words_given c.args.script.now) c.args.devices c.requires.config) c.requires.wired)
