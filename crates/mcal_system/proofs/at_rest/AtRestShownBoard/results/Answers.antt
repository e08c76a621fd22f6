use Rattle.std.proofs.Common.{◌≡◌, ℕ, ◌≤◌, Option, ◌∙◌, sym, ap, subst}
use Rattle.std.specs.Option.{IfSome, option_map}
use Rattle.mcal_base.specs.Layout.{length_of}
use Rattle.mcal_base.specs.declared.layout.Array.TheVariants.{Round}
use Rattle.adc_machine.specs.Words.{buffer_number}
use Rattle.mcal_drivers.specs.Setting.{SystemState}
use Rattle.mcal_drivers.specs.Shows.{results_at}
use Rattle.run_model.specs.World.{World}
use Rattle.mcal_system.proofs.Resting.{results_there, results_fit}
use Rattle.mcal_system.proofs.at_rest.AtRestShownBoard.results.Goals as goal

pub returns-clause-is : goal.returns-clause-is
returns-clause-is c w s h =
    subst (λ (p : World × SystemState). c.shown.result ≡ results_at c.args.self.now.config p.1 c.args.group) (sym h)
    (c.shown.ensures
    ∙ ap (λ (n : ℕ). option_map (λ b. (buffer_number b, n)) c.chosen.result) c.places.ensures
    ∙ results_there c.self.invariant.0 c.self.view_is c.self.inside.converters.now c.self.invariant.1.converters_are c.args.group c.chosen.result c.chosen.ensures)

pub returns-clause-few : goal.returns-clause-few
returns-clause-few c =
    let told =
    c.shown.ensures
    ∙ ap (λ (n : ℕ). option_map (λ b. (buffer_number b, n)) c.chosen.result) c.places.ensures
    ∙ results_there c.self.invariant.0 c.self.view_is c.self.inside.converters.now c.self.invariant.1.converters_are c.args.group c.chosen.result c.chosen.ensures in
    subst (λ (o : Option (ℕ × ℕ)). IfSome o (λ found. found.1 ≤ length_of c.args.self.now.config (Round c.args.group found.0))) (sym told) (results_fit c.self.invariant.0 c.self.view_is c.args.group)
