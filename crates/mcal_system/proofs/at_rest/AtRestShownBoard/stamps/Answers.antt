use Rattle.std.proofs.Common.{◌≡◌, ℕ, ◌≤◌, Option, sym, subst}
use Rattle.std.specs.Option.{IfSome}
use Rattle.mcal_base.specs.Layout.{length_of}
use Rattle.mcal_base.specs.declared.layout.Array.TheVariants.{Stamps}
use Rattle.mcal_drivers.specs.Setting.{SystemState}
use Rattle.mcal_drivers.specs.Shows.{size_at}
use Rattle.run_model.specs.World.{World}
use Rattle.mcal_system.proofs.Resting.{size_there, size_fits}
use Rattle.mcal_system.proofs.at_rest.AtRestShownBoard.stamps.Goals as goal

pub returns-clause-size : goal.returns-clause-size
returns-clause-size c w s h =
    subst (λ (p : World × SystemState). c.stamps.result ≡ size_at p.1 c.args.channel) (sym h)
    (size_there c.self.invariant.0 c.self.view_is c.self.inside.captures.now c.self.invariant.1.captures_are c.args.channel c.requires.there c.stamps.result c.stamps.ensures)

pub returns-clause-few : goal.returns-clause-few
returns-clause-few c =
    let told = size_there c.self.invariant.0 c.self.view_is c.self.inside.captures.now c.self.invariant.1.captures_are c.args.channel c.requires.there c.stamps.result c.stamps.ensures in
    subst (λ (o : Option ℕ). IfSome o (λ n. n ≤ length_of c.args.self.now.config (Stamps c.args.channel))) (sym told) (size_fits c.self.invariant.0 c.self.view_is c.args.channel c.requires.there)
