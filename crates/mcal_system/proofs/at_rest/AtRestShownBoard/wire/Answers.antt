use Rattle.std.proofs.Common.{◌≡◌, ◌∙◌, ap, subst, sym}
use Rattle.std.proofs.lemmas.Result.{IfOk-weaker}
use Rattle.std.specs.Prelude.{IfOk}
use Rattle.mcal_drivers.specs.Setting.{SystemState}
use Rattle.mcal_drivers.specs.Shows.{wire_at}
use Rattle.run_model.specs.World.{World}
use Rattle.mcal_system.specs.Runs.{moment_at}
use Rattle.mcal_system.specs.Wires.{exchanges_of}
use Rattle.shown_rows.specs.Wires.{pairs}
use Rattle.mcal_system.proofs.Resting.{wire_there}
use Rattle.mcal_system.proofs.at_rest.AtRestShownBoard.wire.Goals as goal

pub returns : goal.returns
returns c w s h =
    let u = c.args.unit in
    let told : IfOk c.exchanges_of.result (λ words. pairs words.items ≡ wire_at (moment_at c.args.self.now).state u) =
    IfOk-weaker c.exchanges_of.result (λ words. words.items ≡ exchanges_of u c.self.inside.journal.now.entries) (λ words. pairs words.items ≡ wire_at (moment_at c.args.self.now).state u)
    (λ words is. ap pairs is ∙ wire_there c.self.invariant.0 c.self.view_is u c.requires.there)
    c.exchanges_of.ensures in
    subst (λ (p : World × SystemState). IfOk c.exchanges_of.result (λ words. pairs words.items ≡ wire_at p.1 u)) (sym h) told
