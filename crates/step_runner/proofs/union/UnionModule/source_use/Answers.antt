use Rattle.std.proofs.Common.{sym, subst}
use Rattle.std.specs.Prelude.{IfSome, ◌<◌}
use Rattle.step_runner.specs.UnionLaws.{outside-split}
use Rattle.step_runner.specs.Union.{has_handler}
use Rattle.step_runner.proofs.Fills.{there-of, used-few, used-of}
use Rattle.step_runner.proofs.union.UnionModule.source_use.Goals as goal

pub returns-clause-there : goal.returns-clause-there
returns-clause-there g c = there-of _ c.source_use-first.result c.source_use-second.result _ _ c.either_use.ensures c.source_use-first.ensures.there c.source_use-second.ensures.there

pub returns-clause-few : goal.returns-clause-few
returns-clause-few g c = subst (λ x. IfSome x (λ used. c.args.channel < 16)) (sym c.either_use.ensures) (used-few c.source_use-first.result c.source_use-second.result c.args.channel c.source_use-first.ensures.few c.source_use-second.ensures.few)

pub returns-clause-used : goal.returns-clause-used
returns-clause-used g c w ps s fits out h =
    let outs = outside-split (has_handler (g.A.Module.spec c.args.self.now.first)) ps h.firsts h.seconds h.splits out in
    used-of _ c.source_use-first.result c.source_use-second.result _ _ _ _ c.either_use.ensures c.source_use-first.ensures.there c.source_use-second.ensures.there
    (c.source_use-first.ensures.used w h.firsts s.0 fits.0 outs.0 h.first)
    (c.source_use-second.ensures.used w h.seconds s.1 fits.1 outs.1 h.second)
