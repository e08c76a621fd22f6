use Rattle.std.proofs.Common.{◌∙◌, ap, sym}
use Rattle.run_model.specs.Moment.{after_all, start_moment}
use Rattle.script_runner.proofs.Events.{none_held}
use Rattle.script_runner.specs.Standing.{may_be_held}
use Rattle.live_board.proofs.live.Live.happen.Goals as goal

pub returns-then-unit-lt2-clause-cause : goal.returns-then-unit-lt2-clause-cause
returns-then-unit-lt2-clause-cause g c = λ first h st outside.
    let setting = (g.M.Module.spec c.args.self.now.driver).setting in
    none_held setting (after_all setting (start_moment setting first) h) c.args.happening.now.order (ap may_be_held c.in-Miso.is) ∙ sym c.give.ensures.free
