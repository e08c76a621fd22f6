use Rattle.std.proofs.Common.{length, sym, ◌∙◌}
use Rattle.bench_report.specs.Report as report
use Rattle.run_model.specs.Frame as model
use Rattle.live_session.proofs.Telling.{told_with_reset}
use Rattle.live_session.proofs.steps.follow.Goals as goal

pub returns-then-resets_chip-clause-told : goal.returns-then-resets_chip-clause-told
returns-then-resets_chip-clause-told g c =
    told_with_reset c.args.page.now c.tell_step.new.page c.end_of.new.page c.tell_reset.new.page
    (report.step_lines c.args.traced c.args.depth c.args.stepped.now) (report.move_lines c.args.stepped.now.made) (report.end_lines c.args.board.now.frames c.args.stepped.now.ended)
    (length c.args.board.now.live.kept.frames) c.reset-dropped.result (model.resets_chip c.args.stepped.now.made)
    c.in_ok-tell_step.ensures c.in_ok-goes.ensures.told c.in_ok-tell_reset.ensures.told c.reset-dropped.ensures.dropped (sym c.resets_chip.ensures ∙ c.if-resets_chip.true)
