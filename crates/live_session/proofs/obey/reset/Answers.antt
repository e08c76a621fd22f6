use Rattle.std.proofs.Common.{◌∷◌, [], ◌∙◌, ap, sym, subst}
use Rattle.run_model.specs.Moment.{Resets}
use Rattle.live_board.specs.Lives.{GoesOn}
use Rattle.live_session.proofs.Outside.{was_reset}
use Rattle.live_session.proofs.obey.reset.Goals as goal

pub returns-clause-obeyed : goal.returns-clause-obeyed
returns-clause-obeyed g c = λ asked.
    let driver = c.args.board.now.live.driver in
    let before = c.args.board.now.live in
    was_reset (g.B.Driver.Module.spec driver) (g.B.Driver.Caller.call_of driver) c.args.page.now.number before c.tell_reset.new.board.live c.args.board.now.frames c.tell_reset.new.board.frames c.args.page.now c.tell_reset.new.page c.tell_reset.result c.args.reason c.reset-dropped.result asked c.reset-dropped.ensures.dropped
    (subst (λ l. GoesOn (g.B.Driver.Module.spec driver) before l (Resets c.args.reason ∷ [])) (sym c.tell_reset.ensures.live) c.reset-dropped.ensures.goes)
    (ap (λ l. l.kept.steps) c.tell_reset.ensures.live ∙ c.reset-dropped.ensures.beside.0) c.tell_reset.ensures.told c.tell_reset.ensures.frames
