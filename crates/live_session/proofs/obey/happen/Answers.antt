use Rattle.std.proofs.Common.{Err, refl, ◌∙◌, ap}
use Rattle.live_board.specs.Lives.{held_by}
use Rattle.live_session.proofs.Outside.{moved, moving_outside, refused_told}
use Rattle.live_session.proofs.obey.happen.Goals as goal
use Rattle.live_session.specs.Answers.{As_asked}

pub returns-in-Ok-clause-obeyed : goal.returns-in-Ok-clause-obeyed
returns-in-Ok-clause-obeyed g c = λ outside.
    let driver = c.args.board.now.live.driver in
    let order = c.args.directive.now.order in
    As_asked (moved (g.B.Driver.Module.spec driver) (g.B.Driver.Caller.call_of driver) order c.args.page.now.number c.args.board.now.live c.happen.new.self c.args.board.now.frames c.args.page.now c.args.page.now (moving_outside order outside)
    (λ first h st. c.happen.ensures.cause first h st outside ∙ ap (λ r. held_by r) c.in-Ok.is) c.in-Ok.ensures.goes c.happen.ensures.beside.0 refl)

pub returns-in-Err-clause-obeyed : goal.returns-in-Err-clause-obeyed
returns-in-Err-clause-obeyed g c = λ outside.
    let driver = c.args.board.now.live.driver in
    let order = c.args.directive.now.order in
    refused_told (g.B.Driver.Module.spec driver) (g.B.Driver.Caller.call_of driver) order c.args.page.now.number c.args.board.now.live c.happen.new.self c.args.board.now.frames c.args.page.now c.tell_refusal.new.page (moving_outside order outside) (Unit {0}) c.tell_refusal.result c.in-Err.refusal
    (λ first h st. c.happen.ensures.cause first h st outside ∙ ap (λ r. held_by r) c.in-Err.is) (λ e. c.happen.ensures.spent (c.in-Err.is ∙ ap (λ r. Err r) e)) c.in-Err.ensures.held c.tell_refusal.ensures
