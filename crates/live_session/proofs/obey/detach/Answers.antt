use Rattle.std.proofs.Common.{refl, ◌∙◌, ap}
use Rattle.mcal_base.specs.declared.directive.Order.TheVariants as orders
use Rattle.step_runner.specs.Kept.{cause_of}
use Rattle.live_session.proofs.Outside.{held_told, moved}
use Rattle.live_session.proofs.obey.detach.Goals as goal
use Rattle.live_session.specs.Answers.{As_asked}

pub returns-in-Ok-clause-obeyed : goal.returns-in-Ok-clause-obeyed
returns-in-Ok-clause-obeyed g c =
    let driver = c.args.board.now.live.driver in
    As_asked (moved (g.B.Driver.Module.spec driver) (g.B.Driver.Caller.call_of driver) orders.Detach c.args.page.now.number c.args.board.now.live c.detach.new.self c.args.board.now.frames c.args.page.now c.args.page.now refl
    (λ first h st. c.detach.ensures.cause first h st ∙ ap (λ r. cause_of r) c.in-Ok.is) c.in-Ok.ensures.goes c.detach.ensures.steps refl)

pub returns-in-Err-clause-obeyed : goal.returns-in-Err-clause-obeyed
returns-in-Err-clause-obeyed g c =
    let driver = c.args.board.now.live.driver in
    held_told (g.B.Driver.Module.spec driver) (g.B.Driver.Caller.call_of driver) orders.Detach c.args.page.now.number c.args.board.now.live c.detach.new.self c.args.board.now.frames c.args.page.now c.say.new.self refl c.say.result c.in-Err.cause
    (λ first h st. c.detach.ensures.cause first h st ∙ ap (λ r. cause_of r) c.in-Err.is) c.in-Err.ensures.held c.say.ensures
