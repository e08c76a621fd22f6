use Rattle.std.proofs.Common.{◌∙◌, ap, arith, sym, subst}
use Rattle.chip_model.specs.Chip.{expiry_of}
use Rattle.mcal_base.specs.declared.directive.Order.TheVariants as orders
use Rattle.script_runner.specs.Standing.{left_within}
use Rattle.live_board.specs.Lives.{GoesOn, ticks_by}
use Rattle.live_session.proofs.Asked.{spent_told}
use Rattle.live_session.proofs.Ticking.{ticks_told}
use Rattle.live_session.proofs.obey.tick.Goals as goal
use Rattle.live_session.specs.Answers.{Of_ticks}

pub returns-in-Ok-clause-obeyed : goal.returns-in-Ok-clause-obeyed
returns-in-Ok-clause-obeyed g c =
    let driver = c.args.board.now.live.driver in
    let before = c.args.board.now.live in
    let after = c.tell_watchdog.new.board.live in
    ticks_told (g.B.Driver.Module.spec driver) g.B.Driver.Frame.Routine.move_of g.B.Driver.Frame.Routine.left g.B.Driver.Frame.Routine.gave (g.met.B.Driver.Module.laws driver c.tick.ensures.fits) (g.B.Driver.Caller.call_of driver) c.args.page.now.number c.args.ticks before after c.args.board.now.frames c.tell_watchdog.new.board.frames c.args.page.now c.tell_watchdog.new.page
    (ap (λ l. l.kept.steps) c.tell_watchdog.ensures.live ∙ c.tick.ensures.beside.0)
    (subst (λ l. GoesOn (g.B.Driver.Module.spec driver) before l (ticks_by c.args.ticks (left_within c.args.ticks (expiry_of before.chip)))) (sym c.tell_watchdog.ensures.live) c.in-Ok.ensures.goes)
    c.tell_watchdog.result c.in-Ok.dropped c.in-Ok.ensures.ended c.tell_watchdog.ensures.told c.tell_watchdog.ensures.frames

pub returns-in-Err-clause-obeyed : goal.returns-in-Err-clause-obeyed
returns-in-Err-clause-obeyed g c =
    let driver = c.args.board.now.live.driver in
    spent_told (g.B.Driver.Module.spec driver) (g.B.Driver.Caller.call_of driver) (orders.Tick c.args.ticks) c.refuse.result c.args.page.now.number c.args.board.now.live c.tick.new.self c.args.board.now.frames c.args.page.now c.refuse.new.self c.in-Err.ensures.spent.1 (Of_ticks c.args.ticks (omega arith) c.in-Err.ensures.spent.0) c.refuse.ensures
