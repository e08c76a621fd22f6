use Rattle.std.proofs.Common.{◌-◌, ◌∷◌, [], ap, sym, ◌∙◌, subst, arith}
use Rattle.chip_model.specs.Chip.{expiry_of}
use Rattle.mcal_base.specs.declared.directive.Order.TheVariants.{Tick}
use Rattle.mcal_base.specs.declared.directive.Reason.TheVariants.{Watchdog}
use Rattle.run_model.specs.Moment.{Happens, Resets}
use Rattle.script_runner.proofs.Waits.{left-early, left-few, left-is-some}
use Rattle.step_runner.specs.Driver.{EndsBefore}
use Rattle.live_board.specs.Lives.{GoesOn, ticks_by}
use Rattle.live_board.proofs.Keeping.{goes_then, rest_none, rest_some}
use Rattle.live_board.proofs.live.Live.tick.Goals as goal

pub run_down-dropped-requires-clause-time : goal.run_down-dropped-requires-clause-time
run_down-dropped-requires-clause-time g c = omega (arith, left-few c.args.ticks (expiry_of c.args.self.now.chip) c.in-Some.left (sym c.left_of.ensures ∙ c.in-Some.is), ap (λ v. v.left) c.self.view_is)

pub run_down-dropped-requires-clause-ends : goal.run_down-dropped-requires-clause-ends
run_down-dropped-requires-clause-ends g c = (left-is-some c.args.ticks (expiry_of c.args.self.now.chip) c.in-Some.left (sym c.left_of.ensures ∙ c.in-Some.is)).0

pub tick_on-requires-clause-early : goal.tick_on-requires-clause-early
tick_on-requires-clause-early g c = subst (λ x. EndsBefore (Tick (c.args.ticks - c.in-Some.left)) (expiry_of x)) (sym c.run_down-dropped.ensures.chip) tt

pub tick_on-requires-in-None-clause-early : goal.tick_on-requires-in-None-clause-early
tick_on-requires-in-None-clause-early g c = left-early c.args.ticks (expiry_of c.args.self.now.chip) (sym c.left_of.ensures ∙ c.in-None.is)

pub tick_on-requires-clause-time : goal.tick_on-requires-clause-time
tick_on-requires-clause-time g c = omega (arith, ap (λ v. v.left) c.self.view_is)

pub tick_on-requires-in-None-clause-time : goal.tick_on-requires-in-None-clause-time
tick_on-requires-in-None-clause-time g c = omega (arith, ap (λ v. v.left) c.self.view_is)

pub returns-then-left-ticks-clause-goes : goal.returns-then-left-ticks-clause-goes
returns-then-left-ticks-clause-goes g c =
    let mid = c.run_down-dropped.new.self in
    let new = c.tick_on.new.self in
    let rest = c.args.ticks - c.in-Some.left in
    let later = subst (λ m. GoesOn (g.M.Module.spec m) mid new (Happens (Tick rest) ∷ [])) c.run_down-dropped.ensures.driver c.tick_on.ensures.goes in
    subst (λ t. GoesOn (g.M.Module.spec c.args.self.now.driver) c.args.self.now new (ticks_by c.args.ticks t)) (sym (sym c.left_of.ensures ∙ c.in-Some.is))
    (subst (λ ds. GoesOn (g.M.Module.spec c.args.self.now.driver) c.args.self.now new (Happens (Tick c.in-Some.left) ∷ Resets Watchdog ∷ ds)) (sym (rest_some rest (omega arith)))
    (goes_then (g.M.Module.spec c.args.self.now.driver) c.args.self.now mid new (Happens (Tick c.in-Some.left) ∷ Resets Watchdog ∷ []) (Happens (Tick rest) ∷ []) c.run_down-dropped.ensures.goes later))

pub returns-else-left-ticks-clause-goes : goal.returns-else-left-ticks-clause-goes
returns-else-left-ticks-clause-goes g c =
    let few = left-few c.args.ticks (expiry_of c.args.self.now.chip) c.in-Some.left (sym c.left_of.ensures ∙ c.in-Some.is) in
    subst (λ t. GoesOn (g.M.Module.spec c.args.self.now.driver) c.args.self.now c.run_down-dropped.new.self (ticks_by c.args.ticks t)) (sym (sym c.left_of.ensures ∙ c.in-Some.is))
    (subst (λ ds. GoesOn (g.M.Module.spec c.args.self.now.driver) c.args.self.now c.run_down-dropped.new.self (Happens (Tick c.in-Some.left) ∷ Resets Watchdog ∷ ds)) (sym (rest_none (c.args.ticks - c.in-Some.left) (omega (arith, few)))) c.run_down-dropped.ensures.goes)

pub returns-in-None-clause-goes : goal.returns-in-None-clause-goes
returns-in-None-clause-goes g c = subst (λ t. GoesOn (g.M.Module.spec c.args.self.now.driver) c.args.self.now c.tick_on-in-None.new.self (ticks_by c.args.ticks t)) (sym (sym c.left_of.ensures ∙ c.in-None.is)) c.tick_on-in-None.ensures.goes
