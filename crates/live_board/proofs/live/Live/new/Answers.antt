use Rattle.std.proofs.Common.{◌≡◌, ◌∙◌, sym, ap, subst, arith, []}
use Rattle.chip_model.specs.Chip.{power_on, hung, Chip}
use Rattle.step_runner.proofs.PowerOn.{first-power_on}
use Rattle.step_runner.specs.Stands.{Stands}
use Rattle.live_board.proofs.Counts.{counted_first}
use Rattle.live_board.proofs.live.Live.new.Goals as goal

pub returns-clause-stands : goal.returns-clause-stands
returns-clause-stands g c = let first = hung c.args.devices (power_on c.args.config.now c.args.room) in
    let made : c.hang.new.self ≡ first = c.hang.ensures ∙ ap (λ b. hung c.args.devices b) c.in_ok-bus.ensures in
    subst (λ chip. Stands (g.M.Module.spec c.args.driver) first chip c.in_ok-stack.stack.frames []) (sym made)
    (c.in_ok-stack.ensures.stands c.args.driver first c.requires.fits (first-power_on c.args.config.now c.args.room c.args.devices c.requires.config) c.requires.wired)

pub invariant_of-result : goal.invariant_of-result
invariant_of-result g c = let first = hung c.args.devices (power_on c.args.config.now c.args.room) in
    let made : c.hang.new.self ≡ first = c.hang.ensures ∙ ap (λ b. hung c.args.devices b) c.in_ok-bus.ensures in
    record {
      fits = c.requires.fits;
      first = first;
      deeds = [];
      stands = subst (λ chip. Stands (g.M.Module.spec c.args.driver) first chip c.in_ok-stack.stack.frames []) (sym made)
          (c.in_ok-stack.ensures.stands c.args.driver first c.requires.fits (first-power_on c.args.config.now c.args.room c.args.devices c.requires.config) c.requires.wired);
      steps = omega arith;
      counted = counted_first c.args.config.now c.args.room c.args.devices c.hang.new.self made;
      hung = ap (λ (x : Chip). x.devices) made;
    }
