use Rattle.std.proofs.Common.{ap, ◌∙◌}
use Rattle.module_machines.specs.port.Machine.{PinState, level_of}
use Rattle.audit_clock.proofs.pins.Pins.level.Goals as goal

pub returns-clause-kept : goal.returns-clause-kept
returns-clause-kept c = c.level_of.ensures ∙ ap (λ (x : PinState). level_of x c.args.outside c.args.pulse) c.at.ensures

pub returns-clause-is : goal.returns-clause-is
returns-clause-is c s h = returns-clause-kept c ∙ ap (λ (x : PinState). level_of x c.args.outside c.args.pulse) (h.pins c.args.number c.requires)
