use Rattle.std.proofs.Common.{◌≡◌, ◌∙◌, sym, subst}
use Rattle.std.specs.Option.{IfSome}
use Rattle.mcal_base.specs.Layout.{length_of}
use Rattle.mcal_base.specs.declared.layout.Array.TheVariants.{Source}
use Rattle.mcal_system.proofs.Resting.{channel_there, channel_fits}
use Rattle.mcal_system.proofs.at_rest.AtRestShownBoard.serial_channel.Goals as goal

pub returns-clause-is : goal.returns-clause-is
returns-clause-is c = c.channel.ensures ∙ channel_there c.self.invariant.0 c.self.view_is c.self.inside.serial.now c.self.invariant.1.serial_is c.args.number

pub returns-clause-words : goal.returns-clause-words
returns-clause-words c = subst (λ o. IfSome o (λ k. k.length ≡ length_of c.args.self.now.config (Source c.args.number))) (sym (returns-clause-is c)) (channel_fits c.self.invariant.0 c.self.view_is c.args.number)
