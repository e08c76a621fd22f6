use Rattle.std.proofs.Common.{◌≡◌, subst, sym, refl, Some}
use Rattle.module_machines.specs.dio.Machine.{puts_value, work}
use Rattle.module_machines.specs.dio.Table.{pins_of}
use Rattle.audit_base.specs.Comes.{Gives}
use Rattle.audit_clock.specs.PinStands.{StandsFor}
use Rattle.audit_clock.specs.PortPins.{pins_seeing}
use Rattle.audit_clock.proofs.PortPlaces.{low_channel}
use Rattle.audit_clock.proofs.ports.Ports.work.Goals as goal

pub tells_level-requires : goal.tells_level-requires
tells_level-requires c = low_channel c.args.self.now c.in-ReadChannel.pin c.args.chosen (subst (λ call. pins_of c.args.self.now call ≡ Some c.args.chosen) c.in-ReadChannel.is c.requires.chosen)

pub flips-requires : goal.flips-requires
flips-requires c = low_channel c.args.self.now c.in-FlipChannel.pin c.args.chosen (subst (λ call. pins_of c.args.self.now call ≡ Some c.args.chosen) c.in-FlipChannel.is c.requires.chosen)

pub returns-in-ReadChannel-clause-is : goal.returns-in-ReadChannel-clause-is
returns-in-ReadChannel-clause-is c w s outputs around stands =
    subst (λ call. Gives (StandsFor c.args.pins.now) c.tells_level.result (work (pins_seeing outputs) w s call c.args.chosen)) (sym c.in-ReadChannel.is)
    (record { told = c.tells_level.ensures w s outputs around stands; wordless = refl; kept = stands })

pub returns-in-FlipChannel-clause-is : goal.returns-in-FlipChannel-clause-is
returns-in-FlipChannel-clause-is c w s outputs around stands =
    subst (λ call. Gives (StandsFor c.flips.new.pins) c.flips.result (work (pins_seeing outputs) w s call c.args.chosen)) (sym c.in-FlipChannel.is) (c.flips.ensures.is w s outputs around stands)

pub returns-in-ReadPort-clause-is : goal.returns-in-ReadPort-clause-is
returns-in-ReadPort-clause-is c w s outputs around stands =
    subst (λ call. Gives (StandsFor c.args.pins.now) c.tells_value.result (work (pins_seeing outputs) w s call c.args.chosen)) (sym c.in-ReadPort.is)
    (record { told = c.tells_value.ensures w s outputs around stands; wordless = refl; kept = stands })

pub returns-in-ReadChannelGroup-clause-is : goal.returns-in-ReadChannelGroup-clause-is
returns-in-ReadChannelGroup-clause-is c w s outputs around stands =
    subst (λ call. Gives (StandsFor c.args.pins.now) c.tells_value-in-ReadChannelGroup.result (work (pins_seeing outputs) w s call c.args.chosen)) (sym c.in-ReadChannelGroup.is)
    (record { told = c.tells_value-in-ReadChannelGroup.ensures w s outputs around stands; wordless = refl; kept = stands })

pub returns-in-WriteChannel-clause-is : goal.returns-in-WriteChannel-clause-is
returns-in-WriteChannel-clause-is c w s outputs around stands =
    subst (λ call. Gives (StandsFor c.puts_value.new.pins) c.puts_value.result (work (pins_seeing outputs) w s call c.args.chosen)) (sym c.in-WriteChannel.is)
    (subst (λ v. Gives (StandsFor c.puts_value.new.pins) c.puts_value.result (puts_value (pins_seeing outputs) s c.args.chosen v)) c.bit.ensures (c.puts_value.ensures.is s outputs stands))

pub returns-in-WritePort-clause-is : goal.returns-in-WritePort-clause-is
returns-in-WritePort-clause-is c w s outputs around stands =
    subst (λ call. Gives (StandsFor c.puts_value-in-WritePort.new.pins) c.puts_value-in-WritePort.result (work (pins_seeing outputs) w s call c.args.chosen)) (sym c.in-WritePort.is) (c.puts_value-in-WritePort.ensures.is s outputs stands)

pub returns-in-WriteChannelGroup-clause-is : goal.returns-in-WriteChannelGroup-clause-is
returns-in-WriteChannelGroup-clause-is c w s outputs around stands =
    subst (λ call. Gives (StandsFor c.puts_value-in-WriteChannelGroup.new.pins) c.puts_value-in-WriteChannelGroup.result (work (pins_seeing outputs) w s call c.args.chosen)) (sym c.in-WriteChannelGroup.is) (c.puts_value-in-WriteChannelGroup.ensures.is s outputs stands)
