-- The flags are those of the line's block.
use Rattle.std.proofs.Common.{◌∙◌, ap, arith}
use Rattle.mcal_base.specs.Bits.{has_bit}
use Rattle.chip_blocks.specs.timers.Timers as timers
use Rattle.chip_blocks.specs.pulses.Pulses as pulses
use Rattle.chip_blocks.specs.captures.Captures as captures
use Rattle.chip_blocks.specs.converter.Converters as converters
use Rattle.chip_blocks.specs.units.Serials as serials
use Rattle.chip_model.specs.Chip.{Chip}
use Rattle.chip_model.proofs.LineLaws.{flag-timer, flag-pulse, flag-capture, flag-converter, flag-serial, flag-trigger}
use Rattle.chip_model.proofs.bus.Bus.flags_with.Goals as goal

pub returns-in-0-to-7 : goal.returns-in-0-to-7
returns-in-0-to-7 c = ap (λ n. has_bit n c.args.line) (c.flags.ensures ∙ ap (λ (x : Chip). timers.flags_of x.timers) c.self.view_is) ∙ flag-timer c.args.self.now c.args.line (omega (arith, c.in-0-to-7))

pub returns-in-8-to-15 : goal.returns-in-8-to-15
returns-in-8-to-15 c = ap (λ n. has_bit n c.args.line) (c.flags-in-8-to-15.ensures ∙ ap (λ (x : Chip). pulses.lines_of x.pulses) c.self.view_is) ∙ flag-pulse c.args.self.now c.args.line (omega (arith, c.in-8-to-15)) (omega (arith, c.in-8-to-15))

pub returns-in-16-to-23 : goal.returns-in-16-to-23
returns-in-16-to-23 c = ap (λ n. has_bit n c.args.line) (c.flags-in-16-to-23.ensures ∙ ap (λ (x : Chip). captures.lines_of x.captures) c.self.view_is) ∙ flag-capture c.args.self.now c.args.line (omega (arith, c.in-16-to-23)) (omega (arith, c.in-16-to-23))

pub returns-in-26-to-27 : goal.returns-in-26-to-27
returns-in-26-to-27 c = ap (λ n. has_bit n c.args.line) (c.flags-in-26-to-27.ensures ∙ ap (λ (x : Chip). serials.flags_of x.serials) c.self.view_is) ∙ flag-serial c.args.self.now c.args.line (omega (arith, c.in-26-to-27)) (omega (arith, c.in-26-to-27))

pub returns-in-24-to-25 : goal.returns-in-24-to-25
returns-in-24-to-25 c = ap (λ n. has_bit n c.args.line) (c.flags-in-24-to-25.ensures ∙ ap (λ (x : Chip). converters.flags_of x.converters) c.self.view_is) ∙ flag-converter c.args.self.now c.args.line (omega (arith, c.in-24-to-25)) (omega (arith, c.in-24-to-25))

pub returns-in_default : goal.returns-in_default
returns-in_default c = ap (λ n. has_bit n c.args.line) (c.flags-in_default.ensures ∙ ap (λ (x : Chip). converters.flags_of x.converters) c.self.view_is) ∙ flag-trigger c.args.self.now c.args.line (omega (arith, c.in_default))
