-- Both units are settled, and then the level is set.
use Rattle.chip_blocks.specs.converter.Converters.{Converters}
use Rattle.chip_blocks.proofs.of_converter.ConverterLaws.{all_settled}
use Rattle.chip_blocks.proofs.converter.block.ConverterBlock.analog.Goals as goal

pub returns : goal.returns
returns c =
    let i = c.self.inside in
    let v : Converters = record { time = i.time; units = i.units; levels = i.levels; gates = i.gates; pulses = i.pulses } in
    all_settled c.args.self.now c.settle.new.self c.settle-2.new.self v c.args.input c.args.value c.set.new.self
    c.settle.ensures c.settle-2.ensures c.self.view_is c.self.invariant.0 c.set.ensures
