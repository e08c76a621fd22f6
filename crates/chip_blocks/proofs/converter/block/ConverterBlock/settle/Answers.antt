-- The unit is found and changed.
use Rattle.std.proofs.Common.{arith}
use Rattle.chip_blocks.specs.converter.Converters.{Converters, settled}
use Rattle.chip_blocks.proofs.of_converter.ConverterLaws.{changed}
use Rattle.chip_blocks.proofs.converter.block.ConverterBlock.settle.Goals as goal

pub returns-then-unit-lt-UNITS : goal.returns-then-unit-lt-UNITS
returns-then-unit-lt-UNITS c =
    let i = c.self.inside in
    let v : Converters = record { time = i.time; units = i.units; levels = i.levels; gates = i.gates; pulses = i.pulses } in
    changed v c.args.self.now (λ b a. settled b.levels b.time a) c.args.unit c.index-self-unit.result c.settle.new.self
    c.self.view_is (omega arith) c.settle.ensures
