-- A unit that isn't there has no results.
use Rattle.std.proofs.Common.{◌≡◌, sym, ap, ◌∙◌, arith, length, ◌≤◌}
use Rattle.chip_blocks.specs.converter.Converters.{Converters, result as result_of}
use Rattle.chip_blocks.proofs.of_converter.ConverterLaws.{unit_at-above, result-unused}
use Rattle.chip_blocks.proofs.converter.block.ConverterBlock.result.Goals as goal

pub returns-else-unit-lt-UNITS : goal.returns-else-unit-lt-UNITS
returns-else-unit-lt-UNITS c =
    let b = c.args.self.now in
    let size : length b.units ≡ 2 = ap (λ (x : Converters). length x.units) (sym c.self.view_is) ∙ c.self.invariant.0 in
    let above : length b.units ≤ c.args.unit = omega arith in
    sym (ap (λ a. result_of b.levels b.time a c.args.place) (unit_at-above b c.args.unit above) ∙ result-unused b.levels b.time c.args.place)
