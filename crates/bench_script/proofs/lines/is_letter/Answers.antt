use Rattle.std.proofs.Common.{◌<◌, arith, length}
use Rattle.bench_script.specs.Scanned.{is_letter}
use Rattle.bench_script.proofs.Table.{table_is}
use Rattle.bench_script.proofs.lines.is_letter.Goals as goal

pub returns : goal.returns
returns c = let within : c.args.byte < length c.letters.result.now = omega (arith, c.letters.ensures.size) in table_is is_letter c.letters.result.now c.args.byte c.letters.ensures.table within
