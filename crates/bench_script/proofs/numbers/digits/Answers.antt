use Rattle.std.proofs.Common.{sym, ◌∙◌, arith}
use Rattle.bench_script.proofs.Values.{digits_step}
use Rattle.bench_script.proofs.numbers.digits.Goals as goal

pub loop-byte-preserved : goal.loop-byte-preserved
loop-byte-preserved c = record {
  read = c.loop-byte.invariant.read ∙ digits_step c.args.base c.loop-byte.number c.min-number.result c.in_ok-digit.field-0 c.loop-byte.byte-index c.args.word.now c.requires.some (omega arith) (sym c.in_ok-digit.ensures.value) c.min-number.ensures;
  small = omega arith;
}
