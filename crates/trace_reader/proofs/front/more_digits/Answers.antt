use Rattle.std.proofs.Common.{◌∙◌, sym, arith}
use Rattle.trace_reader.proofs.Fronts.{digits_on}
use Rattle.trace_reader.proofs.front.more_digits.Goals as goal

pub loop-rest-preserved : goal.loop-rest-preserved
loop-rest-preserved c = record {
  text = digits_on c.loop-rest.number _ c.loop-rest.rest.now _ c.loop-rest.invariant.some c.in-len1-up.len_at_least (sym c.is_ascii_digit.ensures.value ∙ c.if-not-is_ascii_digit.false) (omega arith) c.loop-rest.invariant.text;
  some = omega arith;
  fits = omega arith;
}
