use Rattle.std.proofs.Common.{◌≡◌, ◌≤◌, drop, Some}
use Rattle.std.specs.Prelude.{option_map}
use Rattle.bench_script.specs.Numbers as spec
use Rattle.bench_script.proofs.numbers.digits.Given as goal

abbrev pub invariant-loop-byte : goal.invariant-loop-byte
invariant-loop-byte l = record {
  read : option_map spec.capped (spec.digits l.base l.word) ≡ option_map spec.capped (spec.digits_after l.base (Some l.number) (drop l.byte-index l.word));
  small : l.number ≤ 4294967296;
}
