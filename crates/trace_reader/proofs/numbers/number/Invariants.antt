use Rattle.std.proofs.Common.{◌≡◌, ◌≤◌, drop}
use Rattle.trace_reader.specs.Numbers.{number_from}
use Rattle.trace_reader.proofs.numbers.number.Given as goal

abbrev pub invariant-loop-byte : goal.invariant-loop-byte
invariant-loop-byte l = record {
  read : number_from 0 l.word ≡ number_from l.number (drop l.byte-index l.word);
  small : l.number ≤ 4294967296;
}
