use Rattle.std.proofs.Common.{◌≡◌, ◌≤◌, length, take}
use Rattle.bench_sweep.proofs.copies.copied_words.Given as goal

abbrev pub invariant-loop-word : goal.invariant-loop-word
invariant-loop-word l = record {
  copied : l.copy ≡ take l.word-index l.all;
  few : length l.all ≤ 64;
}
