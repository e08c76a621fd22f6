use Rattle.std.proofs.Common.{◌≡◌, ◌≤◌, ◌+◌, ◌-◌, ◌++◌, drop, map, length}
use Rattle.std.specs.Prelude.{option_map}
use Rattle.bench_script.specs.Scanned.{line_words, after_line}
use Rattle.bench_script.proofs.Line.{letters}
use Rattle.bench_script.proofs.lines.line_words.Given as goal

abbrev pub invariant-loop-place : goal.invariant-loop-place
invariant-loop-place l = record {
  before : l.start ≤ l.place;
  within : l.place ≤ length l.text;
  word : l.start + letters (drop l.start l.text) ≡ l.place + letters (drop l.place l.text);
  read : line_words l.text ≡ option_map (λ ws. map (λ w. w.now) l.words.items ++ ws) (line_words (drop l.start l.text));
  after : after_line l.text ≡ after_line (drop l.place l.text);
}

abbrev pub decreases-loop-place : goal.decreases-loop-place
decreases-loop-place l = length l.text - l.place
