use Rattle.std.proofs.Common.{◌≡◌, take, map}
use Rattle.bench_report.specs.declared.rows.Value.TheVariants.{Pair}
use Rattle.shown_rows.specs.declared.shown.Exchange.{Exchange}
use Rattle.shown_rows.proofs.wires.wire_words.Given as goal

abbrev pub invariant-loop-place : goal.invariant-loop-place
invariant-loop-place g l = l.values.items ≡ map (λ (x : Exchange). Pair x.sent x.received) (take l.place l.words.items)
