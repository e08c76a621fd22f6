use Rattle.std.proofs.Common.{ℕ, ◌≤◌, List, length, ◌∙◌, ap, arith}
use Rattle.std.specs.Prelude.{map}
use Rattle.std.proofs.lemmas.List.{take_all}
use Rattle.bench_report.specs.declared.rows.Value.TheVariants.{Pair}
use Rattle.shown_rows.specs.declared.shown.Exchange.{Exchange}
use Rattle.shown_rows.proofs.Rows.{wire_values}
use Rattle.shown_rows.proofs.wires.wire_words.Goals as goal

pub returns : goal.returns
returns g c w s h =
    let xs = c.in_ok-words.words.items in
    let end : length xs ≤ c.loop-place.place =
    let over = c.loop-place-test.false in
    let bound = c.len-place-end.ensures in
    omega (arith, over, bound) in
    c.loop-place.invariant
    ∙ ap (λ (ys : List Exchange). map (λ (x : Exchange). Pair x.sent x.received) ys) (take_all c.loop-place.place xs end)
    ∙ wire_values xs
    ∙ ap (λ (ps : List (ℕ × ℕ)). map (λ (p : ℕ × ℕ). Pair p.0 p.1) ps) (c.in_ok-words.ensures w s h)
