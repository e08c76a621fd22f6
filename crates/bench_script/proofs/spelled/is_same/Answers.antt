use Rattle.std.proofs.Common.{◌≡◌, ◌≤◌, ◌-◌, ◌+◌, ◌∙◌, true, sym, arith, length, take, drop}
use Rattle.std.specs.Prelude.{bytes_eq}
use Rattle.std.proofs.lemmas.Bool.Decides.{nat_tests}
use Rattle.std.proofs.lemmas.Bool.{not-false}
use Rattle.bench_script.proofs.Same.{eight_more, last_eight}
use Rattle.bench_script.proofs.spelled.is_same.Goals as goal

pub loop-place-preserved : goal.loop-place-preserved
loop-place-preserved c = record {
  within = grind (arith, nat_tests);
  before = eight_more c.args.text.now c.args.word.now c.loop-place.place c.loop-place.invariant.before (rw (c.eight_at-in-loop-place.ensures, c.eight_at-in-loop-place-2.ensures) at (sym c.ne-in-loop-place.ensures ∙ c.if-ne-2.false));
}

pub returns : goal.returns
returns c =
    let long : length c.args.text.now ≡ length c.args.text.now - 8 + 8 = grind (arith, nat_tests, c.if-text-lt8.false) in
    let as_long : length c.args.word.now ≡ length c.args.text.now - 8 + 8 = omega arith in
    let ends : bytes_eq (take 8 (drop (length c.args.text.now - 8) c.args.text.now)) (take 8 (drop (length c.args.text.now - 8) c.args.word.now)) ≡ true = not-false _ (rw (c.eight_at.ensures, c.eight_at-2.ensures) at (sym c.ne.ensures ∙ c.if-ne.false)) in
    let over : length c.args.text.now - 8 ≤ c.loop-place.place = grind (arith, nat_tests, c.loop-place-test.false) in
    sym ends ∙ last_eight c.args.text.now c.args.word.now (length c.args.text.now - 8) c.loop-place.place long as_long over c.loop-place.invariant.before
