use Rattle.std.proofs.Common.{sym, ap, ◌∙◌, arith, length-take, length-drop}
use Rattle.bench_script.specs.Lines.{is_line}
use Rattle.bench_script.proofs.Cuts.{cut_here, cut_on, cut_last}
use Rattle.bench_script.proofs.lines.split_at.Goals as goal

pub returns-then-eq-clause-parts : goal.returns-then-eq-clause-parts
returns-then-eq-clause-parts c = cut_here c.args.mark.now c.args.text.now c.loop-feed.start c.in-Some.feed c.loop-feed.invariant.cut c.in-Some.ensures.place (ap (is_line c.args.mark.now) (sym c.without_return.ensures) ∙ (sym c.eq.ensures ∙ c.if-eq.true))

pub loop-feed-preserved : goal.loop-feed-preserved
loop-feed-preserved c = record {
  within = omega (arith, simp (length-take, length-drop) at c.in-Some.ensures.within);
  cut = cut_on c.args.mark.now c.args.text.now c.loop-feed.start c.in-Some.feed c.loop-feed.invariant.cut c.in-Some.ensures.place (ap (is_line c.args.mark.now) (sym c.without_return.ensures) ∙ (sym c.eq.ensures ∙ c.if-eq.false));
}

pub returns-else-eq-2-clause-parts : goal.returns-else-eq-2-clause-parts
returns-else-eq-2-clause-parts c = sym (cut_last c.args.mark.now c.args.text.now c.loop-feed.start _ c.loop-feed.invariant.cut c.in_default.ensures.place (sym c.eq-2.ensures ∙ c.if-eq-2.false))

pub returns-then-eq-2-clause-parts : goal.returns-then-eq-2-clause-parts
returns-then-eq-2-clause-parts c = sym (cut_last c.args.mark.now c.args.text.now c.loop-feed.start _ c.loop-feed.invariant.cut c.in_default.ensures.place (sym c.eq-2.ensures ∙ c.if-eq-2.true))
