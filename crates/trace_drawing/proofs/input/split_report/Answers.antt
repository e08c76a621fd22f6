use Rattle.std.proofs.Common.{sym, ap, ◌∙◌, arith, length-take, length-drop}
use Rattle.std.specs.Prelude.{bytes_eq, codes}
use Rattle.trace_drawing.proofs.Marks.{mark_here, mark_on, mark_none}
use Rattle.trace_drawing.proofs.input.split_report.Goals as goal

pub returns-then-eq-clause-parts : goal.returns-then-eq-clause-parts
returns-then-eq-clause-parts c = mark_here c.args.text.now c.loop-feed.start c.in-Some.feed c.loop-feed.invariant.cut c.in-Some.ensures.place (ap (λ w. bytes_eq w (codes "===")) (sym c.without_return.ensures) ∙ (sym c.eq.ensures ∙ c.if-eq.true))

pub loop-feed-preserved : goal.loop-feed-preserved
loop-feed-preserved c = record {
  within = omega (arith, simp (length-take, length-drop) at c.in-Some.ensures.within);
  cut = mark_on c.args.text.now c.loop-feed.start c.in-Some.feed c.loop-feed.invariant.cut c.in-Some.ensures.place (ap (λ w. bytes_eq w (codes "===")) (sym c.without_return.ensures) ∙ (sym c.eq.ensures ∙ c.if-eq.false));
}

pub returns-clause-parts : goal.returns-clause-parts
returns-clause-parts c = sym (mark_none c.args.text.now c.loop-feed.start c.loop-feed.invariant.cut c.in_default.ensures.place)
