use Rattle.std.proofs.Common.{sym, ◌∙◌, ◌+◌}
use Rattle.std.proofs.lemmas.List.{take_rest}
use Rattle.bench_script.proofs.Scanned.{feed_at, no_feed}
use Rattle.bench_script.proofs.lines.after_comment.Goals as goal

pub returns-in-Some : goal.returns-in-Some
returns-in-Some c = take_rest c.args.text.now (c.in-Some.feed + 1) ∙ sym (feed_at c.args.text.now c.in-Some.feed (sym c.in-Some.ensures.place))

pub returns-in-None : goal.returns-in-None
returns-in-None c = sym (no_feed c.args.text.now (sym c.in-None.ensures.place))
