use Rattle.std.proofs.Common.{◌∙◌, sym}
use Rattle.sweep_top.proofs.Wishing.{both_first}
use Rattle.sweep_top.proofs.words.Asked.with_first.Goals as goal

pub returns : goal.returns
returns c =
    both_first c.args.self c.in_ok-asked-2.asked c.args.word.now c.args.behind.now c.next-item.result c.in-len1-up.len_at_least c.next-item.is
    (sym c.takes_word.ensures ∙ c.if-not-takes_word.false) (rw c.as_str.ensures.value at (sym c.with_both.ensures ∙ c.in_ok-asked-2.was))
