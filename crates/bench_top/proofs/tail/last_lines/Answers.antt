use Rattle.std.proofs.Common.{◌∙◌, ap, arith, length}
use Rattle.std.specs.Prelude.{unwrap_or}
use Rattle.bench_top.proofs.LastLines.{turn_is, from_front}
use Rattle.bench_top.proofs.tail.last_lines.Goals as goal

pub loop-start-preserved : goal.loop-start-preserved
loop-start-preserved c =
    let turn = turn_is c.args.starts.now.capacity c.loop-start.start c.first_len-start.result c.args.text.now c.loop-start.starts c.push_back.new.self c.loop-start-test.true c.loop-start.invariant.capacity
    c.first_len-start.ensures c.push_back.ensures.items c.loop-start.invariant.kept in
    record { capacity = turn.capacity; within = turn.within; kept = turn.kept }

pub split_at-requires : goal.split_at-requires
split_at-requires c =
    (from_front c.args.starts.now.capacity c.loop-start.start c.unwrap_or-first.result c.args.text.now c.loop-start.starts.items (let past = c.loop-start-test.false in omega (arith, past)) c.loop-start.invariant.kept
    (c.unwrap_or-first.ensures ∙ ap (λ o. unwrap_or o (length c.args.text.now)) (c.copied.ensures ∙ c.front.ensures))).0

pub returns : goal.returns
returns c =
    c.split_at.ensures.back ∙ (from_front c.args.starts.now.capacity c.loop-start.start c.unwrap_or-first.result c.args.text.now c.loop-start.starts.items (let past = c.loop-start-test.false in omega (arith, past)) c.loop-start.invariant.kept
    (c.unwrap_or-first.ensures ∙ ap (λ o. unwrap_or o (length c.args.text.now)) (c.copied.ensures ∙ c.front.ensures))).1
