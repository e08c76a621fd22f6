use Rattle.std.proofs.Common.{sym, vec_len}
use Rattle.bench_sweep.proofs.Commented.{more_kept, more_long}
use Rattle.bench_sweep.proofs.marking.without_marks.Goals as goal

pub loop-feed-preserved : goal.loop-feed-preserved
loop-feed-preserved c = record {
  same = more_kept c.args.text.now c.loop-feed.bytes.items c.loop-feed.rest.now c.keep_line.new.bytes.items c.push.new.self.items c.in-Some.feed c.loop-feed.invariant.same (sym c.in-Some.ensures.place) c.in_ok-keep_line.ensures.is c.in_ok-push.ensures.items;
  length = more_long c.args.text.now c.loop-feed.rest.now (vec_len c.loop-feed.bytes) (vec_len c.keep_line.new.bytes) (vec_len c.push.new.self) c.in-Some.feed c.loop-feed.invariant.length c.in-Some.ensures.within c.in_ok-keep_line.ensures.length c.in_ok-push.ensures.len;
}
