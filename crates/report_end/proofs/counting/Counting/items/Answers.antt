use Rattle.std.proofs.Common.{◌∙◌, arith}
use Rattle.report_end.proofs.Next.{next_counted, next_later, next_room}
use Rattle.report_end.proofs.counting.Counting.items.Goals as goal

pub loop-rest-preserved : goal.loop-rest-preserved
loop-rest-preserved c =
    let lists = c.args.lists.now in
    let said = rw c.says.ensures at (c.in_ok-item.ensures lists.words.now) in
    record {
      counted = next_counted c.args.directive.now c.loop-rest.self c.item.new.self lists c.loop-rest.rest.now _ c.in-len1-up.len_at_least c.if-item-directive.false said ∙ c.loop-rest.invariant.counted;
      later = next_later c.args.directive.now lists c.loop-rest.rest.now _ c.in-len1-up.len_at_least c.if-item-directive.false ∙ c.loop-rest.invariant.later;
      room =
          let next = next_room c.args.directive.now c.loop-rest.self c.item.new.self lists c.loop-rest.rest.now _ c.in-len1-up.len_at_least said in
          let before = c.loop-rest.invariant.room in
          omega (arith, next, before);
    }
