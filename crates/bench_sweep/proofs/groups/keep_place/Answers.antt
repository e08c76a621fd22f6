use Rattle.bench_sweep.specs.Groups as spec
use Rattle.bench_sweep.proofs.Ranged.{pushed, put}
use Rattle.bench_sweep.proofs.groups.keep_place.Goals as goal

pub returns : goal.returns
returns c =
    let last = c.last_of-last.ensures in
    record {
      is = put c.args.ranges.now.items c.make_way.new.ranges.items c.push.new.self.items c.last_of-last.result c.args.place c.args.wait (rw c.deref.ensures.value at last.none) (rw c.deref.ensures.value at last.some) (rw c.goes_on.ensures at c.make_way.ensures.is) (rw c.range_with-range.ensures.is at c.in_ok-push.ensures.items);
      each = λ settled outcome s g e all. pushed (spec.IsRangeOf settled outcome) _ _ c.range_with-range.result c.in_ok-push.ensures.items (c.make_way.ensures.each settled outcome all) (c.range_with-range.ensures.each settled outcome s g e (last.each settled outcome (rw c.deref.ensures.value all)));
    }
