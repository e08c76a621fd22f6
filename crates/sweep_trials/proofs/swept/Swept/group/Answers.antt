use Rattle.std.proofs.Common.{◌≡◌, Some, arith}
use Rattle.std.specs.Prelude.{slice_get}
use Rattle.bench_sweep.specs.Groups.{ranges_of}
use Rattle.sweep_trials.specs.Rows.{IsRowAt}
use Rattle.sweep_trials.proofs.Stopping.{no_memory, passed}
use Rattle.sweep_trials.specs.Stops.{StopsNaming}
use Rattle.sweep_trials.proofs.Showing.{count_more, first_rows, row_more, shown_more}
use Rattle.sweep_trials.proofs.swept.Swept.group.Goals as goal

pub loop-place-preserved : goal.loop-place-preserved
loop-place-preserved g c =
    let l = c.loop-place in
    let s = c.args.self.now in
    let sweep = c.args.sweep.now in
    let found = c.in_ok-ranges.ranges.items in
    let range = c.range_at.result in
    let row = c.in_ok-row.row in
    let next = c.push.new.self.items in
    let at : slice_get found l.place ≡ Some range = rw c.deref-in-loop-place.ensures.value at c.range_at.ensures in
    record {
      rows = row_more (g.R.Runs.is_seen sweep.bench.runs.now) sweep.bench.following sweep.parts.swept.now c.args.opened.now s c.args.outcome found l.rows.items next range row l.place at (rw c.deref.ensures.value at c.in_ok-ranges.ensures.each) c.in_ok-row.ensures.row c.in_ok-push.ensures.items l.invariant.rows;
      shown = shown_more (IsRowAt (g.R.Runs.is_seen sweep.bench.runs.now) sweep.bench.following sweep.parts.swept.now c.args.opened.now s) found l.rows.items next range row l.place l.invariant.count at c.in_ok-row.ensures.row c.in_ok-push.ensures.items l.invariant.shown;
      count = count_more l.rows.items next row l.place l.invariant.count c.in_ok-push.ensures.items;
    }

pub returns-clause-ranges : goal.returns-clause-ranges
returns-clause-ranges g c =
    let l = c.loop-place in
    let s = c.args.self.now in
    let sweep = c.args.sweep.now in
    first_rows (IsRowAt (g.R.Runs.is_seen sweep.bench.runs.now) sweep.bench.following sweep.parts.swept.now c.args.opened.now s) (ranges_of c.args.outcome s.settled.items) c.in_ok-ranges.ranges.items l.rows.items c.args.most c.min-shown.result _ l.place (rw c.deref.ensures.value at c.in_ok-ranges.ensures.is) l.invariant.shown l.invariant.count (omega arith) (omega (arith, c.in_ok-ranges.ranges.ok.0)) (omega (arith, c.in_ok-ranges.ranges.ok.0))

pub returns-in_err-ranges-clause-stopped : goal.returns-in_err-ranges-clause-stopped
returns-in_err-ranges-clause-stopped g c = no_memory (StopsNaming (g.R.Runs.is_seen c.args.sweep.now.bench.runs.now) (g.R.Runs.at_limit c.args.sweep.now.bench.runs.now) c.args.sweep.now.bench.following c.args.sweep.now.parts.swept.now c.args.opened.now c.args.self.now.moments.items) c.from_residual.result c.from_residual.ensures.1

pub returns-in_err-row-clause-stopped : goal.returns-in_err-row-clause-stopped
returns-in_err-row-clause-stopped g c = passed (StopsNaming (g.R.Runs.is_seen c.args.sweep.now.bench.runs.now) (g.R.Runs.at_limit c.args.sweep.now.bench.runs.now) c.args.sweep.now.bench.following c.args.sweep.now.parts.swept.now c.args.opened.now c.args.self.now.moments.items) (StopsNaming (g.R.Runs.is_seen c.args.sweep.now.bench.runs.now) (g.R.Runs.at_limit c.args.sweep.now.bench.runs.now) c.args.sweep.now.bench.following c.args.sweep.now.parts.swept.now c.args.opened.now c.args.self.now.moments.items) c.from_residual-in_err-row.result c.in_err-row.field-0.0 c.from_residual-in_err-row.ensures.1 (λ h. h) c.in_err-row.ensures.stopped

pub returns-in_err-push-clause-stopped : goal.returns-in_err-push-clause-stopped
returns-in_err-push-clause-stopped g c = no_memory (StopsNaming (g.R.Runs.is_seen c.args.sweep.now.bench.runs.now) (g.R.Runs.at_limit c.args.sweep.now.bench.runs.now) c.args.sweep.now.bench.following c.args.sweep.now.parts.swept.now c.args.opened.now c.args.self.now.moments.items) c.from_residual-in_err-push.result c.from_residual-in_err-push.ensures.1
