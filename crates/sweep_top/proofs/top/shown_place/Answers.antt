use Rattle.std.proofs.Common.{◌-◌}
use Rattle.sweep_trials.specs.Stops.{StopsPair, StopsShown}
use Rattle.sweep_top.specs.Reported.{IsAtLimit, IsReported}
use Rattle.sweep_top.specs.Sweeps.{Show, Shows, Stops, file_of, flat_ending}
use Rattle.sweep_top.proofs.Concluding.{ends_so, stop_told}
use Rattle.sweep_top.proofs.top.shown_place.Goals as goal

pub returns-in-Ok : goal.returns-in-Ok
returns-in-Ok c =
    let sweep = c.args.sweep.now in
    let once = rw c.saturating_sub.ensures at c.in-Ok.ensures.once in
    let twice = rw c.saturating_sub.ensures at c.in-Ok.ensures.twice in
    λ marks opened steps.
    let f = file_of sweep.bench.runs.now.configuration.now c.args.script.now marks sweep.parts sweep.bench.following in
    ends_so c.args.asked f c.shown_flat.result (flat_ending f.configuration f.script c.in-Ok.found) c.shown_flat.ensures (Shows sweep.bench.following c.args.opened.now c.args.place c.in-Ok.found c.requires opened steps (record { once = once; twice = twice }))

pub returns-in-Err : goal.returns-in-Err
returns-in-Err c =
    let sweep = c.args.sweep.now in
    let o = c.args.opened.now in
    let text = sweep.bench.runs.now.configuration.now in
    let once = rw c.saturating_sub.ensures at c.in-Err.ensures.stopped_once in
    let twice = rw c.saturating_sub.ensures at c.in-Err.ensures.stopped_twice in
    λ marks opened steps m.
    Stops c.in-Err.stop (Show sweep.bench.following o c.args.place c.requires opened steps
    (record {
      once = λ z. stop_told (StopsShown (IsReported text) (IsAtLimit text) sweep.bench.following sweep.parts.swept.now sweep.parts.behind.now o (c.args.place - 1)) c.in-Err.stop m (once z);
      twice = λ s. stop_told (StopsPair (IsReported text) (IsAtLimit text) sweep.bench.following sweep.parts.swept.now sweep.parts.second.now sweep.parts.behind.now o (c.args.place - 1)) c.in-Err.stop m (twice s);
    }))
