use Rattle.std.proofs.Common.{◌-◌, List, subst}
use Rattle.std.specs.Prelude.{vec_len}
use Rattle.sweep_trials.specs.Stops.{StopsNaming, StopsOnce, StopsTwice}
use Rattle.sweep_trials.specs.Trials.{part_end}
use Rattle.sweep_trials.specs.declared.summary.Group.{Group}
use Rattle.sweep_top.specs.Reported.{IsAtLimit, IsReported}
use Rattle.sweep_top.specs.Sweeps.{Naming, PrintsSo, Stops, Tells, Trials, file_of, table_for, told_of}
use Rattle.sweep_top.proofs.Concluding.{ends_so, stop_told}
use Rattle.sweep_top.proofs.top.made.Goals as goal

pub returns-in-Err : goal.returns-in-Err
returns-in-Err g c =
    let sweep = c.args.sweep.now in
    let asked = c.args.asked in
    let o = c.args.opened.now in
    let text = sweep.bench.runs.now.configuration.now in
    λ marks opened steps m.
    Stops c.in-Err.stop (Trials sweep.bench.following o c.requires opened steps
    (record {
      once = λ z. stop_told (StopsOnce (IsReported text) (IsAtLimit text) sweep.bench.following sweep.parts.swept.now sweep.parts.behind.now o (part_end (vec_len o.all) (asked.part - 1) asked.parts) (part_end (vec_len o.all) asked.part asked.parts)) c.in-Err.stop m (c.in-Err.ensures.stopped_once z);
      twice = λ s. stop_told (StopsTwice (IsReported text) (IsAtLimit text) sweep.bench.following sweep.parts.swept.now sweep.parts.second.now sweep.parts.behind.now o) c.in-Err.stop m (c.in-Err.ensures.stopped_twice s);
    }))

pub returns : goal.returns
returns g c =
    let sweep = c.args.sweep.now in
    let o = c.args.opened.now in
    let text = sweep.bench.runs.now.configuration.now in
    let made = c.in-Ok.ensures in
    λ marks opened steps m.
    Stops c.in-Err-groups_of.stop (Naming sweep.bench.following o c.in-Ok.swept c.requires opened steps
    (record { few_once = made.few_once; few_twice = made.few_twice; once = made.once; twice = made.twice })
    (stop_told (StopsNaming (IsReported text) (IsAtLimit text) sweep.bench.following sweep.parts.swept.now o c.in-Ok.swept.moments.items) c.in-Err-groups_of.stop m c.in-Err-groups_of.ensures.stopped))

pub returns-in-Ok-groups_of : goal.returns-in-Ok-groups_of
returns-in-Ok-groups_of g c =
    let sweep = c.args.sweep.now in
    let s = c.in-Ok.swept in
    let groups = c.in-Ok-groups_of.groups.items in
    let found = c.in-Ok-groups_of.ensures in
    λ marks opened steps.
    let f = file_of sweep.bench.runs.now.configuration.now c.args.script.now marks sweep.parts sweep.bench.following in
    let told : PrintsSo c.told.result (told_of c.args.asked s (table_for f s groups)) = subst (λ (gs : List Group). PrintsSo c.told.result (told_of c.args.asked s (table_for f s gs))) c.deref.ensures.value c.told.ensures in
    ends_so c.args.asked f c.told.result (told_of c.args.asked s (table_for f s groups)) told
    (Tells sweep.bench.following c.args.opened.now s groups c.requires opened steps
    (record { few_once = c.in-Ok.ensures.few_once; few_twice = c.in-Ok.ensures.few_twice; once = c.in-Ok.ensures.once; twice = c.in-Ok.ensures.twice })
    (record { outcomes = found.outcomes; standings = found.standings; places = found.places; rows = found.rows; ranges = rw c.most_of.ensures at found.ranges; all = found.all }))
