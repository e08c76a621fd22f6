use Rattle.sweep_trials.proofs.Grown.{put_behind}
use Rattle.sweep_trials.proofs.followed.put_call.Goals as goal

pub returns : goal.returns
returns c =
    let found = c.args.found.now in
    let cut = c.in_ok-cut in
    put_behind c.args.calls.now c.args.directives.now found.steps.items found.directive found.made found.reaction c.reaction_at-reaction.result.now cut.cut.up.items cut.cut.on.items c.joined.result c.reaction_at-reaction.ensures cut.ensures.up (rw c.deref.ensures.value at cut.ensures.on) c.joined.ensures
