use Rattle.std.proofs.Common.{ap, false, [], ◌∙◌}
use Rattle.module_machines.specs.icu.Machine.{Capture}
use Rattle.audit_captures.proofs.capture.Capture.cleared.Goals as goal

pub returns-clause-is : goal.returns-clause-is
returns-clause-is c es stored =
    ap (λ (x : Capture). record x { notification = false; activation = c.args.channel.start_edge; active = false; count = 0 })
    (c.unserved.ensures.is es stored ∙ ap (λ (x : Capture). record x { served = []; handed_out = false }) (c.switched.ensures.is es stored))
