use Rattle.std.proofs.Common.{◌++◌, [], ◌∷◌, Some, true, false}
use Rattle.module_machines.specs.icu.Machine.{Capture, completes}
use Rattle.audit_captures.specs.Stands.{edge_of, capture_of}
use Rattle.audit_captures.proofs.ChannelLaws.{changed-same, same-follows}
use Rattle.audit_captures.proofs.capture.Capture.measured.Goals as goal

pub returns-clause-is : goal.returns-clause-is
returns-clause-is c es stored f =
    let e = edge_of c.args.edge in
    let more = es ++ e ∷ [] in
    changed-same (λ (x : Capture). record x { active = true; handed_out = false }) c.completes-complete.result (completes c.args.channel es e) (capture_of c.marked.result more stored)
    (capture_of c.followed.result more stored) (record (capture_of c.args.self es stored) { served = more })
    (c.marked.ensures.is more stored) (c.followed.ensures.is es more stored) (c.completes-complete.ensures es f)

pub returns-clause-follows : goal.returns-clause-follows
returns-clause-follows c es f = same-follows (Some c.args.channel) c.followed.result c.marked.result (es ++ edge_of c.args.edge ∷ []) c.marked.ensures.same (c.followed.ensures.follows es f)
