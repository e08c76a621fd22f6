use Rattle.std.proofs.Common.{ℕ, ap, ◌∙◌, ◌+◌, ◌++◌, [], ◌∷◌, Some, false}
use Rattle.std.specs.Prelude.{if◌then◌else◌, option_map}
use Rattle.module_machines.specs.icu.Machine.{Capture, switched, is_full, index_by}
use Rattle.audit_captures.specs.Stands.{edge_of, capture_of, start_of}
use Rattle.audit_captures.proofs.ChannelLaws.{changed-same, same-follows}
use Rattle.audit_captures.proofs.capture.Capture.stamped.Goals as goal

pub returns-clause-is : goal.returns-clause-is
returns-clause-is c es stored f =
    let k = c.args.channel in
    let start = option_map start_of c.args.self.start in
    let more = es ++ edge_of c.args.edge ∷ [] in
    let now : ℕ → Capture = λ n. record (capture_of c.args.self es stored) { served = more; stored = record { place = index_by k start n; time = c.args.edge.time } ∷ stored } in
    let times = (now c.args.self.served).stored in
    changed-same (switched false) c.is_full-full.result (is_full k start (c.args.self.served + 1)) (capture_of c.stopped.result more times) (capture_of c.followed.result more times) (now c.args.self.served)
    (c.stopped.ensures.is more times) (c.followed.ensures.is es more times) c.is_full-full.ensures
    ∙ ap (λ n. if is_full k start (n + 1) then switched false (now n) else now n) f.count

pub returns-clause-follows : goal.returns-clause-follows
returns-clause-follows c es f = same-follows (Some c.args.channel) c.followed.result c.stopped.result (es ++ edge_of c.args.edge ∷ []) c.stopped.ensures.same (c.followed.ensures.follows es f)
