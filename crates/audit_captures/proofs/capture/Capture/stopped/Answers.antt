use Rattle.std.proofs.Common.{ap, sym, ◌∙◌, false}
use Rattle.std.specs.Prelude.{if◌then◌else◌}
use Rattle.module_machines.specs.icu.Machine.{switched}
use Rattle.audit_captures.specs.Stands.{capture_of}
use Rattle.audit_captures.proofs.capture.Capture.stopped.Goals as goal

pub returns-then-full-clause-is : goal.returns-then-full-clause-is
returns-then-full-clause-is c es stored =
    let x = capture_of c.args.self es stored in
    c.switched.ensures.is es stored ∙ ap (λ q. if q then switched false x else x) (sym c.if-full.true)
