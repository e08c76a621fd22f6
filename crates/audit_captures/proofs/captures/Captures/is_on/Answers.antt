use Rattle.std.proofs.Common.{ap, sym, ◌∙◌}
use Rattle.module_machines.specs.icu.Machine.{is_on}
use Rattle.audit_captures.specs.declared.capture.Capture as kept
use Rattle.audit_captures.proofs.ModuleLaws.{on-same}
use Rattle.audit_captures.proofs.captures.Captures.is_on.Goals as goal

pub returns-in-Channel : goal.returns-in-Channel
returns-in-Channel c s h =
    ap (λ (y : kept.Capture). y.on) c.at.ensures.is
    ∙ (on-same c.args.self.now s c.in-Channel.number c.at.ensures.size h.few h.channels ∙ ap (λ call. is_on s call) (sym c.in-Channel.is))
