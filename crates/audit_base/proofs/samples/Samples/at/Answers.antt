use Rattle.std.proofs.Common.{ap, arith, length, refl, sym, ◌<◌, ◌∙◌}
use Rattle.std.proofs.lemmas.Option.{slice_get_past, slice_get_read}
use Rattle.audit_base.specs.Inputs.{level_before, level_of}
use Rattle.audit_base.proofs.samples.Samples.at.Goals as goal

pub returns-then-place-len : goal.returns-then-place-len
returns-then-place-len c taken took =
    let items = c.args.self.now.inputs.items in
    let i = c.args.input in
    let t = c.args.time in
    let there : i < length items = omega (arith, c.args.self.now.inputs.ok.0) in
    c.last_before.ensures
    ∙ (ap (λ xs. level_before xs t) c.deref.ensures.value
    ∙ (ap (λ o. level_of o t) (sym (slice_get_read items (length items) i c.index.result.now refl there c.index.ensures)) ∙ took.levels i t))

pub returns-else-place-len : goal.returns-else-place-len
returns-else-place-len c taken took =
    sym (ap (λ o. level_of o c.args.time) (slice_get_past c.args.self.now.inputs.items c.args.input (omega (arith, c.args.self.now.inputs.ok.0)))) ∙ took.levels c.args.input c.args.time
