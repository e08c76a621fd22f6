use Rattle.std.proofs.Common.{arith, length, length-set, refl, ◌<◌, ◌∙◌}
use Rattle.std.proofs.lemmas.Option.{slice_get_read}
use Rattle.audit_base.proofs.Last.{levels_more}
use Rattle.audit_base.proofs.samples.Samples.take.Goals as goal

pub returns : goal.returns
returns c taken took =
    let items = c.args.self.now.inputs.items in
    let i = c.args.input in
    let before = c.index_mut.result.now in
    let new = c.push.new.self in
    let there : i < length items = omega (arith, took.size, c.requires) in
    record {
      size = length-set items i new ∙ took.size;
      levels = levels_more items taken i c.args.since c.args.value before new there (slice_get_read items (length items) i before refl there c.index_mut.ensures.value) c.in_ok-push.ensures.items took.levels;
    }

pub returns-then-place-len : goal.returns-then-place-len
returns-then-place-len c taken took = absurd (omega (arith, took.size, c.requires, c.args.self.now.inputs.ok.0))
