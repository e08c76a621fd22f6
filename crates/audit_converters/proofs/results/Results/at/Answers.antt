use Rattle.audit_converters.proofs.Terms.{ap, arith, get_or_default_zero, length, result_at, slice_index_or, ◌<◌, ◌∙◌}
use Rattle.audit_converters.proofs.results.Results.at.Goals as goal

pub returns : goal.returns
returns c results holds =
    let words = c.self.inside.words.items in
    let there : c.place_of.result < length words = omega (arith, c.self.invariant, c.place_of.ensures.small) in
    c.index.ensures
    ∙ (get_or_default_zero words c.place_of.result c.index.result.now there
    ∙ (ap (λ n. slice_index_or words n 0) c.place_of.ensures.is
    ∙ (ap (λ ws. slice_index_or ws (result_at c.args.group c.args.buffer c.args.place) 0) c.self.view_is
    ∙ holds c.args.group c.args.buffer c.args.place c.requires.group c.requires.place)))
