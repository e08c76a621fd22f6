use Rattle.audit_converters.proofs.Terms.{ap, if◌then◌else◌, lt_from, lt_since, result_at, slice_set, sym, ◌∙◌}
use Rattle.audit_converters.proofs.results.Results.put.Goals as goal

pub returns-then-place-lt2048-clause-is : goal.returns-then-place-lt2048-clause-is
returns-then-place-lt2048-clause-is c =
    let words = c.args.self.now in
    let n = result_at c.args.group c.args.buffer c.args.place in
    ap (λ k. slice_set c.self.inside.words.items k c.args.value) c.place_of.ensures.is
    ∙ (ap (λ ws. slice_set ws n c.args.value) c.self.view_is
    ∙ sym (ap (λ q. if q then slice_set words n c.args.value else words) (lt_from c.args.place 2048 c.if-place-lt2048.true)))

pub returns-else-place-lt2048-clause-is : goal.returns-else-place-lt2048-clause-is
returns-else-place-lt2048-clause-is c =
    let words = c.args.self.now in
    sym (ap (λ q. if q then slice_set words (result_at c.args.group c.args.buffer c.args.place) c.args.value else words) (lt_since c.args.place 2048 c.if-place-lt2048.false))
