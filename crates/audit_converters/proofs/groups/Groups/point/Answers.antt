use Rattle.audit_converters.proofs.Terms.{answers, ap, Gives, group_at, group_of, GroupKept, is_busy, min, numbers, place_in, points_busy, points_other, refl, samples_of, Stands, subst, sym, [], ◌-◌, ◌∙◌, ◌∷◌}
use Rattle.audit_converters.proofs.groups.Groups.point.Goals as goal

pub returns-then-is_busy-clause-is : goal.returns-then-is_busy-clause-is
returns-then-is_busy-clause-is c s h =
    let g = c.args.group in
    let known = sym (c.is_busy.ensures ∙ ap (λ (y : GroupKept). is_busy y.status) (c.at-found.ensures.is s h)) ∙ c.if-is_busy.true in
    subst (λ out. Gives (Stands c.args.self.now) c.with_answer.result out) (points_busy c.args.table.now s g (group_at s g).status known)
    (record { told = c.with_answer.ensures ∙ ap answers c.no_pointer.ensures; wordless = refl; kept = h })

pub returns-else-is_busy-clause-is : goal.returns-else-is_busy-clause-is
returns-else-is_busy-clause-is c s h =
    let g = c.args.group in
    let k = group_of c.args.table.now g in
    let n = c.at-found.result.count in
    let fresh = c.at-found.ensures.is s h in
    let known = sym (c.is_busy.ensures ∙ ap (λ (y : GroupKept). is_busy y.status) fresh) ∙ c.if-is_busy.false in
    subst (λ out. Gives (Stands c.read_from.new.self) c.with_answer-else-is_busy.result out) (points_other c.args.table.now s g (group_at s g).status known)
    (record {
      told = c.with_answer-else-is_busy.ensures ∙ ap answers (c.numbers.ensures
          ∙ (ap (λ m. numbers (m ∷ c.place_in-place.result ∷ [])) (c.min-rounds.ensures ∙ ap (min n) c.samples_of.ensures)
          ∙ (ap (λ m. numbers (min n (samples_of k) ∷ m ∷ [])) (c.place_in-place.ensures ∙ ap (place_in k) c.saturating_sub.ensures)
          ∙ ap (λ (y : GroupKept). numbers (min y.count (samples_of k) ∷ place_in k (y.count - 1) ∷ [])) fresh)));
      wordless = refl;
      kept = c.read_from.ensures.is s h;
    })
