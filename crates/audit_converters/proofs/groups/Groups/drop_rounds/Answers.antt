use Rattle.audit_converters.proofs.Terms.{ap, both_units, Kept, round_at, Stands, subst, sym, unless_of, ◌∙◌}
use Rattle.audit_converters.proofs.groups.Groups.drop_rounds.Goals as goal

pub returns-clause-is : goal.returns-clause-is
returns-clause-is c s h =
    let v = subst (λ (k : Kept). Stands k s) (sym c.self.view_is) h in
    let g = c.args.group in
    record {
      initialised = v.initialised;
      groups = v.groups;
      units = both_units c.unless_of-first.result c.unless_of-second.result (unless_of g (round_at s 0)) (unless_of g (round_at s 1))
          (c.unless_of-first.ensures ∙ ap (unless_of g) (c.round.ensures s h)) (c.unless_of-second.ensures ∙ ap (unless_of g) (c.round-2.ensures s h));
      marks = v.marks;
      requests = v.requests;
    }
