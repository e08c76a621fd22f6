use Rattle.audit_converters.proofs.Terms.{all_groups_stand, group_at, Kept, no_marks, no_rounds, refl, Stands, subst, sym, untouched}
use Rattle.audit_converters.proofs.groups.Groups.close.Goals as goal

pub returns-clause-is : goal.returns-clause-is
returns-clause-is c s h =
    let v = subst (λ (k : Kept). Stands k s) (sym c.self.view_is) h in
    record {
      initialised = refl;
      groups = all_groups_stand (λ g. record untouched { chosen = (group_at s g).chosen })
          c.closed.result c.closed-2.result c.closed-3.result c.closed-4.result c.closed-5.result c.closed-6.result c.closed-7.result c.closed-8.result
          c.closed-9.result c.closed-10.result c.closed-11.result c.closed-12.result c.closed-13.result c.closed-14.result c.closed-15.result c.closed-16.result
          (c.closed.ensures.is s h) (c.closed-2.ensures.is s h) (c.closed-3.ensures.is s h) (c.closed-4.ensures.is s h) (c.closed-5.ensures.is s h) (c.closed-6.ensures.is s h) (c.closed-7.ensures.is s h) (c.closed-8.ensures.is s h)
          (c.closed-9.ensures.is s h) (c.closed-10.ensures.is s h) (c.closed-11.ensures.is s h) (c.closed-12.ensures.is s h) (c.closed-13.ensures.is s h) (c.closed-14.ensures.is s h) (c.closed-15.ensures.is s h) (c.closed-16.ensures.is s h);
      units = no_rounds;
      marks = no_marks;
      requests = v.requests;
    }
