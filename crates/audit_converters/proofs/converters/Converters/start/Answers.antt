use Rattle.audit_converters.proofs.Terms.{ap, comes_whole, ComesIf, ConvertersKept, leaves_results, None, number_of, Stands, StandsFor, Starts, starts_on, subst, sym, ◌∙◌}
use Rattle.audit_converters.proofs.converters.Converters.start.Goals as goal

pub returns-in-Some-clause-is : goal.returns-in-Some-clause-is
returns-in-Some-clause-is c w s by received at h =
    let v = subst (λ (k : ConvertersKept). StandsFor k s) (sym c.self.view_is) h in
    let table = ap (λ (k : ConvertersKept). k.table) c.self.view_is in
    let t : ConvertersKept = record { table = c.self.inside.table; groups = c.self.inside.groups; results = c.self.inside.results } in
    let known = sym c.in-Some.is ∙ c.number_of.ensures in
    let N = record t { groups = c.start.new.self } in
    subst (λ d. ComesIf (StandsFor N) c.start.result (starts_on d w s (number_of c.args.unit))) table
    (comes_whole t c.start.new.self s c.start.result (starts_on t.table w s (number_of c.args.unit)) v
    (subst (λ u. ComesIf (Stands c.start.new.self) c.start.result (starts_on t.table w s u)) known (c.start.ensures.is w s at v.groups))
    (λ out e. leaves_results t.table w s (Starts c.args.unit by received) out e tt))

pub returns-in-None-clause-is : goal.returns-in-None-clause-is
returns-in-None-clause-is c w s by received at h = subst (λ u. ComesIf (StandsFor c.args.self.now) None (starts_on c.args.self.now.table w s u)) (sym c.in-None.is ∙ c.number_of.ensures) tt
