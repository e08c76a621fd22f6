use Rattle.audit_converters.proofs.Terms.{acts, Acts, ap, ConvertersKept, Gives, gives_whole, leaves_results, refl, StandsFor, subst, sym}
use Rattle.audit_converters.proofs.converters.Converters.act.Goals as goal

pub returns-clause-is : goal.returns-clause-is
returns-clause-is c w s committed h =
    let v = subst (λ (k : ConvertersKept). StandsFor k s) (sym c.self.view_is) h in
    let table = ap (λ (k : ConvertersKept). k.table) c.self.view_is in
    let t : ConvertersKept = record { table = c.self.inside.table; groups = c.self.inside.groups; results = c.self.inside.results } in
    let out = acts t.table s c.args.call in
    subst (λ d. Gives (StandsFor (record t { groups = c.act.new.self })) c.act.result (acts d s c.args.call)) table
    (gives_whole t c.act.new.self s c.act.result out v (c.act.ensures.is s v.groups) (leaves_results t.table w s (Acts c.args.call committed) out refl tt))
