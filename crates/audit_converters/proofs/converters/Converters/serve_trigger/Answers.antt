use Rattle.audit_converters.proofs.Terms.{ap, ConvertersKept, Gives, gives_whole, outcome, refl, served_trigger, StandsFor, subst, sym, tells_nothing, trigger_leaves}
use Rattle.audit_converters.proofs.converters.Converters.serve_trigger.Goals as goal

pub returns-clause-is : goal.returns-clause-is
returns-clause-is c s h =
    let v = subst (λ (k : ConvertersKept). StandsFor k s) (sym c.self.view_is) h in
    let table = ap (λ (k : ConvertersKept). k.table) c.self.view_is in
    let t : ConvertersKept = record { table = c.self.inside.table; groups = c.self.inside.groups; results = c.self.inside.results } in
    let out = outcome (served_trigger t.table s c.args.input) tells_nothing in
    subst (λ d. Gives (StandsFor (record t { groups = c.serve_trigger.new.self })) c.nothing.result (outcome (served_trigger d s c.args.input) tells_nothing)) table
    (gives_whole t c.serve_trigger.new.self s c.nothing.result out v (record { told = c.nothing.ensures; wordless = refl; kept = c.serve_trigger.ensures.is s v.groups }) (trigger_leaves t.table s c.args.input))
