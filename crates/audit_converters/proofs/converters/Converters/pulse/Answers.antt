use Rattle.audit_converters.proofs.Terms.{ap, ConvertersKept, Gives, gives_whole, leaves_results, Moves, outcome, pulsed, refl, StandsFor, subst, sym, tells_nothing, Trigger}
use Rattle.audit_converters.proofs.converters.Converters.pulse.Goals as goal

pub returns-clause-is : goal.returns-clause-is
returns-clause-is c w s h =
    let v = subst (λ (k : ConvertersKept). StandsFor k s) (sym c.self.view_is) h in
    let table = ap (λ (k : ConvertersKept). k.table) c.self.view_is in
    let t : ConvertersKept = record { table = c.self.inside.table; groups = c.self.inside.groups; results = c.self.inside.results } in
    let out = outcome (pulsed t.table s c.args.input) tells_nothing in
    subst (λ d. Gives (StandsFor (record t { groups = c.pulse.new.self })) tells_nothing (outcome (pulsed d s c.args.input) tells_nothing)) table
    (gives_whole t c.pulse.new.self s tells_nothing out v (record { told = refl; wordless = refl; kept = c.pulse.ensures.is s v.groups }) (leaves_results t.table w s (Moves (Trigger c.args.input)) out refl tt))
