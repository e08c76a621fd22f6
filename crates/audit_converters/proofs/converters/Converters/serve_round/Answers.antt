use Rattle.audit_converters.proofs.Terms.{AdcState, ap, ConvertersKept, finish_of, gives, Gives, group_at, group_of, GroupKept, HoldResults, listed, nat_le, None, notes, refl, round_as, served_results, served_round, served_values, Some, StandsFor, subst, sym, with_round_of, ◌∙◌}
use Rattle.audit_converters.proofs.converters.Converters.serve_round.Goals as goal

pub values_of-values-requires : goal.values_of-values-requires
values_of-values-requires c = ap (λ (k : ConvertersKept). nat_le (finish_of (group_of k.table c.args.round.group) (round_as c.args.round)) c.args.now) c.self.view_is ∙ c.requires.finished

pub returns-clause-is : goal.returns-clause-is
returns-clause-is c w s took h =
    let v = subst (λ (k : ConvertersKept). StandsFor k s) (sym c.self.view_is) h in
    let table = ap (λ (k : ConvertersKept). k.table) c.self.view_is in
    let t : ConvertersKept = record { table = c.self.inside.table; groups = c.self.inside.groups; results = c.self.inside.results } in
    let d = t.table in
    let r = round_as c.args.round in
    let k = group_of d r.group in
    let x = group_at s r.group in
    let vs = listed c.values_of-values.result in
    let known = c.values_of-values.ensures w took in
    let found = c.at-found.ensures.is s v.groups in
    let out : AdcState = served_values d s c.args.unit r vs in
    let held = subst (λ (y : GroupKept). HoldResults c.keep.new.self (with_round_of k y.count r.group y.chosen vs s.results)) found (c.keep.ensures s.results v.results) in
    let N = record t { groups = c.serve_round.new.self; results = c.keep.new.self } in
    subst (λ e. Gives (StandsFor N) c.notes.result (served_round e w s c.args.unit (Some r))) table
    (subst (λ zs. Gives (StandsFor N) c.notes.result (record { state = served_values d s c.args.unit r zs; told = gives (notes x.notification r.group); begins = None })) known
    (record {
      told = c.notes.ensures ∙ ap (λ (y : GroupKept). gives (notes y.notification r.group)) found;
      wordless = refl;
      kept = record {
        groups = c.serve_round.ensures.is s v.groups;
        results = subst (λ rs. HoldResults c.keep.new.self rs) (sym (served_results d s c.args.unit r vs)) held;
      };
    }))
