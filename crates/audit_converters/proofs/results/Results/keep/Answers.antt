use Rattle.audit_converters.proofs.Terms.{group_of, held_skip, HoldResults, listed, place_in, samples_of, subst, sym, with_round_of, ◌∷◌}
use Rattle.audit_converters.proofs.results.Results.keep.Goals as goal

pub returns-then-number-lt16 : goal.returns-then-number-lt16
returns-then-number-lt16 c results holds =
    let k = group_of c.args.table.now c.args.number in
    subst (λ o. HoldResults c.store.new.self (with_round_of k c.args.group.count c.args.number o (listed c.args.values) results)) (sym c.in-Some.is)
    (subst (λ n. HoldResults c.store.new.self (record { group = c.args.number; buffer = c.in-Some.buffer; place = n; step = samples_of k; values = listed c.args.values } ∷ results)) c.place_in-place.ensures
    (subst (λ n. HoldResults c.store.new.self (record { group = c.args.number; buffer = c.in-Some.buffer; place = c.place_in-place.result; step = n; values = listed c.args.values } ∷ results)) c.samples_of.ensures (c.store.ensures results holds)))

pub returns-else-number-lt16 : goal.returns-else-number-lt16
returns-else-number-lt16 c results holds =
    let k = group_of c.args.table.now c.args.number in
    subst (λ o. HoldResults c.args.self.now (with_round_of k c.args.group.count c.args.number o (listed c.args.values) results)) (sym c.in-Some.is)
    (held_skip c.args.self.now results c.args.number c.in-Some.buffer (place_in k c.args.group.count) (samples_of k) (listed c.args.values) c.if-number-lt16.false holds)
