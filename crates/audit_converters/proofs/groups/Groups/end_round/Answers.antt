use Rattle.audit_converters.proofs.Terms.{ap, group_as, group_at, group_of, GroupKept, kept_of, length-append, listed, newest_is, place_in, samples_of, status_after, sym, with_values, [], ◌+◌, ◌==◌, ◌∙◌, ◌∷◌}
use Rattle.audit_converters.proofs.groups.Groups.end_round.Goals as goal

pub returns-clause-is : goal.returns-clause-is
returns-clause-is c s h =
    let k = group_of c.args.table.now c.args.group in
    let x = group_at s c.args.group in
    let y = group_as c.at-found.result in
    let vs = listed c.args.values in
    let st = status_after (place_in k (kept_of x).count + 1 == samples_of k) x.status in
    c.set.ensures.is s (with_values k x vs) (c.count.ensures.is s h)
    (ap (λ z. record y { status = z; count = y.count + 1; newest = vs })
    (c.after_round.ensures
    ∙ (ap (λ n. status_after (n + 1 == c.samples_of-samples.result) y.status) c.place_in-place.ensures
    ∙ ap (λ n. status_after (place_in k y.count + 1 == n) y.status) c.samples_of-samples.ensures))
    ∙ (ap (λ (z : GroupKept). record z { status = status_after (place_in k z.count + 1 == samples_of k) z.status; count = z.count + 1; newest = vs }) (c.at-found.ensures.is s h)
    ∙ (ap (λ n. record (kept_of x) { status = st; count = n; newest = vs }) (sym (length-append x.rounds (vs ∷ [])))
    ∙ ap (λ zs. record (kept_of (with_values k x vs)) { newest = zs }) (sym (newest_is x.rounds vs)))))
