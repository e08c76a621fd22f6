use Rattle.std.proofs.Common.{◌≡◌, ◌∙◌, ap, subst}
use Rattle.bench_sweep.specs.Flat.{lines_of, numbered_from}
use Rattle.sweep_trials.proofs.Grown.{nothing_put}
use Rattle.sweep_trials.proofs.laws.without_reactions_is_plain.Goals as goal

pub returns : goal.returns
returns g c = λ runs following first found none seen.
    let same : found.directives.items ≡ first = nothing_put following none seen.grown in
    let script : found.flat.script.items ≡ numbered_from 1 first = seen.script ∙ ap (λ ds. numbered_from 1 ds) same in
    (script, seen.lines ∙ ap (λ ds. lines_of ds) same, subst (λ ds. g.R.Runs.is_seen runs ds found.seen) script seen.run)
