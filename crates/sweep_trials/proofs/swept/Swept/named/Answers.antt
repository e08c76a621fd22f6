use Rattle.std.proofs.Common.{◌≡◌, ◌+◌, ◌∙◌, Some, ap, arith, min, subst, sym}
use Rattle.std.specs.Prelude.{slice_get, string_bytes}
use Rattle.std.proofs.lemmas.Option.{same_Some, slice_get_within}
use Rattle.sweep_trials.proofs.Stopping.{passed}
use Rattle.sweep_trials.specs.Names.{IsNameBy}
use Rattle.sweep_trials.specs.Stops.{StopsName, StopsNaming}
use Rattle.sweep_trials.specs.declared.sweeping.Moment.{Moment}
use Rattle.sweep_trials.proofs.swept.Swept.named.Goals as goal

pub returns-then-len-place-clause-number : goal.returns-then-len-place-clause-number
returns-then-len-place-clause-number g c = λ m e. absurd (omega (arith, slice_get_within c.args.self.now.moments.items c.args.place m e, c.if-len-place.true, c.len.ensures, c.args.self.now.moments.ok.0))

pub returns-then-len-place-clause-name : goal.returns-then-len-place-clause-name
returns-then-len-place-clause-name g c = λ m e. absurd (omega (arith, slice_get_within c.args.self.now.moments.items c.args.place m e, c.if-len-place.true, c.len.ensures, c.args.self.now.moments.ok.0))

pub returns-clause-number : goal.returns-clause-number
returns-clause-number g c =
    let moment = c.moment_at-moment.result in
    let told : slice_get c.args.self.now.moments.items c.args.place ≡ Some moment = rw c.deref.ensures.value at c.moment_at-moment.ensures in
    λ m e. c.saturating_add.ensures ∙ ap (λ (x : Moment). min (x.number + 1) 18446744073709551615) (same_Some moment m (sym told ∙ e))

pub returns-clause-name : goal.returns-clause-name
returns-clause-name g c =
    let sweep = c.args.sweep.now in
    let moment = c.moment_at-moment.result in
    let told : slice_get c.args.self.now.moments.items c.args.place ≡ Some moment = rw c.deref.ensures.value at c.moment_at-moment.ensures in
    λ m e. subst (λ (x : Moment). IsNameBy (g.R.Runs.is_seen sweep.bench.runs.now) sweep.bench.following sweep.parts.swept.now c.args.opened.now x.first x.second (string_bytes c.in_ok-name.name)) (same_Some moment m (sym told ∙ e)) c.in_ok-name.ensures.name

pub returns-in_err-name-clause-stopped : goal.returns-in_err-name-clause-stopped
returns-in_err-name-clause-stopped g c =
    let moment = c.moment_at-moment.result in
    let told : slice_get c.args.self.now.moments.items c.args.place ≡ Some moment = rw c.deref.ensures.value at c.moment_at-moment.ensures in
    passed (StopsName (g.R.Runs.is_seen c.args.sweep.now.bench.runs.now) (g.R.Runs.at_limit c.args.sweep.now.bench.runs.now) c.args.sweep.now.bench.following c.args.sweep.now.parts.swept.now c.args.opened.now moment) (StopsNaming (g.R.Runs.is_seen c.args.sweep.now.bench.runs.now) (g.R.Runs.at_limit c.args.sweep.now.bench.runs.now) c.args.sweep.now.bench.following c.args.sweep.now.parts.swept.now c.args.opened.now c.args.self.now.moments.items) c.from_residual.result c.in_err-name.field-0.0 c.from_residual.ensures.1 (λ h. record { number = c.args.place; moment = moment; told = told; name = h }) c.in_err-name.ensures.stopped
