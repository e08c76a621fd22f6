use Rattle.std.proofs.Common.{◌≡◌, ℕ, List, string_bytes, subst}
use Rattle.std.specs.Prelude.{IfOk}
use Rattle.trace_forms.specs.declared.kinds.signs.Sign.{Sign}
use Rattle.trace_waves.specs.File.{waves}
use Rattle.trace_waves.specs.declared.settings.Clock.TheVariants as clocks
use Rattle.trace_drawing.proofs.program.printed.Goals as goal

pub returns-in-Changes : goal.returns-in-Changes
returns-in-Changes c =
    rw c.in-Changes.is (subst (λ (steps : ℕ). IfOk c.waves_of.result (λ text. string_bytes text ≡ waves clocks.Steps steps c.args.drawing.now.signs)) c.steps.ensures
    (subst (λ (signs : List Sign). IfOk c.waves_of.result (λ text. string_bytes text ≡ waves clocks.Steps c.steps.result signs)) c.signs.ensures c.waves_of.ensures))

pub returns-in-Times : goal.returns-in-Times
returns-in-Times c =
    rw c.in-Times.is (subst (λ (steps : ℕ). IfOk c.waves_of-in-Times.result (λ text. string_bytes text ≡ waves clocks.Ticks steps c.args.drawing.now.signs)) c.steps-in-Times.ensures
    (subst (λ (signs : List Sign). IfOk c.waves_of-in-Times.result (λ text. string_bytes text ≡ waves clocks.Ticks c.steps-in-Times.result signs)) c.signs-in-Times.ensures c.waves_of-in-Times.ensures))
