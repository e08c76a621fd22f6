-- When all places are done, the results are those that are read.
use Rattle.std.proofs.Common.{◌≡◌, ℕ, ◌≤◌, List, ◌∙◌, ap, arith, max}
use Rattle.chip_blocks.specs.converter.Rounds.{ended}
use Rattle.chip_blocks.specs.converter.Converters.{settled}
use Rattle.chip_blocks.specs.declared.converter.converter.Converter.{Converter}
use Rattle.chip_blocks.specs.declared.converter.converter.Levels.{Levels}
use Rattle.chip_blocks.proofs.of_converter.ConverterLaws.{SettledBelow, SettledBelow-all}
use Rattle.chip_blocks.proofs.converter.converter.Converter.settle.Goals as goal

all_done : (l : Levels) (now n s e : ℕ) (old new : Converter) → s ≡ ended old.round l.since → e ≡ ended old.round now
    → s ≤ n → e ≤ n → n ≤ max (ended old.round l.since) (ended old.round now)
    → new ≡ record old { results = new.results } → SettledBelow l old n new.results → new ≡ settled l now old
all_done l now n s e old new first past from to within others done =
    others
    ∙ ap (λ (r : List ℕ). record old { results = r })
    (SettledBelow-all l now n old new.results (omega (arith, first)) (omega (arith, past)) within done)

pub returns : goal.returns
returns c =
    all_done c.args.levels.now c.args.now c.loop-place.place c.ended-place.result c.ended-place-end.result c.args.self.now c.loop-place.self
    c.ended-place.ensures.value c.ended-place-end.ensures.value (omega arith) (omega arith)
    c.loop-place.invariant.within c.loop-place.invariant.others c.loop-place.invariant.done
