use Rattle.std.proofs.Common.{◌∙◌, ap, refl}
use Rattle.bench_top.specs.Judged.{verdict_ending}
use Rattle.bench_top.proofs.Calling.{ends_so}
use Rattle.bench_top.proofs.Judging.{forgot_of, left_empty}
use Rattle.bench_top.proofs.Promised.{empty_keeps}
use Rattle.bench_top.proofs.top.say_verdict.Goals as goal

pub returns-in-Ok-clause-concludes : goal.returns-in-Ok-clause-concludes
returns-in-Ok-clause-concludes g c = λ devices judgement ends.
    let none = ap (λ w. w.entries) c.empty.ensures in
    c.finish.ensures.concludes devices judgement
    (ends_so devices judgement (verdict_ending c.args.verdict) _ _ _ c.verdict_status.ensures.status (c.as_bytes.ensures.value ∙ c.as_str.ensures.value ∙ c.in-Ok.ensures) none ends) (empty_keeps devices judgement _ none)

pub returns-in-Ok-clause-journal : goal.returns-in-Ok-clause-journal
returns-in-Ok-clause-journal g c = ap (λ w. w.entries) c.finish.ensures.journal ∙ ap (λ w. w.entries) c.empty.ensures

pub returns-in-Err-clause-concludes : goal.returns-in-Err-clause-concludes
returns-in-Err-clause-concludes g c = λ devices judgement ends.
    forgot_of devices judgement _ _ c.no_memory.ensures.status refl refl (left_empty devices judgement _ c.no_memory.ensures.journal) (c.no_memory.ensures.keeps devices judgement)
