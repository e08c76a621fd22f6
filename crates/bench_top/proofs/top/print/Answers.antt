use Rattle.std.proofs.Common.{ap, refl, ◌∙◌}
use Rattle.bench_top.specs.Judged.{Prints}
use Rattle.bench_top.proofs.Promised.{empty_keeps}
use Rattle.bench_top.proofs.top.print.Goals as goal

pub returns-clause-concludes : goal.returns-clause-concludes
returns-clause-concludes g c = λ devices. rw c.as_bytes.ensures.value at (c.finish.ensures.concludes devices (Prints (record { status = c.args.status; text = c.as_bytes.result.now })) (refl, ap (λ w. w.entries) c.empty.ensures) tt)

pub returns-clause-keeps : goal.returns-clause-keeps
returns-clause-keeps g c devices judgement = empty_keeps devices judgement c.finish.result.journal.entries (ap (λ w. w.entries) c.finish.ensures.journal ∙ ap (λ w. w.entries) c.empty.ensures)
