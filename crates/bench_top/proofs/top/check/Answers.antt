use Rattle.bench_top.proofs.top.check.Goals as goal

pub returns-in-Ok : goal.returns-in-Ok
returns-in-Ok g c = λ devices. rw (c.as_str.ensures.value, c.in-Ok.ensures) at (c.print.ensures.concludes devices)
