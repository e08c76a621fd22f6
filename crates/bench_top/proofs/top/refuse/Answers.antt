use Rattle.std.proofs.Common.{◌∙◌}
use Rattle.bench_top.specs.Judged.{ending_of}
use Rattle.bench_top.proofs.Judging.{printed_as}
use Rattle.bench_top.proofs.top.refuse.Goals as goal

pub returns-in-Ok : goal.returns-in-Ok
returns-in-Ok g c = λ devices. printed_as devices (ending_of c.args.refusal) _ _ _ _ c.status.ensures.status (c.as_str.ensures.value ∙ c.in-Ok.ensures) (c.print.ensures.concludes devices)
