use Rattle.std.proofs.Common.{◌∙◌}
use Rattle.bench_script.proofs.Fronts.{by_front}
use Rattle.bench_script.proofs.services.service_named.Goals as goal

pub returns-in-len1-up : goal.returns-in-len1-up
returns-in-len1-up c = c.named.ensures ∙ by_front c.services_under.result.now c.args.word.now c.in-len1-up.len_at_least c.services_under.ensures
