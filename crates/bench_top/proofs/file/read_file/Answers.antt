use Rattle.std.proofs.Common.{◌∙◌, Err, ap, sym}
use Rattle.std.proofs.lemmas.Result.{err_from_is_err_and}
use Rattle.bench_top.specs.Judged.{judged_file}
use Rattle.bench_top.specs.declared.file.FileEnd.TheVariants.{Refused}
use Rattle.bench_top.proofs.Judging.{same_end}
use Rattle.bench_top.proofs.file.read_file.Goals as goal

pub returns-in_err-script-clause-refused : goal.returns-in_err-script-clause-refused
returns-in_err-script-clause-refused c =
    let p = err_from_is_err_and c.from_residual-in_err-script.result c.from_residual-in_err-script.ensures.1 in
    λ refusal e task. ap (judged_file task) (sym (rw c.in-Some.is at c.split_file.ensures.parts))
    ∙ (c.in_ok-config.ensures.read _ task ∙ c.in_err-script.ensures.refused refusal (same_end _ p.0 (Refused refusal) _ p.1 e (ap (λ x. Err x) (sym p.2))) task _)
