use Rattle.std.proofs.Common.{◌∙◌, [], ap, subst, sym}
use Rattle.std.specs.Prelude.{IfOk, IfErr}
use Rattle.bench_top.specs.Judged.{IsRefusedBy, Judgement, audited_by, verdict_ending}
use Rattle.bench_top.specs.Outcomes.{Ends}
use Rattle.bench_top.proofs.Judging.{few_audited}
use Rattle.bench_top.proofs.audited.audited.Goals as goal

pub returns-in-Ok-clause-judged : goal.returns-in-Ok-clause-judged
returns-in-Ok-clause-judged c =
    let is = few_audited c.args.bytes.now c.requires ∙ ap audited_by c.in-Ok.ensures.parts in
    subst (λ (j : Judgement). IfOk c.verdict_on.result (λ verdict. Ends c.args.devices j (verdict_ending verdict) [])) (sym is) c.verdict_on.ensures.judged

pub returns-in-Ok-clause-refused : goal.returns-in-Ok-clause-refused
returns-in-Ok-clause-refused c =
    let is = few_audited c.args.bytes.now c.requires ∙ ap audited_by c.in-Ok.ensures.parts in
    subst (λ (j : Judgement). IfErr c.verdict_on.result (λ end. IsRefusedBy end j)) (sym is) c.verdict_on.ensures.refused

pub returns-in-Err-clause-refused : goal.returns-in-Err-clause-refused
returns-in-Err-clause-refused c =
    let is = few_audited c.args.bytes.now c.requires ∙ ap audited_by c.in-Err.ensures.parts in
    subst (λ (j : Judgement). IsRefusedBy c.no_verdict.result j) (sym is) c.no_verdict.ensures
