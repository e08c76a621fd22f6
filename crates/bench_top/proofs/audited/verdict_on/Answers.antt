use Rattle.std.proofs.Common.{◌∙◌, [], Err, ap, subst, sym}
use Rattle.bench_script.proofs.Whole.{script_is}
use Rattle.bench_top.specs.Judged.{Judgement, audited_script, verdict_ending}
use Rattle.bench_top.specs.Outcomes.{Ends}
use Rattle.bench_top.proofs.Auditing.{judged_ends, script_can}
use Rattle.bench_top.proofs.Configurations.{unread_by}
use Rattle.bench_top.proofs.audited.verdict_on.Goals as goal

pub audit-requires-clause-script : goal.audit-requires-clause-script
audit-requires-clause-script c = rw c.deref.ensures.value (script_can c.args.parts.script.now c.in-Ok-directives.script.items c.requires.script c.in-Ok-directives.ensures.read)

pub audit-requires-clause-directives : goal.audit-requires-clause-directives
audit-requires-clause-directives c = rw c.deref.ensures.value (script_is c.args.parts.script.now c.in-Ok-directives.script.items c.in-Ok-directives.ensures.read).few

pub returns-in-Err-clause-refused : goal.returns-in-Err-clause-refused
returns-in-Err-clause-refused c =
    c.not_read.ensures _ (unread_by c.in-Err.end _ (λ refusal e. c.configuration.ensures.unaudited refusal (c.in-Err.is ∙ ap (λ x. Err x) e) c.args.parts.script.now c.args.parts.report.now))

pub returns-in-Err-directives-clause-refused : goal.returns-in-Err-directives-clause-refused
returns-in-Err-directives-clause-refused c =
    c.not_read-in-Err-directives.ensures _
    (unread_by c.in-Err-directives.end _ (λ refusal e. c.in-Ok.ensures.audited c.args.parts.script.now c.args.parts.report.now
    ∙ c.directives.ensures.unaudited refusal (c.in-Err-directives.is ∙ ap (λ x. Err x) e) c.in-Ok.config c.args.parts.report.now))

pub returns-in-Ok-audit-clause-judged : goal.returns-in-Ok-audit-clause-judged
returns-in-Ok-audit-clause-judged c =
    let is = c.in-Ok.ensures.audited c.args.parts.script.now c.args.parts.report.now ∙ ap (λ r. audited_script c.in-Ok.config r c.args.parts.report.now) c.in-Ok-directives.ensures.read in
    subst (λ (j : Judgement). Ends c.args.devices j (verdict_ending c.in-Ok-audit.verdict) []) (sym is)
    (judged_ends c.args.devices c.in-Ok.config c.in-Ok-directives.script.items c.args.parts.report.now c.in-Ok-audit.verdict (rw c.deref.ensures.value at c.in-Ok-audit.ensures.is))
