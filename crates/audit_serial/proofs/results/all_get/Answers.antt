use Rattle.audit_serial.proofs.Terms.{all_get, all_got, ap, arith, drop, one_gets, refl, sym, ◌+◌, ◌∙◌}
use Rattle.audit_serial.proofs.results.all_get.Goals as goal

pub loop-job-init : goal.loop-job-init
loop-job-init c = refl

pub loop-job-preserved : goal.loop-job-preserved
loop-job-preserved c =
    let k = c.loop-job.job-index in
    let js = c.args.jobs.now in
    ap (all_get c.args.name (drop (k + 1) js)) c.in_ok-set_item.ensures
    ∙ (sym (one_gets c.args.name k js c.loop-job.results.items 0 (omega arith)) ∙ c.loop-job.invariant)

pub returns : goal.returns
returns c = sym (all_got c.args.name c.loop-job.job-index c.args.jobs.now c.loop-job.results.items (omega arith)) ∙ c.loop-job.invariant
