use Rattle.audit_serial.proofs.Terms.{[], ap, arith, job_result, length, length-set, map, map_more, refl, sym, take, take_all, take_more_set, ◌++◌, ◌<◌, ◌∙◌, ◌∷◌, ◌≡◌}
use Rattle.audit_serial.proofs.pending.results_of.Goals as goal

pub loop-place-init : goal.loop-place-init
loop-place-init c = record { is = refl; size = refl }

pub loop-place-preserved : goal.loop-place-preserved
loop-place-preserved c =
    let k = c.loop-place.place in
    let had = c.loop-place.had in
    let js = c.args.jobs.now in
    let inv = c.loop-place.invariant in
    let less : k < length js = omega arith in
    record {
      is =
          take_more_set had k c.item.result (omega (arith, less, inv.size, c.requires))
          ∙ (ap (λ xs. xs ++ c.item.result ∷ []) inv.is
          ∙ (ap (λ x. map (job_result c.args.results.now) (take k js) ++ x ∷ []) c.item.ensures ∙ sym (map_more (job_result c.args.results.now) js k 0 less)));
      size = length-set had k c.item.result ∙ inv.size;
    }

pub returns : goal.returns
returns c =
    let js = c.args.jobs.now in
    let all : c.loop-place.place ≡ length js = omega arith in
    ap (λ n. take n c.loop-place.had) (sym all)
    ∙ (c.loop-place.invariant.is ∙ (ap (λ n. map (job_result c.args.results.now) (take n js)) all ∙ ap (map (job_result c.args.results.now)) (take_all (length js) js (omega arith))))
