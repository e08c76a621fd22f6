use Rattle.audit_converters.proofs.Terms.{after_values, ap, arith, drop, drop_all, drop_more, length, listed, mul-le, next_times, put_all, put_next, put_none, refl, sym, ◌+◌, ◌∙◌, ◌∷◌, ◌≤◌}
use Rattle.audit_converters.proofs.results.Results.store.Goals as goal

pub loop-number-init : goal.loop-number-init
loop-number-init c = record { at = omega arith; holds = λ h b p lt small. refl }

pub overflow_add-at : goal.overflow_add-at
overflow_add-at c =
    let n = c.loop-number.number in
    omega (arith, c.loop-number.invariant.at, mul-le n c.args.step 32 4294967296 (omega (arith, c.loop-number-test.true, c.len-number-end.ensures.within)) (omega arith))

pub loop-number-preserved : goal.loop-number-preserved
loop-number-preserved c =
    let k = c.loop-number.invariant in
    let n = c.loop-number.number in
    let vs = listed c.args.values in
    let less = c.loop-number-test.true in
    let v = c.at.result in
    record {
      at = next_times c.loop-number.at c.args.place n c.args.step k.at;
      holds = λ h b p lt small.
          ap (λ ws. after_values c.args.group c.args.buffer (c.loop-number.at + c.args.step) c.args.step (drop (n + 1) vs) ws h b p) c.put.ensures.is
          ∙ (put_next c.loop-number.self c.args.group c.args.buffer c.loop-number.at c.args.step v (drop (n + 1) vs) h b p c.put.ensures.size c.requires small
          ∙ (ap (λ x. after_values c.args.group c.args.buffer c.loop-number.at c.args.step (x ∷ drop (n + 1) vs) c.loop-number.self h b p) c.at.ensures
          ∙ (ap (λ xs. after_values c.args.group c.args.buffer c.loop-number.at c.args.step xs c.loop-number.self h b p) (sym (drop_more vs n 0 (omega (arith, less, c.len-number-end.ensures.is))))
          ∙ k.holds h b p lt small)));
    }

pub returns : goal.returns
returns c results holds h b p lt small =
    let k = c.loop-number.invariant in
    let n = c.loop-number.number in
    let vs = listed c.args.values in
    let all : length vs ≤ n = omega (arith, c.loop-number-test.false, c.len-number-end.ensures.is) in
    sym (ap (λ xs. after_values c.args.group c.args.buffer c.loop-number.at c.args.step xs c.loop-number.self h b p) (drop_all n vs all) ∙ put_none c.args.group c.args.buffer c.loop-number.at c.args.step c.loop-number.self h b p)
    ∙ (k.holds h b p lt small ∙ put_all c.args.self.now results c.args.group c.args.buffer c.args.place c.args.step vs h b p holds lt small)
