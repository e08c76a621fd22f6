use Rattle.audit_converters.proofs.Terms.{ap, append-nil, arith, drop, drop_all, length, length-append, levels_from, levels_next, listed, refl, sym, [], ◌++◌, ◌+◌, ◌∙◌, ◌∷◌}
use Rattle.audit_converters.proofs.values.Values.with_levels.Goals as goal

pub loop-input-init : goal.loop-input-init
loop-input-init c = record { is = λ taken took. refl; time = omega arith; room = omega arith }

pub loop-input-preserved : goal.loop-input-preserved
loop-input-preserved c =
    let k = c.loop-input.invariant in
    let n = c.loop-input.input-index in
    record {
      is = λ taken took.
          k.is taken took
          ∙ (levels_next taken c.loop-input.time c.args.inputs.now (listed c.loop-input.values) n (omega arith)
          ∙ sym (ap (λ xs. xs ++ levels_from taken (c.loop-input.time + 4) (drop (n + 1) c.args.inputs.now)) (c.with-values.ensures ∙ ap (λ v. listed c.loop-input.values ++ v ∷ []) (c.at-level.ensures taken took))));
      time = omega (arith, k.time);
      room = ap length c.with-values.ensures ∙ (length-append (listed c.loop-input.values) (c.at-level.result ∷ []) ∙ omega (arith, k.room));
    }

pub returns : goal.returns
returns c taken took =
    let k = c.loop-input.invariant in
    sym (k.is taken took ∙ (ap (λ xs. listed c.loop-input.values ++ levels_from taken c.loop-input.time xs) (drop_all c.loop-input.input-index c.args.inputs.now (omega arith)) ∙ append-nil (listed c.loop-input.values)))
