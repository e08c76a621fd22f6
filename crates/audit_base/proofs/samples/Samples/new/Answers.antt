use Rattle.std.proofs.Common.{ap, arith, length, [], ◌∙◌, ◌∷◌}
use Rattle.std.proofs.lemmas.List.{length-append}
use Rattle.std.specs.Prelude.{slice_get}
use Rattle.audit_base.proofs.Last.{none_more}
use Rattle.audit_base.specs.Inputs.{level_of}
use Rattle.audit_base.proofs.samples.Samples.new.Goals as goal

pub loop-input-init : goal.loop-input-init
loop-input-init c =
    let none = c.in_ok-inputs.ensures.items in
    record { size = ap length none; none = λ i t. ap (λ xs. level_of (slice_get xs i) t) none }

pub loop-input-preserved : goal.loop-input-preserved
loop-input-preserved c =
    let k = c.loop-input.invariant in
    let more = c.in_ok-push.ensures.items in
    record {
      size = ap length more ∙ (length-append c.loop-input.inputs.items (c.new.result ∷ []) ∙ omega (arith, k.size));
      none = λ i t. ap (λ xs. level_of (slice_get xs i) t) more ∙ none_more c.loop-input.inputs.items c.new.result c.new.ensures.items k.none i t;
    }

pub returns : goal.returns
returns c = record { size = omega (arith, c.loop-input.invariant.size); levels = c.loop-input.invariant.none }
