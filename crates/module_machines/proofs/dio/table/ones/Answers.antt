-- The bits below the place are those of the pins that are configured.
use Rattle.std.proofs.Common.{◌≡◌, ℕ, ◌+◌, ◌*◌, ◌<◌, Bool, sym, ◌∙◌, ap, subst, arith}
use Rattle.mcal_base.specs.Bits.{bits_of}
use Rattle.mcal_base.proofs.BitLaws.{bits_of-zero, bits_of-marked, bits_of-left, bits_of-lt}
use Rattle.module_machines.specs.dio.Table as spec
use Rattle.module_machines.proofs.dio.table.ones.Goals as goal
use Rattle.module_machines.proofs.dio.table.ones.Goals.{then-lists, else-lists}

pub loop-place-init : goal.loop-place-init
loop-place-init c = sym (bits_of-zero (λ k. spec.lists c.args.pins.now (8 * c.args.port + k)))

pub loop-place-preserved : goal.loop-place-preserved
loop-place-preserved c =
    let k = c.loop-place.place in
    let test : ℕ → Bool = λ k. spec.lists c.args.pins.now (8 * c.args.port + k) in
    let below : k < 32 = omega arith in
    elim c.if-lists.branch [
      | then-lists w ↦ w.bits-is ∙ bits_of-marked test k c.loop-place.bits below (sym c.lists.ensures ∙ w.if-lists.true) c.loop-place.invariant
      | else-lists w ↦ w.bits-is ∙ bits_of-left test k c.loop-place.bits (sym c.lists.ensures ∙ w.if-lists.false) c.loop-place.invariant
    ]

pub returns-clause-is : goal.returns-clause-is
returns-clause-is c = let all : c.loop-place.place ≡ 8 = omega arith in c.loop-place.invariant ∙ ap (λ n. bits_of (λ k. spec.lists c.args.pins.now (8 * c.args.port + k)) n) all

pub returns-clause-few : goal.returns-clause-few
returns-clause-few c =
    let all : c.loop-place.place ≡ 8 = omega arith in
    subst (λ v. v < 256) (sym (c.loop-place.invariant ∙ ap (λ n. bits_of (λ k. spec.lists c.args.pins.now (8 * c.args.port + k)) n) all)) (bits_of-lt (λ k. spec.lists c.args.pins.now (8 * c.args.port + k)) 8)
