-- Those below the number are counted, and the one of the rank among them is found.
use Rattle.std.proofs.Common.{◌≡◌, ℕ, ◌+◌, ◌==◌, Bool, ◌&&◌, sym, ◌∙◌, ap, arith}
use Rattle.mcal_base.specs.Bits.{bit_of}
use Rattle.port_driver.specs.Writes as spec
use Rattle.port_driver.specs.laws.Ranks.{counted-zero, counted-next, counted-le, with_rank-zero, with_rank-next, bit_small}
use Rattle.port_driver.proofs.driver.PortDriver.ranked.Goals as goal
use Rattle.port_driver.proofs.driver.PortDriver.ranked.Goals.{then-here, else-here}

pub loop-number-init : goal.loop-number-init
loop-number-init c = (sym (counted-zero (spec.is_configured c.args.self.now)), sym (with_rank-zero (spec.is_configured c.args.self.now) c.args.rank))

pub overflow_add-seen : goal.overflow_add-seen
overflow_add-seen c =
    let seen : c.loop-number.seen ≡ spec.counted (spec.is_configured c.args.self.now) c.loop-number.number = c.loop-number.invariant.0 in
    let few = counted-le (spec.is_configured c.args.self.now) c.loop-number.number in
    let small = bit_small c.is_configured-here.result in
    omega (arith, seen, few, small)

pub loop-number-preserved : goal.loop-number-preserved
loop-number-preserved c =
    let k = c.loop-number.number in
    let test : ℕ → Bool = spec.is_configured c.args.self.now in
    let seen : c.loop-number.seen ≡ spec.counted test k = c.loop-number.invariant.0 in
    let found : c.loop-number.found ≡ spec.with_rank test c.args.rank k = c.loop-number.invariant.1 in
    let next = counted-next test k in
    let here : c.counted.result ≡ bit_of (test k) = c.counted.ensures ∙ ap (λ b. bit_of b) c.is_configured-here.ensures in
    let is : c.loop-number.seen + c.counted.result ≡ spec.counted test (k + 1) = omega (arith, seen, next, here) in
    let it : c.if-here.chosen ≡ (c.is_configured-here.result && c.loop-number.seen == c.args.rank) = elim c.if-here.branch [
      | then-here w ↦ w.chosen-is ∙ sym (ap (λ b. b && c.loop-number.seen == c.args.rank) w.if-here.true)
      | else-here w ↦ w.chosen-is ∙ (w.if-here.false ∙ sym (ap (λ b. b && c.loop-number.seen == c.args.rank) w.if-here.false))
    ] in
    let all : c.if-here.chosen ≡ (test k && spec.counted test k == c.args.rank) = it ∙ (ap (λ b. b && c.loop-number.seen == c.args.rank) c.is_configured-here.ensures ∙ ap (λ n. test k && n == c.args.rank) seen) in
    (is, c.chosen-found.ensures ∙ (ap (λ b. spec.chosen b k c.loop-number.found) all ∙ (ap (λ n. spec.chosen (test k && spec.counted test k == c.args.rank) k n) found ∙ sym (with_rank-next test c.args.rank k))))

pub returns : goal.returns
returns c = let all : c.loop-number.number ≡ 64 = omega arith in c.loop-number.invariant.1 ∙ ap (λ n. spec.with_rank (spec.is_configured c.args.self.now) c.args.rank n) all
